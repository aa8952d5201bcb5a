-- Loops over statements that check in which order they stand in a text.
use Rattle.std.proofs.Common.{◌≡◌, ℕ, suc, ◌+◌, ◌<◌, ◌≤◌, length, true, false, cond, List, [], ◌∷◌, ◌++◌, take, drop, get_or, refl, ap, sym, ◌∙◌, subst, arith, drop-cons, Option, Some, None, IfSome}
use Rattle.std.proofs.lemmas.List.{drop_all}
use Rattle.rdl_origin.specs.declared.origin.Origin.{Origin}
use Rattle.rdl_source.specs.Laid.{Bare, Laid, ended}
use Rattle.rdl_source.specs.View.{add_to, add, put, list_of, last_of, bare_of}
use Rattle.rdl_source.specs.declared.span.Span.{Span}
use Rattle.rdl_source.specs.declared.statement.Statement.{Statement}
use Rattle.rdl_weave.specs.InTurn.{is_still, still_one, still, StandsBefore, InTurn, InTurnInside, InTurnOf}
use Rattle.rdl_weave.specs.Keeping.{core}
use Rattle.rdl_weave.proofs.Kept.{laid_of-list_of}

-- ---- One statement.

-- one that an edit touched or moved asks for nothing
pub behind_none : (source sizes text : List ℕ) (b : Bare) (own : List Origin) (at : ℕ) → is_still sizes b.items own ≡ false → (ss : List Span) → InTurn source ss (drop at text)
    → InTurn source (still_one sizes b own ++ ss) (drop at text)
behind_none source sizes text b own at e ss h = subst (λ q. InTurn source (cond q (core b ∷ []) [] ++ ss) (drop at text)) (sym e) h

-- any other stands behind those before it
pub behind_some : (source sizes text : List ℕ) (b : Bare) (own : List Origin) (at : ℕ) (found : Option ℕ) → is_still sizes b.items own ≡ true
    → IfSome found (λ end. StandsBefore source (core b) (drop at text) (drop end text))
    → IfSome found (λ end. (ss : List Span) → InTurn source ss (drop end text) → InTurn source (still_one sizes b own ++ ss) (drop at text))
behind_some source sizes text b own at None e h = tt
behind_some source sizes text b own at (Some end) e h = λ ss k. subst (λ q. InTurn source (cond q (core b ∷ []) [] ++ ss) (drop at text)) (sym e) (drop end text, h, k)

-- ---- The statements of a body.

still-add : (sizes : List ℕ) (s : Statement) (rest : Laid) (os : List Origin) → still sizes (add s rest) os ≡ still_one sizes (bare_of s) (take s.items os) ++ still sizes rest (drop s.items os)
still-add sizes s rest os =
    elim s.inside as (λ o. still sizes (add_to (bare_of s) o rest) os ≡ still_one sizes (bare_of s) (take s.items os) ++ still sizes rest (drop s.items os))
    [ None ↦ refl | Some i ↦ refl ]

whole : (ss : List Statement) (laid : Laid) → ss ≡ list_of laid → put (drop 0 ss) (ended (last_of laid)) ≡ laid
whole ss laid f = ap (λ (l : List Statement). put l (ended (last_of laid))) f ∙ laid_of-list_of laid

at_place : (ss : List Statement) (i : ℕ) (s : Statement) → i < length ss → s ≡ get_or ss i s → drop i ss ≡ s ∷ drop (i + 1) ss
at_place ss i s h e =
    let next : suc i ≡ i + 1 = omega arith in
    drop-cons ss i s h ∙ ((λ k. sym e k ∷ drop (suc i) ss) ∙ ap (λ (n : ℕ). s ∷ drop n ss) next)

pub turn_begun : (source sizes text : List ℕ) (ss : List Statement) (laid : Laid) (os : List Origin) → ss ≡ list_of laid
    → InTurn source (still sizes (put (drop 0 ss) (ended (last_of laid))) os) (drop 0 text) → InTurn source (still sizes laid os) text
turn_begun source sizes text ss laid os f h = subst (λ (l : Laid). InTurn source (still sizes l os) text) (whole ss laid f) h

pub turn_more : (source sizes text : List ℕ) (ss : List Statement) (i : ℕ) (s : Statement) (last : Span) (os own others : List Origin) (at end : ℕ) → i < length ss → s ≡ get_or ss i s
    → own ≡ take s.items os → others ≡ drop s.items os
    → ((qs : List Span) → InTurn source qs (drop end text) → InTurn source (still_one sizes (bare_of s) own ++ qs) (drop at text))
    → InTurn source (still sizes (put (drop (i + 1) ss) (ended last)) others) (drop end text) → InTurn source (still sizes (put (drop i ss) (ended last)) os) (drop at text)
turn_more source sizes text ss i s last os own others at end h e f g one rest =
    let more = put (drop (i + 1) ss) (ended last) in
    let rest' : InTurn source (still sizes more (drop s.items os)) (drop end text) = subst (λ (o : List Origin). InTurn source (still sizes more o) (drop end text)) g rest in
    let step : InTurn source (still_one sizes (bare_of s) (take s.items os) ++ still sizes more (drop s.items os)) (drop at text) =
    subst (λ (o : List Origin). InTurn source (still_one sizes (bare_of s) o ++ still sizes more (drop s.items os)) (drop at text)) f (one (still sizes more (drop s.items os)) rest') in
    subst (λ (l : List Statement). InTurn source (still sizes (put l (ended last)) os) (drop at text)) (sym (at_place ss i s h e))
    (subst (λ (l : List Span). InTurn source l (drop at text)) (sym (still-add sizes s more os)) step)

pub turn_done : (source sizes text : List ℕ) (ss : List Statement) (i : ℕ) (last : Span) (os : List Origin) → length ss ≤ i
    → InTurn source (still sizes (put (drop i ss) (ended last)) os) text
turn_done source sizes text ss i last os h = subst (λ (l : List Statement). InTurn source (still sizes (put l (ended last)) os) text) (sym (drop_all i ss h)) tt

-- ---- And inside them.

inside_add : (source sizes text : List ℕ) (s : Statement) (rest : Laid) (os : List Origin) → InTurnOf source sizes text s.items s.inside (take s.items os)
    → InTurnInside source sizes text rest (drop s.items os) → InTurnInside source sizes text (add s rest) os
inside_add source sizes text s rest os h k =
    elim s.inside as (λ o. InTurnOf source sizes text s.items o (take s.items os) → InTurnInside source sizes text (add_to (bare_of s) o rest) os)
    [ None ↦ λ h. k | Some i ↦ λ h. (h, k) ] h

pub inside_begun : (source sizes text : List ℕ) (ss : List Statement) (laid : Laid) (os : List Origin) → ss ≡ list_of laid
    → InTurnInside source sizes text (put (drop 0 ss) (ended (last_of laid))) os → InTurnInside source sizes text laid os
inside_begun source sizes text ss laid os f h = subst (λ (l : Laid). InTurnInside source sizes text l os) (whole ss laid f) h

pub inside_more : (source sizes text : List ℕ) (ss : List Statement) (i : ℕ) (s : Statement) (last : Span) (os own others : List Origin) → i < length ss → s ≡ get_or ss i s
    → own ≡ take s.items os → others ≡ drop s.items os → InTurnOf source sizes text s.items s.inside own
    → InTurnInside source sizes text (put (drop (i + 1) ss) (ended last)) others → InTurnInside source sizes text (put (drop i ss) (ended last)) os
inside_more source sizes text ss i s last os own others h e f g one rest =
    let more = put (drop (i + 1) ss) (ended last) in
    subst (λ (l : List Statement). InTurnInside source sizes text (put l (ended last)) os) (sym (at_place ss i s h e))
    (inside_add source sizes text s more os (subst (λ (o : List Origin). InTurnOf source sizes text s.items s.inside o) f one)
    (subst (λ (o : List Origin). InTurnInside source sizes text more o) g rest))

pub inside_done : (source sizes text : List ℕ) (ss : List Statement) (i : ℕ) (last : Span) (os : List Origin) → length ss ≤ i
    → InTurnInside source sizes text (put (drop i ss) (ended last)) os
inside_done source sizes text ss i last os h = subst (λ (l : List Statement). InTurnInside source sizes text (put l (ended last)) os) (sym (drop_all i ss h)) tt
