-- Loops over statements that look whether spans cover them.
use Rattle.std.proofs.Common.{◌≡◌, ℕ, suc, ◌+◌, ◌<◌, ◌≤◌, Bool, true, false, ◌&&◌, List, ◌∷◌, length, take, drop, get_or, Option, Some, None, refl, ap, sym, ◌∙◌, arith, drop-cons}
use Rattle.std.proofs.lemmas.List.{drop_all}
use Rattle.rdl_origin.specs.declared.origin.Origin.{Origin}
use Rattle.rdl_source.specs.Laid.{Bare, Laid, ended}
use Rattle.rdl_source.specs.View.{add_to, put, list_of, last_of, bare_of}
use Rattle.rdl_source.specs.declared.span.Span.{Span}
use Rattle.rdl_source.specs.declared.statement.Inner.{Inner}
use Rattle.rdl_source.specs.declared.statement.Statement.{Statement}
use Rattle.rdl_weave.specs.Coarse.{has, covers_one, covers, covers_inside}
use Rattle.rdl_weave.proofs.Kept.{laid_of-list_of}

abbrev One : (spans : List Span) → (sizes : List ℕ) → Statement → List Origin → Bool
One spans sizes s own = covers_one spans sizes (bare_of s) own (covers_inside spans sizes s.inside own)

covers_add : (spans : List Span) (sizes : List ℕ) (b : Bare) (o : Option Inner) (rest : Laid) (os : List Origin)
    → covers spans sizes (add_to b o rest) os ≡ (covers_one spans sizes b (take b.items os) (covers_inside spans sizes o (take b.items os)) && covers spans sizes rest (drop b.items os))
covers_add spans sizes b None rest os = refl
covers_add spans sizes b (Some i) rest os = refl

pub covers_begun : (spans : List Span) (sizes : List ℕ) (ss : List Statement) (l : Laid) (os : List Origin) → ss ≡ list_of l
    → covers spans sizes l os ≡ covers spans sizes (put (drop 0 ss) (ended (last_of l))) os
covers_begun spans sizes ss l os e = ap (λ m. covers spans sizes m os) (sym (laid_of-list_of l)) ∙ ap (λ ts. covers spans sizes (put ts (ended (last_of l))) os) (sym e)

step : (spans : List Span) (sizes : List ℕ) (ss : List Statement) (i : ℕ) (s : Statement) (last : Span) (os own others : List Origin) → i < length ss → s ≡ get_or ss i s
    → own ≡ take s.items os → others ≡ drop s.items os
    → covers spans sizes (put (drop i ss) (ended last)) os ≡ (One spans sizes s own && covers spans sizes (put (drop (i + 1) ss) (ended last)) others)
step spans sizes ss i s last os own others h e f g =
    let split : drop i ss ≡ s ∷ drop (suc i) ss = drop-cons ss i s h ∙ ap (λ t. t ∷ drop (suc i) ss) (sym e) in
    let next : suc i ≡ i + 1 = omega arith in
    ap (λ ts. covers spans sizes (put ts (ended last)) os) split
    ∙ (covers_add spans sizes (bare_of s) s.inside (put (drop (suc i) ss) (ended last)) os
    ∙ (λ j. One spans sizes s (sym f j) && covers spans sizes (put (drop (next j) ss) (ended last)) (sym g j)))

pub covers_more : (spans : List Span) (sizes : List ℕ) (ss : List Statement) (i : ℕ) (s : Statement) (last : Span) (os own others : List Origin) (all : Bool) → i < length ss → s ≡ get_or ss i s
    → own ≡ take s.items os → others ≡ drop s.items os → true ≡ One spans sizes s own → all ≡ covers spans sizes (put (drop i ss) (ended last)) os
    → all ≡ covers spans sizes (put (drop (i + 1) ss) (ended last)) others
covers_more spans sizes ss i s last os own others all h e f g one k =
    k ∙ (step spans sizes ss i s last os own others h e f g ∙ ap (λ b. b && covers spans sizes (put (drop (i + 1) ss) (ended last)) others) (sym one))

pub covers_not : (spans : List Span) (sizes : List ℕ) (ss : List Statement) (i : ℕ) (s : Statement) (last : Span) (os own others : List Origin) (all : Bool) → i < length ss → s ≡ get_or ss i s
    → own ≡ take s.items os → others ≡ drop s.items os → false ≡ One spans sizes s own → all ≡ covers spans sizes (put (drop i ss) (ended last)) os
    → false ≡ all
covers_not spans sizes ss i s last os own others all h e f g one k =
    sym (k ∙ (step spans sizes ss i s last os own others h e f g ∙ ap (λ b. b && covers spans sizes (put (drop (i + 1) ss) (ended last)) others) (sym one)))

pub covers_done : (spans : List Span) (sizes : List ℕ) (ss : List Statement) (i : ℕ) (last : Span) (os : List Origin) (all r : Bool) → length ss ≤ i → r ≡ has spans last
    → all ≡ covers spans sizes (put (drop i ss) (ended last)) os → r ≡ all
covers_done spans sizes ss i last os all r h e k = e ∙ sym (k ∙ ap (λ ts. covers spans sizes (put ts (ended last)) os) (drop_all i ss h))
