-- Loops over statements that check what a text keeps.
use Rattle.std.proofs.Common.{◌≡◌, ℕ, zero, suc, ◌+◌, ◌<◌, ◌≤◌, length, List, [], ◌∷◌, take, drop, get_or, refl, ap, sym, ◌∙◌, subst, arith, drop-cons, Option, Some, None}
use Rattle.std.proofs.lemmas.List.{drop_all}
use Rattle.rdl_origin.specs.declared.origin.Origin.{Origin}
use Rattle.rdl_source.specs.Laid.{Bare, Laid, ended, bare, braced, count}
use Rattle.rdl_source.specs.View.{add_to, add, put, laid_of, list_of, last_of, bare_of}
use Rattle.rdl_source.specs.declared.span.Span.{Span}
use Rattle.rdl_source.specs.declared.statement.Inner.{Inner}
use Rattle.rdl_source.specs.declared.statement.Statement.{Statement}
use Rattle.rdl_weave.specs.Standing.{Stands}
use Rattle.rdl_weave.specs.Keeping.{Keeps, KeepsOne, KeepsInside}

abbrev pub inside_count : Option Inner → ℕ
inside_count None = 0
inside_count (Some i) = count i.body

-- a statement and what follows it are kept
pub keeps-add : (source sizes text : List ℕ) (s : Statement) (rest : Laid) (os : List Origin)
    → KeepsOne source sizes text (bare_of s) (take s.items os) (KeepsInside source sizes text s.inside (take s.items os)) → Keeps source sizes text rest (drop s.items os)
    → Keeps source sizes text (add s rest) os
keeps-add source sizes text s rest os h k =
    elim s.inside as (λ o. KeepsOne source sizes text (bare_of s) (take s.items os) (KeepsInside source sizes text o (take s.items os)) → Keeps source sizes text (add_to (bare_of s) o rest) os)
    [ None ↦ λ h. (h, k) | Some i ↦ λ h. (h, k) ] h

count-add_to : (b : Bare) (o : Option Inner) (rest : Laid) → count (add_to b o rest) ≡ inside_count o + 1 + count rest
count-add_to b None rest = omega arith
count-add_to b (Some i) rest = omega arith

count-add : (s : Statement) (rest : Laid) → count (add s rest) ≡ inside_count s.inside + 1 + count rest
count-add s rest = count-add_to (bare_of s) s.inside rest

count-some : (l : Laid) → 1 ≤ count l
count-some (ended last) = omega arith
count-some (bare b rest) = omega arith
count-some (braced b br body rest) = omega arith

pub laid_of-list_of : (l : Laid) → laid_of (list_of l) (last_of l) ≡ l
laid_of-list_of (ended last) = refl
laid_of-list_of (bare b rest) = ap (bare b) (laid_of-list_of rest)
laid_of-list_of (braced b br body rest) = ap (braced b br body) (laid_of-list_of rest)

count-place : (ss : List Statement) (last : Span) (i : ℕ) (s : Statement) → i < length ss → inside_count (get_or ss i s).inside + 2 ≤ count (laid_of ss last)
count-place [] last i s h = absurd (omega (arith, h))
count-place (t ∷ ss) last zero s h = omega (arith, count-add t (laid_of ss last), count-some (laid_of ss last))
count-place (t ∷ ss) last (suc i) s h = omega (arith, count-add t (laid_of ss last), count-place ss last i s (omega (arith, h)))

-- the step of a loop over statements
pub count-statement : (ss : List Statement) (i : ℕ) (s : Statement) (laid : Laid) → i < length ss → s ≡ get_or ss i s → ss ≡ list_of laid → inside_count s.inside + 2 ≤ count laid
count-statement ss i s laid h e f =
    omega (arith, ap (λ (t : Statement). inside_count t.inside) e, count-place ss (last_of laid) i s h, ap (λ (l : List Statement). count (laid_of l (last_of laid))) f, ap count (laid_of-list_of laid))

pub keeps-begun : (source sizes text : List ℕ) (ss : List Statement) (laid : Laid) (os : List Origin) → ss ≡ list_of laid
    → Keeps source sizes text (put (drop 0 ss) (ended (last_of laid))) os → Keeps source sizes text laid os
keeps-begun source sizes text ss laid os f k =
    subst (λ (l : Laid). Keeps source sizes text l os) (ap (λ (l : List Statement). put l (ended (last_of laid))) f ∙ laid_of-list_of laid) k

pub keeps-more : (source sizes text : List ℕ) (ss : List Statement) (i : ℕ) (s : Statement) (last : Span) (os own others : List Origin) → i < length ss → s ≡ get_or ss i s
    → own ≡ take s.items os → others ≡ drop s.items os
    → KeepsOne source sizes text (bare_of s) own (KeepsInside source sizes text s.inside own)
    → Keeps source sizes text (put (drop (i + 1) ss) (ended last)) others → Keeps source sizes text (put (drop i ss) (ended last)) os
keeps-more source sizes text ss i s last os own others h e f g one rest =
    let one' : KeepsOne source sizes text (bare_of s) (take s.items os) (KeepsInside source sizes text s.inside (take s.items os)) =
    subst (λ (o : List Origin). KeepsOne source sizes text (bare_of s) o (KeepsInside source sizes text s.inside o)) f one in
    let next : i + 1 ≡ suc i = omega arith in
    let rest' : Keeps source sizes text (put (drop (suc i) ss) (ended last)) (drop s.items os) =
    subst (λ (o : List Origin). Keeps source sizes text (put (drop (suc i) ss) (ended last)) o) g (subst (λ (k : ℕ). Keeps source sizes text (put (drop k ss) (ended last)) others) next rest) in
    let split : drop i ss ≡ s ∷ drop (suc i) ss = drop-cons ss i s h ∙ ap (λ (t : Statement). t ∷ drop (suc i) ss) (sym e) in
    subst (λ (l : List Statement). Keeps source sizes text (put l (ended last)) os) (sym split) (keeps-add source sizes text s (put (drop (suc i) ss) (ended last)) os one' rest')

pub keeps-done : (source sizes text : List ℕ) (ss : List Statement) (i : ℕ) (last : Span) (os : List Origin) → length ss ≤ i → Stands source last text
    → Keeps source sizes text (put (drop i ss) (ended last)) os
keeps-done source sizes text ss i last os h k = subst (λ (l : List Statement). Keeps source sizes text (put l (ended last)) os) (sym (drop_all i ss h)) k
