-- The number under a name leads to the first instance of the name.
use Rattle.std.proofs.Common.{◌≡◌, ℕ, suc, ◌+◌, ◌<◌, ◌≤◌, List, [], ◌∷◌, length, drop, get_or, Bool, true, false, Option, Some, None, option_map, refl, ap, sym, ◌∙◌, drop-cons, add-one}
use Rattle.std.specs.Prelude.{IfSome, option_and_then, slice_get, unwrap_or, bytes_eq, if◌then◌else◌}
use Rattle.std.proofs.lemmas.List.{drop_all}
use Rattle.std.proofs.lemmas.Slice.Eq.{bytes_eq-Decides}
use Rattle.rdl_elab.specs.Kept.{Part}
use Rattle.rdl_elab.specs.PartNames.{IsFirstNamed, part_named, place_named}

pub part-placed : (q : List ℕ) (ps : List Part) → option_and_then (slice_get ps) (place_named q ps) ≡ part_named q ps
part-placed q [] = refl
part-placed q (p ∷ ps) = by (part-placed q ps) (bytes_eq p.shell.name q)
  where
    later : (o : Option ℕ) → option_and_then (slice_get (p ∷ ps)) (option_map suc o) ≡ option_and_then (slice_get ps) o
    later None = refl
    later (Some k) = refl

    by : option_and_then (slice_get ps) (place_named q ps) ≡ part_named q ps → (test : Bool) → option_and_then (slice_get (p ∷ ps)) (if test then Some 0 else option_map suc (place_named q ps)) ≡ (if test then Some p else part_named q ps)
    by ih true = refl
    by ih false = later (place_named q ps) ∙ ih

-- the number of the first instance of the name among those from number i on
abbrev pub place_behind : List ℕ → ℕ → List Part → Option ℕ
place_behind q i ps = option_map (λ k. i + k) (place_named q (drop i ps))

named-next : (q : List ℕ) (i : ℕ) (ps : List Part) (p : Part) → i < length ps → part_named q (drop i ps) ≡ (if bytes_eq (get_or ps i p).shell.name q then Some (get_or ps i p) else part_named q (drop (i + 1) ps))
named-next q i ps p h =
    let first : drop i ps ≡ get_or ps i p ∷ drop (i + 1) ps = rw add-one (drop-cons ps i p h) in
    ap (part_named q) first

-- along the instances
pub named-here : (q : List ℕ) (i : ℕ) (ps : List Part) (p : Part) → i < length ps → bytes_eq (get_or ps i p).shell.name q ≡ true → part_named q (drop i ps) ≡ Some (get_or ps i p)
named-here q i ps p h e = named-next q i ps p h ∙ ap (λ b. if b then Some (get_or ps i p) else part_named q (drop (i + 1) ps)) e

pub named-later : (q : List ℕ) (i : ℕ) (ps : List Part) (p : Part) → i < length ps → bytes_eq (get_or ps i p).shell.name q ≡ false → part_named q (drop i ps) ≡ part_named q (drop (i + 1) ps)
named-later q i ps p h e = named-next q i ps p h ∙ ap (λ b. if b then Some (get_or ps i p) else part_named q (drop (i + 1) ps)) e

pub named-end : (q : List ℕ) (i : ℕ) (ps : List Part) → length ps ≤ i → part_named q (drop i ps) ≡ None
named-end q i ps h = ap (part_named q) (drop_all i ps h)

pub ruleset naming = (named-here, named-later, named-end)

-- an instance that is found by a name has it
has-name : (name : List ℕ) (ps : List Part) (p : Part) → part_named name ps ≡ Some p → p.shell.name ≡ name
has-name name [] p h = absurd cc
has-name name (q ∷ ps) p h = by (λ g. has-name name ps p g) (bytes_eq q.shell.name name) refl h
  where
    by : (part_named name ps ≡ Some p → p.shell.name ≡ name) → (b : Bool) → bytes_eq q.shell.name name ≡ b → (if b then Some q else part_named name ps) ≡ Some p → p.shell.name ≡ name
    by ih true e g = let same : q ≡ p = ap (λ o. unwrap_or o q) g in ap (λ (x : Part). x.shell.name) (sym same) ∙ (bytes_eq-Decides q.shell.name name).0 e
    by ih false e g = ih g

-- so it is found by its own
pub found-again : (name : List ℕ) (ps : List Part) (o : Option Part) → o ≡ part_named name ps → IfSome o (IsFirstNamed ps)
found-again name ps None e = tt
found-again name ps (Some p) e = ap (λ x. part_named x ps) (has-name name ps p (sym e)) ∙ sym e

pub ruleset again = (found-again)
