-- Steps along the names of a target, by what is kept of the components.
use Rattle.std.proofs.Common.{◌≡◌, ◌≤◌, ◌<◌, length, get_or, arith, ℕ, true, List, [], ◌∷◌, Some, None, Option, refl, ap, ◌∙◌, option_map}
use Rattle.std.specs.Prelude.{option_and_then, slice_get, nat_lt, if◌then◌else◌}
use Rattle.rdl_tree.specs.Address.{number_of}
use Rattle.rdl_elab.specs.Kept.{Part}
use Rattle.rdl_elab.specs.declared.walk.finished.Finished.{Finished}
use Rattle.rdl_elab.specs.PartNames.{part_named}
use Rattle.rdl_elab.specs.KeptTargets.{is_before, kept_from, kept_passes, kept_target}

module _ (fs : List Finished) where
  last : (o : Option Part) → option_map (λ (p : Part). p.at ∷ []) o ≡ option_and_then (λ (p : Part). kept_from fs p []) o
  last None = refl
  last (Some p) = refl

  passes-from : (names : List (List ℕ)) (name : List ℕ) (ps : List Part) → kept_passes fs ps (name ∷ names) ≡ option_and_then (λ (p : Part). kept_from fs p names) (part_named name ps)
  passes-from [] name ps = last (part_named name ps)
  passes-from (next ∷ names) name ps =
      λ i. option_and_then (λ (p : Part). option_map (λ more. p.at ∷ more) (option_and_then (λ (f : Finished). passes-from names next f.parts.items i) (slice_get fs p.component))) (part_named name ps)

  -- the target begins at this instance
  target-from : (ps : List Part) (n : ℕ) (name : List ℕ) (names : List (List ℕ)) (p : Part) → part_named name ps ≡ Some p → kept_target fs ps n (name ∷ names) ≡ (if nat_lt (number_of p.at) n then kept_from fs p names else None)
  target-from ps n name names p e =
      (λ i. if is_before n (e i) then passes-from names name ps i else None)
      ∙ ap (λ o. if nat_lt (number_of p.at) n then option_and_then (λ (q : Part). kept_from fs q names) o else None) e

  -- which stands before item n
  pub target-path : (ps : List Part) (n : ℕ) (name : List ℕ) (names : List (List ℕ)) (p : Part) → part_named name ps ≡ Some p → nat_lt (number_of p.at) n ≡ true → kept_target fs ps n (name ∷ names) ≡ kept_from fs p names
  target-path ps n name names p e before = target-from ps n name names p e ∙ ap (λ b. if b then kept_from fs p names else None) before

-- a list of one name
pub one-name : (names : List (List ℕ)) (x : List ℕ) → 1 ≤ length names → length names < 2 → x ≡ get_or names 0 x → x ∷ [] ≡ names
one-name [] x l h e = absurd (omega (arith, l))
one-name (y ∷ []) x l h e = ap (λ z. z ∷ []) e
one-name (y ∷ z ∷ zs) x l h e = absurd (omega (arith, h))
