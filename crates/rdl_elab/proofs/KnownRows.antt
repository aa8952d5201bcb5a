-- A map that has rows: no item of it has a fault, it nests at most 16 deep, and there is a top.
use Rattle.std.proofs.Common.{◌≡◌, ℕ, ◌≤◌, Bool, true, false, ◌||◌, List, [], Option, Some, None, Result, Ok, Err, refl, ap, sym, ◌∙◌, is_ok}
use Rattle.std.specs.Prelude.{nat_lt}
use Rattle.std.proofs.lemmas.Bool.{ltb-false}
use Rattle.std.proofs.lemmas.Option.{none-some}
use Rattle.rdl_tree.specs.Depth.{depth}
use Rattle.rdl_tree.specs.Items.{Items, count}
use Rattle.rdl_tree.specs.Weight.{weight}
use Rattle.rdl_tree.specs.declared.fault.Fault.{Fault}
use Rattle.rdl_tree.specs.declared.fault.FaultKind.TheVariants.{DescriptionTooLarge}
use Rattle.rdl_scope.specs.ItemFaults.{first_fault, is_too_large, fault_of}
use Rattle.rdl_elab.specs.declared.row.Row.{Row}
use Rattle.rdl_elab.specs.Faults.{elaborated, top_from, unless_fault}
use Rattle.rdl_elab.specs.Known.{HasRows}
use Rattle.rdl_elab.proofs.KeptAnswers.{judged-top}

never-both : (answer : Result (List Row) Fault) (rows : List Row) (f : Fault) → answer ≡ Ok rows → answer ≡ Err f → ⊥
never-both answer rows f good bad = let no : true ≡ false = ap is_ok (sym good ∙ bad) in cc

pub first-false : (a b : Bool) → (a || b) ≡ false → a ≡ false
first-false true b e = cc
first-false false b e = refl

pub not-large : (d : Items) → fault_of d ≡ None → is_too_large d ≡ false
not-large d h = by (is_too_large d) h
  where
    by : (z : Bool) → ◌≡◌ {A = Option Fault} (elim z [ true ↦ Some (record { kind = DescriptionTooLarge; address = [] }) | false ↦ first_fault d None [] d 0 d ]) None → z ≡ false
    by true e = absurd (none-some (record { kind = DescriptionTooLarge; address = [] }) (sym e))
    by false e = refl

module _ (d : Items) (wanted : Option (List ℕ)) (known : HasRows d wanted) where
  pub no-fault : (f : Fault) → elaborated d wanted ≡ Err f → ⊥
  no-fault f e = never-both (elaborated d wanted) known.rows f known.are e

  pub no-item-fault : fault_of d ≡ None
  no-item-fault = by (fault_of d) known.are
    where
      by : (o : Option Fault) → unless_fault d wanted o ≡ Ok known.rows → o ≡ None
      by None h = refl
      by (Some f) h = absurd (never-both (Err f) known.rows f h refl)

  pub levels-few : depth d ≤ 16
  levels-few =
      ltb-false 16 (depth d) (first-false (nat_lt 16 (depth d)) (nat_lt 65536 (count d)) (first-false (nat_lt 16 (depth d) || nat_lt 65536 (count d)) (nat_lt 8388608 (weight d)) (not-large d no-item-fault)))

  pub top-there : top_from wanted 0 d ≡ None → ⊥
  top-there e = no-fault _ (judged-top d wanted None no-item-fault e)
