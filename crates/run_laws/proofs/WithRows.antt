-- A map that has rows has no fault of its items.
use Rattle.std.proofs.Common.{◌≡◌, ℕ, List, Option, Some, None, Ok, true≢false, refl, ap, sym, is_ok}
use Rattle.rdl_tree.specs.Items.{Items}
use Rattle.rdl_tree.specs.declared.fault.Fault.{Fault}
use Rattle.rdl_scope.specs.ItemFaults.{fault_of}
use Rattle.rdl_elab.specs.Faults.{unless_fault, elaborated}
use Rattle.rdl_elab.specs.declared.row.Row.{Row}

pub without-fault : (d : Items) (option : Option (List ℕ)) (rows : List Row) → elaborated d option ≡ Ok rows → fault_of d ≡ None
without-fault d option rows e = by (fault_of d) e
  where
    by : (o : Option Fault) → unless_fault d option o ≡ Ok rows → o ≡ None
    by None h = refl
    by (Some fault) h = absurd (true≢false (sym (ap is_ok h)))
