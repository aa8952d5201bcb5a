-- The instances of a component have the values that are kept of them.
use Rattle.std.proofs.Common.{◌≡◌, ℕ, List, Some, None, subst}
use Rattle.rdl_tree.specs.Items.{Items}
use Rattle.rdl_scope.specs.Closed.{Parts, no_parts, part, Made, component}
use Rattle.rdl_scope.specs.ItemFaults.{fault_of}
use Rattle.rdl_elab.specs.Found.{ArePartsFound}
use Rattle.rdl_seen.specs.Meaning.{stated_of, HasValues}
use Rattle.rdl_seen.proofs.Whole.{values_are_stated, values_are_whole}
use Rattle.sound_nodes.proofs.Fields.{AreGood}

pub made-values : (d : Items) (a : List ℕ) (c : Made) → fault_of d ≡ None → component d a ≡ Some c → HasValues c.head (stated_of c.head)
made-values d a c none is = subst (HasValues c.head) (values_are_stated d a c none is) (values_are_whole d a c none is)

pub all-good : (d : Items) (b : List ℕ) (ps : Parts) → fault_of d ≡ None → ArePartsFound d b ps → AreGood ps
all-good d b no_parts none found = tt
all-good d b (part at s h inside rest) none found =
    let one = found.0 in
    let c : Made = record { head = h; parts = inside } in (record { values = made-values d h.at c none one.component }, all-good d b rest none found.2)
