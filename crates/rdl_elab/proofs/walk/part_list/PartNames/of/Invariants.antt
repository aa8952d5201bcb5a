use Rattle.std.proofs.Common.{◌≡◌, ℕ, List, true}
use Rattle.rdl_elab.specs.PartNames.{has_name, place_under}
use Rattle.rdl_elab.proofs.PartPlaces.{place_behind}
use Rattle.rdl_elab.proofs.walk.part_list.PartNames.of.Given as goal

abbrev pub invariant-loop-i : goal.invariant-loop-i
invariant-loop-i l = (q : List ℕ) → has_name l.names.marks q ≡ true → place_under l.names q ≡ place_behind q l.i l.parts
