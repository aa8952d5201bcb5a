use Rattle.std.proofs.Common.{◌≡◌, take, sum_by}
use Rattle.rdl_tree.specs.Weight.{capped}
use Rattle.rdl_tree.specs.PatchWeight.{patch_weight}
use Rattle.rdl_edit.proofs.back.Back.weight.Given as goal

abbrev pub invariant-loop-patch : goal.invariant-loop-patch
invariant-loop-patch l = l.sum ≡ capped (sum_by patch_weight (take l.patch-index l.patch-items))
