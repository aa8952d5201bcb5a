-- The inverses of patches are the way back, and they are cheap.
use Rattle.std.proofs.Common.{◌≡◌, ◌≤◌, List, sym, subst}
use Rattle.rdl_tree.specs.Items.{Items}
use Rattle.rdl_tree.specs.Depth.{depth}
use Rattle.rdl_tree.specs.Patch.{AllFit, inverses}
use Rattle.rdl_tree.specs.declared.patch.Patch.{Patch}
use Rattle.rdl_tree.proofs.Patching.{length-inverses}
use Rattle.rdl_tree.proofs.PatchWeights.{weight-inverses}
use Rattle.rdl_edit.specs.Backs.{IsCheap}

pub cheap : (ps back : List Patch) (old : Items) → AllFit ps old → depth old ≤ 16 → back ≡ inverses ps old → IsCheap ps old back
cheap ps back old fit deep b =
    subst (IsCheap ps old) (sym b) (record { as_many = length-inverses ps old fit; light = weight-inverses ps old fit deep })
