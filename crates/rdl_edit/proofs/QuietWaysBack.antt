-- What takes a quiet step back is quiet.
use Rattle.std.proofs.Common.{◌≡◌, List, sym, ap, ◌∙◌, subst}
use Rattle.rdl_tree.specs.Items.{Items}
use Rattle.rdl_tree.specs.Patch.{AllFit, image, inverses}
use Rattle.rdl_tree.specs.declared.patch.Patch.{Patch}
use Rattle.rdl_tree.proofs.Patching.{image-inverses}
use Rattle.rdl_reach.specs.Skeleton.{skeleton}
use Rattle.rdl_reach.proofs.QuietBacks.{quiet-back as patches-back}
use Rattle.rdl_edit.specs.QuietSteps.{IsQuietStep}

pub quiet-back : (ps back : List Patch) (old new : Items) → AllFit ps old → new ≡ image ps old → back ≡ inverses ps old → IsQuietStep ps old → IsQuietStep back new
quiet-back ps back old new fit made is q =
    subst (IsQuietStep back) (sym made)
    (subst (λ qs. IsQuietStep qs (image ps old)) (sym is)
    (record { quiet = patches-back ps old fit q.quiet; stays = ap skeleton (image-inverses ps old fit) ∙ sym q.stays }))
