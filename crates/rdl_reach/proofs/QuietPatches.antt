-- Quiet patches edit no body, where the skeleton of the description stays.
use Rattle.std.proofs.Common.{◌||◌}
use Rattle.rdl_tree.specs.Patch.{image, inverses}
use Rattle.rdl_marks.specs.Marks.{no_marks}
use Rattle.rdl_marks.proofs.Described.{nothing_changed, all_described}
use Rattle.rdl_marks.proofs.Orders.{first_in_order, stay_in_order}
use Rattle.rdl_reach.specs.QuietLaws.{QuietPatchesEditNothing}
use Rattle.rdl_reach.proofs.QuietEdits.{nothing-quiet, none-edited}
use Rattle.rdl_reach.proofs.QuietSteps.{all_quiet}
use Rattle.rdl_reach.proofs.TypesLead.{types_lead}

pub quiet_patches_edit_nothing : QuietPatchesEditNothing
quiet_patches_edit_nothing ps old fit quiet same a b there =
    let now = image ps old in
    let still = all_quiet ps no_marks old fit quiet (nothing-quiet old) in
    let described = all_described ps no_marks old old fit (nothing_changed old) in
    let ordered = stay_in_order (inverses ps old) no_marks first_in_order in
    let here = none-edited a _ now b still there in
    let types = types_lead _ old now described ordered still same a b there in
    λ i. here i || types i
