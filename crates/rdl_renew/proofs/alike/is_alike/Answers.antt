use Rattle.std.proofs.Common.{sym, ap, ◌∙◌}
use Rattle.std.specs.Prelude.{slice_get}
use Rattle.rdl_nodes.specs.Parts.{of_item}
use Rattle.rdl_nodes.specs.View.{slots_of}
use Rattle.rdl_renew.specs.AlikeSlots.{is_alike}
use Rattle.rdl_renew.specs.Along.{next_of}
use Rattle.rdl_renew.proofs.alike.is_alike.Goals as goal

pub returns-in-Instance : goal.returns-in-Instance
returns-in-Instance c =
    c.is_alike_instance.ensures c.in-Instance.field-1
    ∙ ap (is_alike c.args.is_width_same (slots_of c.args.before.now) (of_item (slice_get c.args.now.now c.args.number)) (next_of c.args.next)) (sym c.in-Instance.is)
