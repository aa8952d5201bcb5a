use Rattle.std.proofs.Common.{sym, ◌∙◌}
use Rattle.rdl_nodes.specs.View.{slots_of}
use Rattle.rdl_nodes.proofs.SameInside.{unassigned_harmless}
use Rattle.rdl_nodes.proofs.core_of.is_harmless_inside.Goals as goal

pub returns-else-laid : goal.returns-else-laid
returns-else-laid c =
    sym (unassigned_harmless (record { spans = c.args.laid.now.spans.now; is_ordered = c.args.laid.now.is_ordered }) (slots_of c.args.laid.now.slots.now) (sym c.requires ∙ c.if-laid.false))
