use Rattle.std.proofs.Common.{sym, ap, ◌∙◌}
use Rattle.std.specs.Prelude.{option_copied}
use Rattle.rdl_tree.proofs.Reached.{no_holder}
use Rattle.rdl_tree.proofs.step.room_for.Goals as goal

pub unreachable-requires : goal.unreachable-requires
unreachable-requires c = no_holder c.args.address.now _ _ c.requires c.holder.ensures (sym c.body.ensures ∙ ap option_copied c.in-None.is)
