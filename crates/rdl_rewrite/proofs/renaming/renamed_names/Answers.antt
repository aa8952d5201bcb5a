use Rattle.rdl_rewrite.proofs.Renamed.{names_done}
use Rattle.rdl_rewrite.proofs.renaming.renamed_names.Goals as goal

pub returns : goal.returns
returns c = names_done c.args.way.now c.args.name.now c.names.i c.args.path.now c.args.names.now _ c.names.new.items c.names-test.false c.names.invariant
