use Rattle.std.proofs.Common.{◌∙◌, sym, option_copied}
use Rattle.rdl_elab.proofs.KnownRows.{no-item-fault, levels-few, top-there}
use Rattle.rdl_elab.proofs.elaborate.known_top.Goals as goal

pub unreachable-requires : goal.unreachable-requires
unreachable-requires c = top-there c.args.description.now.items (option_copied c.args.wanted) c.requires (sym c.find_top.ensures ∙ c.in-None.is)

pub returns-clause-faultless : goal.returns-clause-faultless
returns-clause-faultless c = no-item-fault c.args.description.now.items (option_copied c.args.wanted) c.requires

pub returns-clause-nesting : goal.returns-clause-nesting
returns-clause-nesting c = levels-few c.args.description.now.items (option_copied c.args.wanted) c.requires
