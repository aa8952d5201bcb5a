use Rattle.std.proofs.Common.{rules, ◌∙◌}
use Rattle.rdl_held.proofs.Turns.{back_fits}
use Rattle.rdl_held.proofs.held.Held.turn_known.Goals as goal

pub returns-in-Ok-clause-fits : goal.returns-in-Ok-clause-fits
returns-in-Ok-clause-fits c =
    back_fits c.args.patches.items c.keep.result.items c.args.description.now.items _ c.args.self.now c.requires.held c.requires.fit (search rules)
    (c.keep.ensures.patches ∙ c.in_ok-turned.ensures.kept)
