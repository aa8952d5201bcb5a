use Rattle.std.proofs.Common.{ap, ◌∙◌}
use Rattle.rdl_held.specs.HeldMap.{HeldMap}
use Rattle.rdl_held.proofs.CleanMaps.{was_clean}
use Rattle.rdl_held.proofs.held.Held.step.Goals as goal

pub judge_renewed-requires-clause-clean : goal.judge_renewed-requires-clause-clean
judge_renewed-requires-clause-clean c e =
    let tree = ap (λ (h : HeldMap). h.slots) c.self.view_is ∙ c.requires.held.slots in
    c.in-Ok.ensures.clean c.requires.old c.requires.describes c.requires.in_order tree e (was_clean c.requires.old c.args.self.now.top c.requires.held.rows)
