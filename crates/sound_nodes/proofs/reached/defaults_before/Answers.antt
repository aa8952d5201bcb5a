use Rattle.std.proofs.Common.{◌∙◌}
use Rattle.sound_nodes.specs.Rows.{after_default_if}
use Rattle.sound_nodes.proofs.Steps.{defaults-step}
use Rattle.sound_nodes.proofs.reached.defaults_before.Goals as goal

pub loop-i-preserved : goal.loop-i-preserved
loop-i-preserved c =
    c.put_default.ensures ∙ (λ k. after_default_if (c.item.ensures k) (c.loop-i.invariant k)) ∙ defaults-step c.loop-i.i c.args.defaults c.args.body.now
