use Rattle.std.proofs.Common.{◌≡◌, false, rules}
use Rattle.rdl_elab.specs.Reaches.{has_ended, value_under}
use Rattle.rdl_elab.proofs.StatedLists.{adds-none}
use Rattle.rdl_elab.proofs.InstanceLists.{passing-assigns}
use Rattle.rdl_elab.proofs.walk.reaches.add_come.Goals as goal

pub returns-then-not-has_ended : goal.returns-then-not-has_ended
returns-then-not-has_ended c =
    let r = c.args.assignment.now in
    let more : has_ended r.path ≡ false = search rules in
    λ p. adds-none (value_under p c.args.items.now.items) _ (passing-assigns c.args.kind p r more)
