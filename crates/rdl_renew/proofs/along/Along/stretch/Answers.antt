use Rattle.std.proofs.Common.{◌-◌, ◌<◌, arith}
use Rattle.rdl_marks.specs.View.{in_order}
use Rattle.rdl_renew.proofs.Passed.{all_told}
use Rattle.rdl_renew.proofs.along.Along.stretch.Goals as goal

pub returns-clause-told : goal.returns-clause-told
returns-clause-told c = λ gone i was numbered k l.
    let a = c.go_on.new.self in
    let few : k < a.same.count - a.items = omega (arith, l, c.saturating_sub.ensures) in
    all_told (in_order c.args.pieces.now) c.args.behind gone a i c.saturating_add.result (c.go_on.ensures i was) numbered c.saturating_add.ensures k few
