use Rattle.std.proofs.Common.{ap, sym, arith}
use Rattle.rdl_seen.specs.Contents.{items_weight}
use Rattle.rdl_seen.specs.Values.{own_over}
use Rattle.rdl_nodes.proofs.Bodies.{items_all}
use Rattle.rdl_nodes.proofs.field.own_of.Goals as goal

pub loop-item-init : goal.loop-item-init
loop-item-init c =
    let all = items_all c.as_slice-item-items.result.now c.args.body.now c.as_slice-item-items.ensures in
    record {
      values = λ i. own_over (sym c.none-values.ensures i) (sym all i);
      weight = omega (arith, ap items_weight all);
    }
