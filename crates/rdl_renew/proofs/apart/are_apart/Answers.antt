use Rattle.rdl_renew.specs.Apart.{IsApart}
use Rattle.rdl_renew.proofs.ApartItems.{one_missing, one_there, all_below}
use Rattle.rdl_renew.proofs.apart.are_apart.Goals.{in-Some+else-not-is_apart, in_default}
use Rattle.rdl_renew.proofs.apart.are_apart.Goals as goal

pub loop-i-preserved : goal.loop-i-preserved
loop-i-preserved c =
    let body = c.args.body.now in
    elim c.match-item.branch [
      | in-Some+else-not-is_apart w ↦ one_there (IsApart body) body c.args.from c.loop-i.i w.in-Some.item.now c.loop-i.invariant w.in-Some.ensures (w.is_apart.ensures w.if-not-is_apart.false)
      | in_default w ↦ one_missing (IsApart body) body c.args.from c.loop-i.i c.loop-i.invariant w.in_default.ensures
    ]

pub returns : goal.returns
returns c e = all_below (IsApart c.args.body.now) c.args.body.now c.args.from c.loop-i.i c.args.to c.loop-i.invariant c.loop-i-test.false
