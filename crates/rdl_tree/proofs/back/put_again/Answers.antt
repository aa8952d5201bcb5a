use Rattle.std.proofs.Common.{◌+◌, length, rules, arith}
use Rattle.std.specs.Prelude.{IsTrue, vec_capacity}
use Rattle.rdl_tree.specs.Gap.{goes_in}
use Rattle.rdl_tree.proofs.Fills.{went_in, put_again}
use Rattle.rdl_tree.proofs.back.put_again.Goals as goal

pub put_between-requires-clause-room : goal.put_between-requires-clause-room
put_between-requires-clause-room c =
    let fits : IsTrue (goes_in c.args.step c.args.holder.now (length c.args.front.now.items + length c.args.behind.now.items) (vec_capacity c.args.front.now)) = search rules in
    (went_in c.args.step c.in-Insert.address c.args.holder.now c.in-Insert.item _ _ c.in-Insert.is fits).1

pub returns-clause-taken : goal.returns-clause-taken
returns-clause-taken c =
    let fits : IsTrue (goes_in c.args.step c.args.holder.now (length c.args.front.now.items + length c.args.behind.now.items) (vec_capacity c.args.front.now)) = search rules in
    put_again c.args.step.back c.in-Insert.address c.args.holder.now c.in-Insert.item c.number.result _ _ c.in-Insert.is
    (went_in c.args.step c.in-Insert.address c.args.holder.now c.in-Insert.item _ _ c.in-Insert.is fits).0 c.number.ensures c.put_between.ensures.after

pub returns-clause-room : goal.returns-clause-room
returns-clause-room c =
    let fits : IsTrue (goes_in c.args.step c.args.holder.now (length c.args.front.now.items + length c.args.behind.now.items) (vec_capacity c.args.front.now)) = search rules in
    omega (arith, c.put_between.ensures.count, c.put_between.ensures.capacity, (went_in c.args.step c.in-Insert.address c.args.holder.now c.in-Insert.item _ _ c.in-Insert.is fits).1)
