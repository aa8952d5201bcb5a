use Rattle.std.proofs.Common.{arith}
use Rattle.rdl_renew.proofs.ApartItems.{apart_stand_alone, below_count}
use Rattle.rdl_renew.proofs.apart.all_stand_alone.Goals as goal

pub returns-then-are_apart : goal.returns-then-are_apart
returns-then-are_apart c e =
    let body = c.args.body.now in
    apart_stand_alone body
    (λ i y got. c.are_apart.ensures c.if-are_apart.true i y (omega arith) (below_count body i y c.len-count.result c.len-count.ensures got) got)
    (c.do_owns_stand_alone.ensures e)
