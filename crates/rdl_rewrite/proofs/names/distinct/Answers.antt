use Rattle.rdl_rewrite.proofs.NewNames.{distinct_more, distinct_not, distinct_done}
use Rattle.rdl_rewrite.proofs.names.distinct.Goals as goal

pub returns-then-not-is_new : goal.returns-then-not-is_new
returns-then-not-is_new c =
    distinct_not c.args.names.now c.names.name-index c.name-item.result c.names-test.true c.name-item.is c.names.set c.as_str.result c.as_str.ensures
    c.in_ok-is_new.is_new c.names.invariant c.in_ok-is_new.ensures.added c.if-not-is_new.true

pub names-preserved : goal.names-preserved
names-preserved c =
    distinct_more c.args.names.now c.names.name-index c.name-item.result c.names-test.true c.name-item.is c.names.set c.as_str.result c.as_str.ensures
    c.in_ok-is_new.is_new c.names.invariant c.in_ok-is_new.ensures.added c.insert.new.self c.in_ok-is_new.ensures.updates c.if-not-is_new.false

pub returns : goal.returns
returns c = distinct_done c.names.set c.args.names.now c.names.name-index c.names-test.false c.names.invariant
