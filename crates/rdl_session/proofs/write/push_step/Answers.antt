use Rattle.std.proofs.Common.{arith}
use Rattle.rdl_session.specs.Written.{written}
use Rattle.rdl_session.proofs.WrittenParts.{step_done, step_too_long}
use Rattle.rdl_session.proofs.write.push_step.Goals as goal

pub returns-then-len-gt-MAX_LEN-clause-err : goal.returns-then-len-gt-MAX_LEN-clause-err
returns-then-len-gt-MAX_LEN-clause-err c =
    step_too_long written _ _ _ c.args.patches.now c.patches.patch-index c.in_ok-push_count.ensures c.patches.invariant c.patch-item.result c.patches-test.true
    (omega (arith, c.len.ensures, c.if-len-gt-MAX_LEN.true))

pub returns-clause-ok : goal.returns-clause-ok
returns-clause-ok c = step_done written _ _ _ c.args.patches.now c.patches.patch-index c.in_ok-push_count.ensures c.patches.invariant c.patches-test.false
