use Rattle.std.proofs.Common.{map}
use Rattle.std.proofs.lemmas.Result.{err_from_is_err_and}
use Rattle.rdl_session.specs.Written.{written}
use Rattle.rdl_session.proofs.WrittenParts.{steps_done, steps_stop}
use Rattle.rdl_session.proofs.write.push_steps.Goals as goal

pub returns-in_err-push_step-clause-err : goal.returns-in_err-push_step-clause-err
returns-in_err-push_step-clause-err c =
    let p = err_from_is_err_and c.from_residual-in_err-push_step.result c.from_residual-in_err-push_step.ensures.1 in
    rw (p.1, p.2) (steps_stop (λ step. map written step.now) c.args.word.now _ _ _ c.args.steps.now c.steps.step-index c.in_ok-push_count.ensures c.steps.invariant c.step-item.result c.steps-test.true c.step-item.is _ c.in_err-push_step.ensures.err)

pub returns-clause-ok : goal.returns-clause-ok
returns-clause-ok c = steps_done (λ step. map written step.now) c.args.word.now _ _ _ c.args.steps.now c.steps.step-index c.in_ok-push_count.ensures c.steps.invariant c.steps-test.false
