use Rattle.std.proofs.Common.{length, arith, ap}
use Rattle.std.proofs.lemmas.Result.{err_from_is_err_and}
use Rattle.rdl_session.proofs.WrittenParts.{session_done, stops_back, stops_on}
use Rattle.rdl_session.proofs.write.session.Goals as goal

pub returns-in_err-push_steps-clause-err : goal.returns-in_err-push_steps-clause-err
returns-in_err-push_steps-clause-err c =
    let p = err_from_is_err_and c.from_residual-in_err-push_steps.result c.from_residual-in_err-push_steps.ensures.1 in
    rw (p.1, p.2) (stops_back c.args.description.now.items c.args.undo.now c.args.redo.now _ c.in_ok-text.ensures _ c.in_err-push_steps.ensures.err)

pub returns-in_err-push_steps-2-clause-err : goal.returns-in_err-push_steps-2-clause-err
returns-in_err-push_steps-2-clause-err c =
    let p = err_from_is_err_and c.from_residual-in_err-push_steps-2.result c.from_residual-in_err-push_steps-2.ensures.1 in
    rw (p.1, p.2) (stops_on c.args.description.now.items c.args.undo.now c.args.redo.now _ _ c.in_ok-text.ensures c.in_ok-push_steps.ensures.ok _ c.in_err-push_steps-2.ensures.err)

pub returns-then-len-gt-MAX_LEN-clause-err : goal.returns-then-len-gt-MAX_LEN-clause-err
returns-then-len-gt-MAX_LEN-clause-err c =
    let whole = session_done c.args.description.now.items c.args.undo.now c.args.redo.now _ _ _ _ c.in_ok-text.ensures c.in_ok-push_steps.ensures.ok c.in_ok-push_steps-2.ensures.ok c.in_ok-push_str.ensures.bytes in
    omega (arith, ap length whole, c.len.ensures, c.if-len-gt-MAX_LEN.true)

pub returns-clause-ok : goal.returns-clause-ok
returns-clause-ok c = session_done c.args.description.now.items c.args.undo.now c.args.redo.now _ _ _ _ c.in_ok-text.ensures c.in_ok-push_steps.ensures.ok c.in_ok-push_steps-2.ensures.ok c.in_ok-push_str.ensures.bytes
