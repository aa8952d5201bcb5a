use Rattle.std.proofs.Common.{arith}
use Rattle.std.proofs.lemmas.Result.{on_ok_weaker}
use Rattle.rdl_write.proofs.Hexadecimals.{more_digits}
use Rattle.rdl_write.proofs.number.+push_digits.Goals as goal

pub returns : goal.returns
returns t c =
    on_ok_weaker c.push_digit.result
    (λ g. more_digits c.args.number _ _ _ _ (omega (arith, c.if-number-from.false)) (omega (arith, c.ranges.number.fits)) (omega arith) c.in_ok-push_digits.ensures g)
    c.push_digit.ensures
