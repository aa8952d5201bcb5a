use Rattle.std.proofs.Common.{true, ap, length, arith, length-append}
use Rattle.std.specs.Fmt.{digits}
use Rattle.rdl_write.proofs.Hexadecimals.{length-digits_short}
use Rattle.rdl_write.proofs.backwards.Backwards.put_hexadecimal.Goals as goal

pub put-requires-clause-room : goal.put-requires-clause-room
put-requires-clause-room c =
    omega (arith, c.requires, length-digits_short c.args.number c.ranges.number.fits, ap length c.put_digits.ensures, length-append (digits 16 true c.args.number) c.args.self.now)

pub put-requires-2-clause-room : goal.put-requires-2-clause-room
put-requires-2-clause-room c =
    omega (arith, c.requires, length-digits_short c.args.number c.ranges.number.fits, ap length c.put_digits.ensures, ap length c.put.ensures, length-append (digits 16 true c.args.number) c.args.self.now)
