use Rattle.std.proofs.Common.{ap, length, arith, length-append}
use Rattle.rdl_write.specs.Texts.{hexadecimal}
use Rattle.rdl_write.proofs.Hexadecimals.{length-digits_short}
use Rattle.rdl_write.proofs.number.push_hexadecimal_end.Goals as goal

pub put-requires-2-clause-room : goal.put-requires-2-clause-room
put-requires-2-clause-room c =
    let short = length-digits_short c.args.number (omega (arith, c.if-number-from.false, c.from.ensures)) in
    omega (arith, short, ap length c.new-short.ensures, ap length c.put.ensures, ap length c.put_hexadecimal.ensures, length-append (hexadecimal c.args.number) c.put.new.self)
