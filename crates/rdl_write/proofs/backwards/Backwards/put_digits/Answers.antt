use Rattle.std.proofs.Common.{◌∙◌, arith}
use Rattle.rdl_write.proofs.Hexadecimals.{digits_put, digits_fit, digits_end}
use Rattle.rdl_write.proofs.backwards.Backwards.put_digits.Goals as goal

pub put-requires-clause-room : goal.put-requires-clause-room
put-requires-clause-room c = digits_fit c.digits.left c.args.number c.digits.self c.args.self.now c.digits.auto.left-fits.fits c.ranges.number.fits c.requires c.digits.invariant

pub digits-preserved : goal.digits-preserved
digits-preserved c =
    digits_put c.digits.left c.glyph.result c.put.new.self c.digits.self c.digits-test.true (omega (arith, c.digits.auto.left-fits.fits)) c.glyph.ensures.value c.put.ensures ∙ c.digits.invariant

pub put-requires-2-clause-room : goal.put-requires-2-clause-room
put-requires-2-clause-room c = digits_fit c.digits.left c.args.number c.digits.self c.args.self.now c.digits.auto.left-fits.fits c.ranges.number.fits c.requires c.digits.invariant

pub returns : goal.returns
returns c = digits_end c.digits.left c.glyph-2.result c.put-2.new.self c.digits.self _ (omega (arith, c.digits-test.false)) c.glyph-2.ensures.value c.put-2.ensures c.digits.invariant
