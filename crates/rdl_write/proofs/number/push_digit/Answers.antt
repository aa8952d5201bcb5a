use Rattle.std.proofs.Common.{◌∙◌, arith}
use Rattle.rdl_write.proofs.Hexadecimals.{digit_pushed}
use Rattle.rdl_write.proofs.number.push_digit.Goals as goal

pub returns : goal.returns
returns c = digit_pushed c.args.digit c.from.result _ _ _ c.requires (c.from.ensures ∙ c.glyph.ensures.value) (c.push.ensures.ascii (omega (arith, c.from.ensures, c.glyph.ensures.ascii))) c.in_ok-push.ensures.bytes
