-- No digit is worth anything yet.
use Rattle.std.proofs.Common.{sym}
use Rattle.rdl_text.proofs.Numbers.{value_is}
use Rattle.rdl_text.proofs.number.short_value.Goals as goal

pub digits-init : goal.digits-init
digits-init c = sym (value_is c.args.base c.args.digits.now)
