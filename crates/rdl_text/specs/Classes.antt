-- The sets of bytes of which runs are skipped.
-- SystemRDL 2.0, lexical conventions.
use Rattle.std.specs.Prelude.{ℕ, Bool}
use Rattle.std.specs.Char.{is_digit}
use Rattle.rdl_text.specs.Name.{is_rest}
use Rattle.rdl_text.specs.Rows.{is_digit_rest}
use Rattle.rdl_text.specs.Words.{is_blank}
use Rattle.rdl_text.specs.declared.bytes.Class.{Class}
use Rattle.rdl_text.specs.declared.bytes.Class.TheVariants.{Blank, IdentifierRest, Digit, DigitRest}

abbrev pub class_test : Class → ℕ → Bool
class_test Blank = is_blank
class_test IdentifierRest = is_rest
class_test Digit = λ c. is_digit c 10
class_test (DigitRest base) = is_digit_rest base
