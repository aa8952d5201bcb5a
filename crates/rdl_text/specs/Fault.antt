-- The numbers of the faults of a text, and the fault that isn't the text's.
-- Own.
use Rattle.std.specs.Prelude.{ℕ}
use Rattle.rdl_text.specs.declared.fault.WordFault.{WordFault}
use Rattle.rdl_text.specs.declared.fault.WordFault.TheVariants.{BadCharacter, UnendedComment, UnendedString, NumberTooLarge, ValueTooWide, WidthOutOfRange, IdentifierTooLong, Memory}
use Rattle.rdl_text.specs.declared.fault.TextFault.{TextFault}

abbrev pub fault_number : WordFault → ℕ
fault_number BadCharacter = 1
fault_number UnendedComment = 2
fault_number UnendedString = 3
fault_number NumberTooLarge = 4
fault_number ValueTooWide = 5
fault_number WidthOutOfRange = 6
fault_number IdentifierTooLong = 7
fault_number Memory = 8

abbrev pub out_of_memory : TextFault
out_of_memory = record { kind = Memory; offset = 0 }
