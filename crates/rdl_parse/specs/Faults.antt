-- The faults of a text that spells no description: their numbers, and where each stands.
-- Own.
use Rattle.std.specs.Prelude.{ℕ, List, length}
use Rattle.rdl_text.specs.Fault.{fault_number}
use Rattle.rdl_text.specs.Word.{Word}
use Rattle.rdl_text.specs.declared.fault.WordFault.TheVariants as words
use Rattle.rdl_text.specs.declared.fault.TextFault.{TextFault}
use Rattle.rdl_parse.specs.Places.{start_of}
use Rattle.rdl_parse.specs.declared.fault.Fault.{Fault}
use Rattle.rdl_parse.specs.declared.fault.Fault.TheVariants as reading
use Rattle.rdl_parse.specs.declared.fault.Stop.{Stop}
use Rattle.rdl_parse.specs.declared.fault.Stop.TheVariants as stops
use Rattle.rdl_parse.specs.declared.fault.ParseFault.{ParseFault}
use Rattle.rdl_parse.specs.declared.fault.ParseFaultKind.{ParseFaultKind}
use Rattle.rdl_parse.specs.declared.fault.ParseFaultKind.TheVariants.{Words, UnexpectedWord, UnexpectedEnd, TooDeep, TooLarge, TooLong}

-- how many bytes a text may have
abbrev pub max_text : ℕ
max_text = 67108864

abbrev pub parse_fault_number : ParseFaultKind → ℕ
parse_fault_number (Words kind) = fault_number kind
parse_fault_number UnexpectedWord = 9
parse_fault_number UnexpectedEnd = 10
parse_fault_number TooDeep = 11
parse_fault_number TooLarge = 12
parse_fault_number TooLong = 13

abbrev pub parse_fault : ParseFaultKind → ℕ → ParseFault
parse_fault kind offset = record { kind = kind; offset = offset }

abbrev pub words_fault : TextFault → ParseFault
words_fault f = parse_fault (Words f.kind) f.offset

abbrev pub out_of_memory : ParseFault
out_of_memory = parse_fault (Words words.Memory) 0

abbrev pub too_long : ParseFault
too_long = parse_fault TooLong 0

-- a fault of these words of a text: at the byte at which its word begins, or at the text's end
abbrev pub reading_fault : List ℕ → List Word → Fault → ParseFault
reading_fault s ws (reading.Unexpected left) = parse_fault UnexpectedWord (start_of ws left)
reading_fault s ws reading.End = parse_fault UnexpectedEnd (length s)
reading_fault s ws (reading.TooDeep left) = parse_fault TooDeep (start_of ws left)
reading_fault s ws (reading.TooLarge left) = parse_fault TooLarge (start_of ws left)

-- the same of a stop of reading
abbrev pub stop_fault : List ℕ → List Word → Stop → ParseFault
stop_fault s ws stops.Memory = out_of_memory
stop_fault s ws (stops.Fault f) = reading_fault s ws f
