-- The texts of messages. Own.
use Rattle.std.specs.Prelude.{ℕ, ◌+◌, ◌-◌, ◌^◌, min, List, [], ◌++◌, codes}
use Rattle.std.specs.Fmt.{decimal}
use Rattle.rdl_text.specs.Place.{line, column}
use Rattle.rdl_text.specs.declared.fault.WordFault.{WordFault}
use Rattle.rdl_text.specs.declared.fault.WordFault.TheVariants as words
use Rattle.rdl_edit.specs.declared.refusal.Refusal.{Refusal}
use Rattle.rdl_edit.specs.declared.refusal.Refusal.TheVariants as refusals
use Rattle.rdl_edit.specs.declared.resume_fault.ResumeFault.{ResumeFault}
use Rattle.rdl_edit.specs.declared.resume_fault.ResumeFault.TheVariants as resumes
use Rattle.rdl_edit.specs.declared.resume_fault.Where.{Where}
use Rattle.rdl_edit.specs.declared.resume_fault.Where.TheVariants as where_
use Rattle.rdl_parse.specs.declared.fault.ParseFault.{ParseFault}
use Rattle.rdl_parse.specs.declared.fault.ParseFaultKind.{ParseFaultKind}
use Rattle.rdl_parse.specs.declared.fault.ParseFaultKind.TheVariants as texts
use Rattle.rdl_tree.specs.AddressText.{address_text}
use Rattle.rdl_tree.specs.declared.fault.FaultKind.{FaultKind}
use Rattle.rdl_tree.specs.declared.fault.FaultKind.TheVariants as kinds
use Rattle.rdl_write.specs.Texts.{newline}
use Rattle.rdl_session.specs.declared.fault.SessionReadFault.{SessionReadFault}
use Rattle.rdl_session.specs.declared.fault.SessionReadFault.TheVariants as reads
use Rattle.rdl_session.specs.declared.fault.SessionWriteFault.{SessionWriteFault}
use Rattle.rdl_session.specs.declared.fault.SessionWriteFault.TheVariants as writes
use Rattle.rdl_run.specs.Replies.{Said, done, listed, not_done}
use Rattle.rdl_run.specs.declared.reply.LineRefusal.{LineRefusal}
use Rattle.rdl_run.specs.declared.reply.LineRefusal.TheVariants as lines
use Rattle.rdl_script.specs.declared.request.CommandFault.{CommandFault}
use Rattle.rdl_script.specs.declared.request.CommandFault.TheVariants as commands

-- want of memory ends the run, and has no message
abbrev pub words_fault_text : WordFault → List ℕ
words_fault_text words.BadCharacter = codes "S1 bad character"
words_fault_text words.UnendedComment = codes "S2 unended comment"
words_fault_text words.UnendedString = codes "S3 unended string"
words_fault_text words.NumberTooLarge = codes "S4 number over 128 bits"
words_fault_text words.ValueTooWide = codes "S5 Verilog value does not fit its width"
words_fault_text words.WidthOutOfRange = codes "S6 Verilog width out of range"
words_fault_text words.IdentifierTooLong = codes "S7 identifier too long"
words_fault_text words.Memory = []

unfoldable pub parse_fault_text : ParseFaultKind → List ℕ
parse_fault_text (texts.Words fault) = words_fault_text fault
parse_fault_text texts.UnexpectedWord = codes "S9 unexpected word"
parse_fault_text texts.UnexpectedEnd = codes "S10 unexpected end"
parse_fault_text texts.TooDeep = codes "S11 nesting over 16"
parse_fault_text texts.TooLarge = codes "S12 description too large"
parse_fault_text texts.TooLong = codes "S13 text too long"

-- want of memory ends the run, and has no message
unfoldable pub fault_text : FaultKind → List ℕ
fault_text kinds.NameTwice = codes "E1 name twice"
fault_text kinds.UnknownType = codes "E2 unknown type"
fault_text kinds.KindNotAllowed = codes "E3 kind not allowed here"
fault_text kinds.UnknownProperty = codes "E4 unknown property"
fault_text kinds.NotOfKind = codes "E5 property not of this kind"
fault_text kinds.WrongValue = codes "E6 wrong value"
fault_text kinds.AssignedTwice = codes "E7 assigned twice"
fault_text kinds.Exclusive = codes "E8 exclusive properties"
fault_text kinds.NoSuchTarget = codes "E9 no such target before it"
fault_text kinds.NotDynamic = codes "E10 property not dynamic"
fault_text kinds.PartNotAllowed = codes "E11 part not allowed here"
fault_text kinds.OutOfRange = codes "E12 number out of range"
fault_text kinds.NoTop = codes "E13 no top"
fault_text kinds.TooManyLevels = codes "E14 over 16 levels"
fault_text kinds.TooManyRows = codes "E15 over 65536 rows"
fault_text kinds.EmptyComponent = codes "E16 empty component"
fault_text kinds.MapTooLarge = codes "E17 map too large"
fault_text kinds.AccessTooWide = codes "E18 accesswidth above regwidth"
fault_text kinds.StrideTooSmall = codes "E19 stride below size"
fault_text kinds.AddressOverlap = codes "E20 address overlap"
fault_text kinds.FieldPastRegister = codes "E21 field past register"
fault_text kinds.FieldOverlap = codes "E22 field overlap"
fault_text kinds.ResetTooWide = codes "E23 reset too wide"
fault_text kinds.Memory = []
fault_text kinds.DescriptionTooLarge = codes "E25 description too large"

unfoldable pub command_fault_text : CommandFault → List ℕ
command_fault_text commands.Unknown = codes "C1 unknown command"
command_fault_text commands.BadOperands = codes "C2 bad operands"
command_fault_text commands.NotUtf8 = codes "C3 not UTF-8"

-- what an edit's refusal begins with
unfoldable pub refusal_head : Refusal → List ℕ
refusal_head refusals.NoSuchPath = codes "X1 no such path: P1 no such name"
refusal_head refusals.ThroughNamedType = codes "X1 no such path: P2 through a named type"
refusal_head refusals.NoSuchSibling = codes "X2 no such sibling"
refusal_head refusals.NameTaken = codes "X3 name taken"
refusal_head refusals.Reserved = codes "X4 reserved name"
refusal_head refusals.InUse = codes "X5 definition in use"
refusal_head refusals.NotSet = codes "X6 not set"
refusal_head refusals.NotAnInstance = codes "X7 not an instance"
refusal_head refusals.NotAddable = codes "X8 only definitions and instances are added"
refusal_head (refusals.Faulty fault) = codes "X9 the edited map has a fault: "
refusal_head refusals.Memory = []

unfoldable pub refusal_text : Refusal → List ℕ
refusal_text (refusals.Faulty fault) = refusal_head (refusals.Faulty fault) ++ fault_text fault.kind ++ codes " at item " ++ address_text fault.address
refusal_text refusal = refusal_head refusal

-- the text of an `add` has no line feed, so its columns are its bytes, from 1; no text reaches the greatest number
abbrev pub add_column : ℕ → ℕ
add_column offset = min (offset + 1) (2 ^ 64 - 1)

unfoldable pub text_refusal_text : ParseFault → List ℕ
text_refusal_text fault =
    codes "C4 text refused: " ++ parse_fault_text fault.kind ++ codes " at column " ++ decimal (add_column fault.offset)

unfoldable pub line_refusal_text : LineRefusal → List ℕ
line_refusal_text (lines.Command fault) = command_fault_text fault
line_refusal_text (lines.Text fault) = text_refusal_text fault
line_refusal_text (lines.Edit refusal) = refusal_text refusal
line_refusal_text lines.HistoryFull = codes "J1 history full"
line_refusal_text lines.NothingToUndo = codes "J2 nothing to undo"
line_refusal_text lines.NothingToRedo = codes "J3 nothing to redo"

-- the message of a line of the script, which counts from 1
abbrev pub script_line : ℕ → List ℕ → List ℕ
script_line number what = codes "script:" ++ decimal number ++ codes ": " ++ what ++ newline

unfoldable pub reply_text : ℕ → Said → List ℕ
reply_text number done = []
reply_text number (listed text) = text
reply_text number (not_done refusal) = script_line number (line_refusal_text refusal)

-- the message of a map that is refused
abbrev pub map_line : (line column : ℕ) → List ℕ → List ℕ
map_line line column what = codes "map:" ++ decimal line ++ codes ":" ++ decimal column ++ codes ": " ++ what ++ newline

-- the message of two macros that have one name
abbrev pub clash_line : List ℕ → List ℕ
clash_line name = codes "header: H1 two macros with one name: " ++ name ++ newline

-- which map of a session is meant
abbrev pub where_text : Where → List ℕ
where_text where_.Map = codes "map"
where_text (where_.Undo number) = codes "undo " ++ decimal number
where_text (where_.Redo number) = codes "redo " ++ decimal number

-- why a session isn't read, gone on with, or written; want of memory ends the run, and has no message
unfoldable pub unread_text : SessionReadFault → List ℕ
unread_text reads.NotASession = codes "Z1 not a session"
unread_text reads.Memory = []

unfoldable pub unresumed_text : ResumeFault → List ℕ
unresumed_text (resumes.PatchMisfits place) = codes "Z2 a patch does not fit at " ++ where_text place
unresumed_text (resumes.MapFaulty place fault) =
    codes "Z3 a place does not elaborate at " ++ where_text place ++ codes ": " ++ fault_text fault.kind ++ codes " at item " ++ address_text fault.address
unresumed_text resumes.Memory = []

unfoldable pub unwritten_text : SessionWriteFault → List ℕ
unwritten_text writes.TooLong = codes "Z4 session too long"
unwritten_text writes.Memory = []

-- the message of a session
unfoldable pub session_line : List ℕ → List ℕ
session_line what = codes "session: " ++ what ++ newline
