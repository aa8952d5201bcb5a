-- The word that a row of the table has, as the code keeps it: the row and the length.
-- SystemRDL 2.0, lexical conventions.
use Rattle.std.specs.Prelude.{ℕ, ◌+◌, ◌≤◌, nat_lt, if◌then◌else◌, List, length, slice_range, Result, Ok, Err}
use Rattle.rdl_text.specs.Number.{value}
use Rattle.rdl_text.specs.Piece.{Candidate, Piece, Gap, Word}
use Rattle.rdl_text.specs.Rows.{byte, width_len, verilog_base}
use Rattle.rdl_text.specs.Words.{number, sized, word_piece, longest}
use Rattle.rdl_text.specs.declared.fault.WordFault.{WordFault}
use Rattle.rdl_text.specs.declared.fault.WordFault.TheVariants.{IdentifierTooLong}
use Rattle.rdl_text.specs.declared.piece.Front.{Front}
use Rattle.rdl_text.specs.declared.piece.Row.{Row}
use Rattle.rdl_text.specs.declared.piece.Row.TheVariants.{Identifier, Decimal, Hexadecimal, Verilog, Text, Mark}
use Rattle.rdl_text.specs.declared.piece.Span.{Span}
use Rattle.rdl_text.specs.declared.piece.Span.TheVariants as spans
use Rattle.rdl_text.specs.declared.token.TokenKind.{TokenKind}
use Rattle.rdl_text.specs.declared.token.TokenKind.TheVariants as kinds

-- what the word of a row is that has so many bytes of a text, or why it is refused
abbrev pub kind_in : Row → List ℕ → (len : ℕ) → Result TokenKind WordFault
kind_in Identifier s len = if nat_lt 255 len then Err IdentifierTooLong else Ok kinds.Identifier
kind_in Decimal s len = number (value 10 (slice_range s 0 len))
kind_in Hexadecimal s len = number (value 16 (slice_range s 2 len))
kind_in Verilog s len = sized (value 10 (slice_range s 0 (width_len s))) (value (verilog_base s) (slice_range s (width_len s + 2) len))
kind_in Text s len = Ok kinds.Text
kind_in (Mark mark) s len = Ok (kinds.Mark mark)

abbrev pub judged_front : List ℕ → Front → Candidate
judged_front s front = record { len = front.len; kind = kind_in front.row s front.len }

-- the digits of a word of a row begin inside it
abbrev pub HasDigits : Row → List ℕ → (len : ℕ) → Type 0
HasDigits Identifier s len = Unit {0}
HasDigits Decimal s len = Unit {0}
HasDigits Hexadecimal s len = 2 ≤ len
HasDigits Verilog s len = (width_len s + 2 ≤ len) × (1 ≤ verilog_base s)
HasDigits Text s len = Unit {0}
HasDigits (Mark mark) s len = Unit {0}

pub record IsInside (s : List ℕ) (front : Front) : Type 0 where
  pub within : front.len ≤ length s
  pub digits : HasDigits front.row s front.len

-- a piece without the kind of a word
abbrev pub span_of : Result Piece WordFault → Result Span WordFault
span_of (Ok (Gap len)) = Ok (spans.Gap len)
span_of (Ok (Word kind len)) = Ok (spans.Word len)
span_of (Err fault) = Err fault

-- the piece that the longest word in front of a text is, without its kind
abbrev pub front_span : List ℕ → Result Span WordFault
front_span s = span_of (word_piece (byte s 0) (longest s))
