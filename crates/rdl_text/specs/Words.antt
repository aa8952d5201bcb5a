-- The words of a text, or its first fault: past blanks and comments, the longest word that begins at each place.
-- SystemRDL 2.0, lexical conventions; own: the faults, the limits, and that the width of a Verilog number is judged before its value.
use Rattle.std.specs.Prelude.{ℕ, zero, suc, ◌+◌, ◌-◌, ◌^◌, Bool, not, ◌&&◌, ◌||◌, nat_eq, nat_lt, if◌then◌else◌, List, [], ◌∷◌, take, drop, slice_range, Option, Some, None, Result, Ok, Err}
use Rattle.std.specs.Option.{option_map}
use Rattle.rdl_text.specs.Number.{value, number_bits}
use Rattle.rdl_text.specs.Rows.{byte, run, identifier_len, decimal_len, hexadecimal_len, width_len, verilog_base, verilog_len, string_len, short_mark, long_mark}
use Rattle.rdl_text.specs.Word.{Word, word}
use Rattle.rdl_text.specs.declared.fault.WordFault.{WordFault}
use Rattle.rdl_text.specs.declared.fault.WordFault.TheVariants.{BadCharacter, UnendedComment, UnendedString, NumberTooLarge, ValueTooWide, WidthOutOfRange, IdentifierTooLong}
use Rattle.rdl_text.specs.declared.fault.TextFault.{TextFault}
use Rattle.rdl_text.specs.declared.token.Mark.{Mark}
use Rattle.rdl_text.specs.declared.token.TokenKind.{TokenKind}
use Rattle.rdl_text.specs.declared.token.TokenKind.TheVariants as kinds
use Rattle.rdl_text.specs.Piece.{Candidate}
use Rattle.rdl_text.specs.Piece.{Piece}
use Rattle.rdl_text.specs.Piece as pieces

-- the word of a row that begins a text, and what it is or why it is refused
abbrev pub candidate : (len : ℕ) → Result TokenKind WordFault → Option Candidate
candidate len kind = if nat_eq len 0 then None else Some (record { len = len; kind = kind })

unfoldable pub identifier : List ℕ → Option Candidate
identifier s =
    candidate (identifier_len s) (if nat_lt 255 (identifier_len s) then Err IdentifierTooLong else Ok kinds.Identifier)

abbrev pub number : ℕ → Result TokenKind WordFault
number v = if nat_lt v (2 ^ number_bits) then Ok (kinds.Number v) else Err NumberTooLarge

unfoldable pub decimal : List ℕ → Option Candidate
decimal s = candidate (decimal_len s) (number (value 10 (slice_range s 0 (decimal_len s))))

unfoldable pub hexadecimal : List ℕ → Option Candidate
hexadecimal s = candidate (hexadecimal_len s) (number (value 16 (slice_range s 2 (hexadecimal_len s))))

-- a number whose value must be below two to the power of a width
abbrev pub within : (width : ℕ) → (value : ℕ) → Result TokenKind WordFault
within width value = if nat_lt value (2 ^ width) then Ok (kinds.Number value) else Err ValueTooWide

-- a Verilog number: first the width is judged, then the value
abbrev pub sized : (width : ℕ) → (value : ℕ) → Result TokenKind WordFault
sized width value = if nat_eq width 0 || nat_lt number_bits width then Err WidthOutOfRange else within width value

unfoldable pub verilog : List ℕ → Option Candidate
verilog s =
    candidate (verilog_len s)
    (sized (value 10 (slice_range s 0 (width_len s))) (value (verilog_base s) (slice_range s (width_len s + 2) (verilog_len s))))

unfoldable pub string : List ℕ → Option Candidate
string s = candidate (string_len s) (Ok kinds.Text)

abbrev pub marked : (len : ℕ) → Mark → Candidate
marked len mark = record { len = len; kind = Ok (kinds.Mark mark) }

-- of two words the longer
abbrev pub longer : Option Candidate → Option Candidate → Option Candidate
longer None y = y
longer (Some x) None = Some x
longer (Some x) (Some y) = if nat_lt x.len y.len then Some y else Some x

unfoldable pub mark : List ℕ → Option Candidate
mark s = longer (option_map (marked 2) (long_mark (byte s 0) (byte s 1))) (option_map (marked 1) (short_mark (byte s 0)))

-- the longest word that begins a text, over the rows of the table
unfoldable pub longest : List ℕ → Option Candidate
longest s = longer (identifier s) (longer (decimal s) (longer (hexadecimal s) (longer (verilog s) (longer (string s) (mark s)))))

-- the word that a text begins with, or why it is refused
abbrev pub judged : (len : ℕ) → Result TokenKind WordFault → Result Piece WordFault
judged len (Ok kind) = Ok (pieces.Word kind len)
judged len (Err fault) = Err fault

-- the same where there may be none: with a quote begins a string that doesn't end
abbrev pub word_piece : (first : ℕ) → Option Candidate → Result Piece WordFault
word_piece first None = if nat_eq first 34 then Err UnendedString else Err BadCharacter
word_piece first (Some word) = judged word.len word.kind

-- space, tab, line feed, vertical tab, form feed, carriage return
abbrev pub is_blank : ℕ → Bool
is_blank c = nat_eq c 32 || (nat_lt 8 c && nat_lt c 14)

abbrev pub is_in_line : ℕ → Bool
is_in_line c = not (nat_eq c 10)

-- how many bytes stand before the next `*/`
abbrev pub comment_end : List ℕ → Option ℕ
comment_end [] = None
comment_end (c ∷ cs) =
    if nat_eq c 42 && nat_eq (byte cs 0) 47 then Some 0 else option_map (λ n. n + 1) (comment_end cs)

-- a comment with so many bytes between `/*` and `*/`, if it is closed
abbrev pub enclosed : Option ℕ → Result Piece WordFault
enclosed (Some n) = Ok (pieces.Gap (n + 4))
enclosed None = Err UnendedComment

-- `/*`, up to the `*/` after it
abbrev pub block_comment : List ℕ → Result Piece WordFault
block_comment s = enclosed (comment_end (drop 2 s))

-- what begins a text that isn't empty: blanks, a comment up to a line feed, one up to `*/`, or a word
unfoldable pub piece : List ℕ → Result Piece WordFault
piece s =
    if is_blank (byte s 0) then Ok (pieces.Gap (run is_blank 0 s))
    else if nat_eq (byte s 0) 47 && nat_eq (byte s 1) 47 then Ok (pieces.Gap (2 + run is_in_line 2 s))
    else if nat_eq (byte s 0) 47 && nat_eq (byte s 1) 42 then block_comment s
    else word_piece (byte s 0) (longest s)

-- a word before others
abbrev pub before : Word → Result (List Word) TextFault → Result (List Word) TextFault
before w (Ok ws) = Ok (w ∷ ws)
before w (Err f) = Err f

-- The words of what stands at a place. The first `skip` bytes belong to the piece before.
unfoldable pub words_from : (skip at : ℕ) → List ℕ → Result (List Word) TextFault
words_from skip at [] = Ok []
words_from (suc skip) at (c ∷ cs) = words_from skip (at + 1) cs
words_from zero at (c ∷ cs) =
    elim (piece (c ∷ cs)) [
      | Ok found ↦ elim found [
        | pieces.Gap len ↦ words_from (len - 1) (at + 1) cs
        | pieces.Word kind len ↦ before (word kind at (take len (c ∷ cs))) (words_from (len - 1) (at + 1) cs)
      ]
      | Err fault ↦ Err (record { kind = fault; offset = at })
    ]

abbrev pub words : List ℕ → Result (List Word) TextFault
words s = words_from 0 0 s
