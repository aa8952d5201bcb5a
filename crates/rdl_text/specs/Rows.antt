-- The table of words: for each row, how many bytes the longest word of this row has that begins a text, or 0 if none does.
-- SystemRDL 2.0, lexical conventions; own: no octal numbers, no escaped identifiers, `_` in each number.
use Rattle.std.specs.Prelude.{ℕ, ◌+◌, Bool, true, false, ◌&&◌, ◌||◌, nat_eq, nat_lt, if◌then◌else◌, List, [], ◌∷◌, drop, slice_index, Option, Some, None}
use Rattle.std.specs.List.{prefix_len}
use Rattle.std.specs.Option.{option_map}
use Rattle.std.specs.Char.{is_digit}
use Rattle.rdl_text.specs.Name.{is_letter, is_rest}
use Rattle.rdl_text.specs.Number.{is_underscore}
use Rattle.rdl_text.specs.declared.token.Mark.{Mark}
use Rattle.rdl_text.specs.declared.token.Mark.TheVariants.{OpenBrace, CloseBrace, OpenBracket, CloseBracket, Colon, Semicolon, Comma, Dot, Equals, At, PlusEquals, PercentEquals, Arrow}

-- the byte at a place, and 0, with which no word goes on, past the end
abbrev pub byte : List ℕ → ℕ → ℕ
byte s i = slice_index s i

-- how many bytes in a row, from a place on, pass a test
abbrev pub run : (ℕ → Bool) → ℕ → List ℕ → ℕ
run test i s = prefix_len test (drop i s)

-- a digit in a base, or `_`
abbrev pub is_digit_rest : ℕ → ℕ → Bool
is_digit_rest base c = is_digit c base || is_underscore c

-- a letter or `_`, then letters, digits and `_`
unfoldable pub identifier_len : List ℕ → ℕ
identifier_len s = if is_letter (byte s 0) then 1 + run is_rest 1 s else 0

-- a digit, then digits and `_`
unfoldable pub decimal_len : List ℕ → ℕ
decimal_len s = if is_digit (byte s 0) 10 then 1 + run (is_digit_rest 10) 1 s else 0

-- `0x` or `0X`, a hexadecimal digit, then hexadecimal digits and `_`
unfoldable pub hexadecimal_len : List ℕ → ℕ
hexadecimal_len s =
    if nat_eq (byte s 0) 48 && (nat_eq (byte s 1) 120 || nat_eq (byte s 1) 88) && is_digit (byte s 2) 16
    then 3 + run (is_digit_rest 16) 3 s else 0

-- how many digits the width of a Verilog number has
abbrev pub width_len : List ℕ → ℕ
width_len s = run (λ c. is_digit c 10) 0 s

-- the base that a letter names: `b`, `d` and `h`, small or capital; no byte is a digit in base 0
abbrev pub base_of : ℕ → ℕ
base_of c =
    if nat_eq c 98 || nat_eq c 66 then 2
    else if nat_eq c 100 || nat_eq c 68 then 10
    else if nat_eq c 104 || nat_eq c 72 then 16
    else 0

-- the base of a Verilog number
abbrev pub verilog_base : List ℕ → ℕ
verilog_base s = base_of (byte s (width_len s + 1))

-- digits, `'`, a letter that names a base, a digit in it, then such digits and `_`
unfoldable pub verilog_len : List ℕ → ℕ
verilog_len s =
    if nat_lt 0 (width_len s) && nat_eq (byte s (width_len s)) 39 && is_digit (byte s (width_len s + 2)) (verilog_base s)
    then width_len s + 3 + run (is_digit_rest (verilog_base s)) (width_len s + 3) s else 0

-- how many bytes stand before the quote that closes a string; `taken` says that a backslash takes the first of them
abbrev pub closing : Bool → List ℕ → Option ℕ
closing taken [] = None
closing true (c ∷ cs) = option_map (λ n. n + 1) (closing false cs)
closing false (c ∷ cs) = if nat_eq c 34 then Some 0 else option_map (λ n. n + 1) (closing (nat_eq c 92) cs)

-- a string with so many bytes between its quotes, if it is closed
abbrev pub quoted_len : Option ℕ → ℕ
quoted_len (Some n) = n + 2
quoted_len None = 0

-- a quote, then characters up to the next quote; a backslash takes the next character with it
unfoldable pub string_len : List ℕ → ℕ
string_len s = if nat_eq (byte s 0) 34 then quoted_len (closing false (drop 1 s)) else 0

-- the mark of one byte
abbrev pub short_mark : ℕ → Option Mark
short_mark c =
    if nat_eq c 123 then Some OpenBrace
    else if nat_eq c 125 then Some CloseBrace
    else if nat_eq c 91 then Some OpenBracket
    else if nat_eq c 93 then Some CloseBracket
    else if nat_eq c 58 then Some Colon
    else if nat_eq c 59 then Some Semicolon
    else if nat_eq c 44 then Some Comma
    else if nat_eq c 46 then Some Dot
    else if nat_eq c 61 then Some Equals
    else if nat_eq c 64 then Some At
    else None

-- the mark of two bytes
abbrev pub long_mark : ℕ → ℕ → Option Mark
long_mark c d =
    if nat_eq c 43 && nat_eq d 61 then Some PlusEquals
    else if nat_eq c 37 && nat_eq d 61 then Some PercentEquals
    else if nat_eq c 45 && nat_eq d 62 then Some Arrow
    else None
