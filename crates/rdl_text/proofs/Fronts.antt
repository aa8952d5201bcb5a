-- What the first byte of a text says of the longest word in front, by its length alone.
use Rattle.std.proofs.Common.{◌≡◌, ◌≢◌, ℕ, ◌+◌, Bool, true, false, cond, List, drop, Option, Some, None, Result, Ok, Err, refl, sym, ◌∙◌, ap, arith}
use Rattle.std.proofs.lemmas.Bool.{ne_eqb}
use Rattle.std.specs.Char.{is_digit}
use Rattle.std.specs.Option.{option_map}
use Rattle.std.specs.Prelude.{nat_eq, nat_lt}
use Rattle.rdl_text.specs.Front.{span_of, front_span}
use Rattle.rdl_text.specs.Name.{is_letter, is_rest}
use Rattle.rdl_text.specs.Piece.{Candidate}
use Rattle.rdl_text.specs.Rows.{byte, run, identifier_len, closing, quoted_len, string_len, short_mark, long_mark}
use Rattle.rdl_text.specs.Words.{candidate, identifier, decimal, hexadecimal, verilog, string, marked, mark, longer, judged, word_piece}
use Rattle.rdl_text.specs.declared.fault.WordFault.{WordFault}
use Rattle.rdl_text.specs.declared.fault.WordFault.TheVariants.{UnendedString, BadCharacter, IdentifierTooLong}
use Rattle.rdl_text.specs.declared.piece.Span.{Span}
use Rattle.rdl_text.specs.declared.piece.Span.TheVariants as spans
use Rattle.rdl_text.specs.declared.token.Mark.{Mark}
use Rattle.rdl_text.specs.declared.token.TokenKind.{TokenKind}
use Rattle.rdl_text.specs.declared.token.TokenKind.TheVariants as kinds
use Rattle.rdl_text.proofs.Longest.{longest_letter, longest_digit, longest_quote, longest_other, digit_no_quote}
use Rattle.rdl_text.proofs.Steps.{candidate_some}

abbrev spanned : List ℕ → Option Candidate → Result Span WordFault
spanned s o = span_of (word_piece (byte s 0) o)

-- ---- Identifiers.

abbrev pub name_kind : ℕ → Result TokenKind WordFault
name_kind n = cond (nat_lt 255 n) (Err IdentifierTooLong) (Ok kinds.Identifier)

pub identifier_is : (s : List ℕ) → is_letter (byte s 0) ≡ true → identifier s ≡ Some (record { len = 1 + run is_rest 1 s; kind = name_kind (1 + run is_rest 1 s) })
unfolding identifier identifier_len
identifier_is s h = rw h (candidate_some (1 + run is_rest 1 s) (name_kind (1 + run is_rest 1 s)) (omega arith))

abbrev pub name_span : ℕ → Result Span WordFault
name_span n = cond (nat_lt 255 n) (Err IdentifierTooLong) (Ok (spans.Word n))

pub letter_span : (s : List ℕ) → is_letter (byte s 0) ≡ true → front_span s ≡ name_span (1 + run is_rest 1 s)
letter_span s h = ap (spanned s) (sym (longest_letter s h) ∙ identifier_is s h) ∙ by-length (1 + run is_rest 1 s) (nat_lt 255 (1 + run is_rest 1 s))
  where
    by-length : (n : ℕ) (b : Bool) → span_of (judged n (cond b (Err IdentifierTooLong) (Ok kinds.Identifier))) ≡ cond b (Err IdentifierTooLong) (Ok (spans.Word n))
    by-length n true = refl
    by-length n false = refl

-- ---- Numbers.

pub digit_span : (s : List ℕ) (o : Option Candidate) → is_digit (byte s 0) 10 ≡ true → o ≡ longer (decimal s) (longer (hexadecimal s) (verilog s)) → front_span s ≡ span_of (word_piece (byte s 0) o)
digit_span s o h e = ap (spanned s) (sym (e ∙ longest_digit s h))

pub digit_span_none : (s : List ℕ) → is_digit (byte s 0) 10 ≡ true → None ≡ longer (decimal s) (longer (hexadecimal s) (verilog s)) → front_span s ≡ Err BadCharacter
digit_span_none s h e = digit_span s None h e ∙ rw (ne_eqb (byte s 0) 34 (digit_no_quote (byte s 0) h)) refl

-- ---- Strings.

abbrev pub quoted_span : Option ℕ → Result Span WordFault
quoted_span (Some n) = Ok (spans.Word (n + 2))
quoted_span None = Err UnendedString

string_is : (s : List ℕ) → byte s 0 ≡ 34 → string s ≡ candidate (quoted_len (closing false (drop 1 s))) (Ok kinds.Text)
unfolding string string_len
string_is s h = rw h refl

quoted_is : (c : ℕ) (o : Option ℕ) → c ≡ 34 → span_of (word_piece c (candidate (quoted_len o) (Ok kinds.Text))) ≡ quoted_span o
quoted_is c (Some n) h = ap (λ (x : Option Candidate). span_of (word_piece c x)) (candidate_some (n + 2) (Ok kinds.Text) (omega arith))
quoted_is c None h = rw h refl

pub quote_span : (s : List ℕ) → byte s 0 ≡ 34 → front_span s ≡ quoted_span (closing false (drop 1 s))
quote_span s h = ap (spanned s) (sym (longest_quote s h) ∙ string_is s h) ∙ quoted_is (byte s 0) (closing false (drop 1 s)) h

-- ---- Marks.

abbrev pub marked_span : Option Mark → Option Mark → Result Span WordFault
marked_span (Some m) o = Ok (spans.Word 2)
marked_span None (Some m) = Ok (spans.Word 1)
marked_span None None = Err BadCharacter

marked_is : (c : ℕ) (long short : Option Mark) → nat_eq c 34 ≡ false → span_of (word_piece c (longer (option_map (marked 2) long) (option_map (marked 1) short))) ≡ marked_span long short
marked_is c (Some m) (Some n) h = refl
marked_is c (Some m) None h = refl
marked_is c None (Some m) h = refl
marked_is c None None h = rw h refl

pub mark_span : (s : List ℕ) → is_letter (byte s 0) ≡ false → is_digit (byte s 0) 10 ≡ false → byte s 0 ≢ 34
    → front_span s ≡ marked_span (long_mark (byte s 0) (byte s 1)) (short_mark (byte s 0))
unfolding mark
mark_span s l d q = ap (spanned s) (sym (longest_other s l d q)) ∙ marked_is (byte s 0) (long_mark (byte s 0) (byte s 1)) (short_mark (byte s 0)) (ne_eqb (byte s 0) 34 q)
