-- Each word of a text is spelled as a word of its kind, and a number has the bits of a number.
use Rattle.std.proofs.Common.{◌≡◌, ℕ, zero, suc, ◌+◌, ◌-◌, ◌^◌, ◌<◌, ◌≤◌, Bool, true, false, cond, ◌&&◌, ◌||◌, List, [], ◌∷◌, take, drop, Option, Some, None, Result, Ok, Err, refl, sym, ◌∙◌, subst, arith}
use Rattle.std.proofs.lemmas.Bool.{ltb-true, ltb-false}
use Rattle.std.specs.Option.{option_map}
use Rattle.std.specs.Prelude.{nat_eq, nat_lt, slice_range}
use lib.Pow.{pow_mono}
use Rattle.rdl_text.specs.Number.{number_bits, value}
use Rattle.rdl_text.specs.Rows.{byte, run, identifier_len, decimal_len, hexadecimal_len, width_len, verilog_base, verilog_len, string_len, short_mark, long_mark}
use Rattle.rdl_text.specs.WellSpelled.{IsBounded, AreWellSpelled, WordsAreWellSpelled}
use Rattle.rdl_text.specs.Word.{Word, word}
use Rattle.rdl_text.specs.Words.{candidate, identifier, decimal, hexadecimal, verilog, string, marked, mark, longer, longest, judged, word_piece, piece, block_comment, enclosed, comment_end, is_blank, is_in_line, before, words_from}
use Rattle.rdl_text.specs.declared.fault.WordFault.{WordFault}
use Rattle.rdl_text.specs.declared.fault.WordFault.TheVariants.{UnendedString, BadCharacter, NumberTooLarge, WidthOutOfRange, ValueTooWide, IdentifierTooLong}
use Rattle.rdl_text.specs.declared.fault.TextFault.{TextFault}
use Rattle.rdl_text.specs.declared.token.Mark.{Mark}
use Rattle.rdl_text.specs.declared.token.TokenKind.{TokenKind}
use Rattle.rdl_text.specs.declared.token.TokenKind.TheVariants as kinds
use Rattle.rdl_text.specs.Piece.{Candidate}
use Rattle.rdl_text.specs.Piece.{Piece}
use Rattle.rdl_text.specs.Piece as pieces
use Rattle.rdl_text.proofs.Spellings.{piece_fits}

-- ---- Words that may be found are bounded.

abbrev Kept : Result TokenKind WordFault → Type 0
Kept (Ok kind) = IsBounded kind
Kept (Err fault) = Unit {0}

abbrev KeptWord : Option Candidate → Type 0
KeptWord None = Unit {0}
KeptWord (Some x) = Kept x.kind

number-kept : (v : ℕ) (b : Bool) → nat_lt v (2 ^ number_bits) ≡ b → Kept (cond b (Ok (kinds.Number v)) (Err NumberTooLarge))
number-kept v true e = ltb-true v (2 ^ number_bits) e
number-kept v false e = tt

low-width : (a w : ℕ) → (nat_eq w 0 || nat_lt a w) ≡ false → w ≤ a
low-width a w e = by-parts (nat_eq w 0) (nat_lt a w) refl e
  where
    by-parts : (b c : Bool) → nat_lt a w ≡ c → (b || c) ≡ false → w ≤ a
    by-parts true c f g = absurd cc
    by-parts false c f g = ltb-false a w (f ∙ g)

sized-kept : (w v : ℕ) (a b : Bool) → (nat_eq w 0 || nat_lt number_bits w) ≡ a → nat_lt v (2 ^ w) ≡ b → Kept (cond a (Err WidthOutOfRange) (cond b (Ok (kinds.Number v)) (Err ValueTooWide)))
sized-kept w v true b e f = tt
sized-kept w v false false e f = tt
sized-kept w v false true e f =
    let small : v < 2 ^ w = ltb-true v (2 ^ w) f in
    let wide : 2 ^ w ≤ 2 ^ number_bits = pow_mono (low-width number_bits w e) in
    omega (arith, small, wide)

candidate-kept : (n : ℕ) (k : Result TokenKind WordFault) → Kept k → KeptWord (candidate n k)
candidate-kept n k h = by-none (nat_eq n 0)
  where
    by-none : (b : Bool) → KeptWord (cond b None (Some (record { len = n; kind = k })))
    by-none true = tt
    by-none false = h

longer-kept : (a b : Option Candidate) → KeptWord a → KeptWord b → KeptWord (longer a b)
longer-kept None b h k = k
longer-kept (Some a) None h k = h
longer-kept (Some a) (Some b) h k = by-order (nat_lt a.len b.len)
  where
    by-order : (t : Bool) → KeptWord (cond t (Some b) (Some a))
    by-order true = k
    by-order false = h

identifier-kept : (s : List ℕ) → KeptWord (identifier s)
unfolding identifier
identifier-kept s = candidate-kept (identifier_len s) _ (by-length (nat_lt 255 (identifier_len s)))
  where
    by-length : (b : Bool) → Kept (cond b (Err IdentifierTooLong) (Ok kinds.Identifier))
    by-length true = tt
    by-length false = tt

decimal-kept : (s : List ℕ) → KeptWord (decimal s)
unfolding decimal
decimal-kept s = candidate-kept (decimal_len s) _ (number-kept (value 10 (slice_range s 0 (decimal_len s))) _ refl)

hexadecimal-kept : (s : List ℕ) → KeptWord (hexadecimal s)
unfolding hexadecimal
hexadecimal-kept s = candidate-kept (hexadecimal_len s) _ (number-kept (value 16 (slice_range s 2 (hexadecimal_len s))) _ refl)

verilog-kept : (s : List ℕ) → KeptWord (verilog s)
unfolding verilog
verilog-kept s =
    candidate-kept (verilog_len s) _
    (sized-kept (value 10 (slice_range s 0 (width_len s))) (value (verilog_base s) (slice_range s (width_len s + 2) (verilog_len s))) _ _ refl refl)

string-kept : (s : List ℕ) → KeptWord (string s)
unfolding string
string-kept s = candidate-kept (string_len s) (Ok kinds.Text) tt

marked-kept : (n : ℕ) (o : Option Mark) → KeptWord (option_map (marked n) o)
marked-kept n None = tt
marked-kept n (Some m) = tt

mark-kept : (s : List ℕ) → KeptWord (mark s)
unfolding mark
mark-kept s = longer-kept (option_map (marked 2) (long_mark (byte s 0) (byte s 1))) (option_map (marked 1) (short_mark (byte s 0))) (marked-kept 2 (long_mark (byte s 0) (byte s 1))) (marked-kept 1 (short_mark (byte s 0)))

longest-kept : (s : List ℕ) → KeptWord (longest s)
unfolding longest
longest-kept s =
    longer-kept (identifier s) _ (identifier-kept s)
    (longer-kept (decimal s) _ (decimal-kept s)
    (longer-kept (hexadecimal s) _ (hexadecimal-kept s)
    (longer-kept (verilog s) _ (verilog-kept s)
    (longer-kept (string s) (mark s) (string-kept s) (mark-kept s)))))

-- ---- Pieces.

abbrev KeptPiece : Result Piece WordFault → Type 0
KeptPiece (Ok (pieces.Gap n)) = Unit {0}
KeptPiece (Ok (pieces.Word kind n)) = IsBounded kind
KeptPiece (Err fault) = Unit {0}

judged-kept : (n : ℕ) (k : Result TokenKind WordFault) → Kept k → KeptPiece (judged n k)
judged-kept n (Ok kind) h = h
judged-kept n (Err fault) h = tt

word-kept : (first : ℕ) (o : Option Candidate) → KeptWord o → KeptPiece (word_piece first o)
word-kept first None h = by-quote (nat_eq first 34)
  where
    by-quote : (b : Bool) → KeptPiece (cond b (Err UnendedString) (Err BadCharacter))
    by-quote true = tt
    by-quote false = tt
word-kept first (Some x) h = judged-kept x.len x.kind h

enclosed-kept : (o : Option ℕ) → KeptPiece (enclosed o)
enclosed-kept None = tt
enclosed-kept (Some n) = tt

chosen-kept : (b : Bool) (x y : Result Piece WordFault) → KeptPiece x → KeptPiece y → KeptPiece (cond b x y)
chosen-kept true x y h k = h
chosen-kept false x y h k = k

piece-kept : (s : List ℕ) → KeptPiece (piece s)
unfolding piece
piece-kept s =
    chosen-kept (is_blank (byte s 0)) (Ok (pieces.Gap (run is_blank 0 s))) _ tt
    (chosen-kept (nat_eq (byte s 0) 47 && nat_eq (byte s 1) 47) (Ok (pieces.Gap (2 + run is_in_line 2 s))) _ tt
    (chosen-kept (nat_eq (byte s 0) 47 && nat_eq (byte s 1) 42) (block_comment s) _ (enclosed-kept (comment_end (drop 2 s))) (word-kept (byte s 0) (longest s) (longest-kept s))))

-- ---- Words, one piece after another.

abbrev Answer : Type 0
Answer = Result (List Word) TextFault

abbrev IfWords : Answer → Type 0
IfWords (Ok ws) = AreWellSpelled ws
IfWords (Err f) = Unit {0}

before-kept : (w : Word) (r : Answer) → AreWellSpelled (w ∷ []) → IfWords r → IfWords (before w r)
before-kept w (Ok ws) h k = (h.0, k)
before-kept w (Err f) h k = tt

abbrev step : ℕ → List ℕ → Result Piece WordFault → Answer
step at s (Ok (pieces.Gap len)) = words_from (len - 1) (at + 1) (drop 1 s)
step at s (Ok (pieces.Word kind len)) = before (word kind at (take len s)) (words_from (len - 1) (at + 1) (drop 1 s))
step at s (Err fault) = Err (record { kind = fault; offset = at })

step-kept : (at : ℕ) (s : List ℕ) (p : Result Piece WordFault) → piece s ≡ p → KeptPiece p → ((skip : ℕ) → IfWords (words_from skip (at + 1) (drop 1 s))) → IfWords (step at s p)
step-kept at s (Ok (pieces.Gap len)) e h k = k (len - 1)
step-kept at s (Ok (pieces.Word kind len)) e h k = before-kept (word kind at (take len s)) (words_from (len - 1) (at + 1) (drop 1 s)) ((piece_fits s kind len e, h), tt) (k (len - 1))
step-kept at s (Err fault) e h k = tt

one-step : (at c : ℕ) (cs : List ℕ) (p : Result Piece WordFault) → piece (c ∷ cs) ≡ p → words_from 0 at (c ∷ cs) ≡ step at (c ∷ cs) p
unfolding words_from
one-step at c cs (Ok (pieces.Gap len)) e = rw (e, words_from) refl
one-step at c cs (Ok (pieces.Word kind len)) e = rw (e, words_from) refl
one-step at c cs (Err fault) e = rw (e, words_from) refl

from-kept : (s : List ℕ) (skip at : ℕ) → IfWords (words_from skip at s)
unfolding words_from
from-kept [] zero at = tt
from-kept [] (suc skip) at = tt
from-kept (c ∷ cs) (suc skip) at = from-kept cs skip (at + 1)
from-kept (c ∷ cs) zero at =
    subst IfWords (sym (one-step at c cs (piece (c ∷ cs)) refl)) (step-kept at (c ∷ cs) (piece (c ∷ cs)) refl (piece-kept (c ∷ cs)) (λ skip. from-kept cs skip (at + 1)))

pub words_are_well_spelled : WordsAreWellSpelled
words_are_well_spelled text ws e = subst IfWords e (from-kept text 0 0)
