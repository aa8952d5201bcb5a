-- The word at a place where one stands, and the mark that it is.
use Rattle.std.proofs.Common.{◌≡◌, ℕ, ◌+◌, ◌-◌, ◌^◌, Bool, true, false, cond, ◌&&◌, ◌||◌, List, [], ◌∷◌, ◌++◌, length, map, take, drop, IsUtf8, Option, Some, None, Result, Ok, Err, refl, sym, ◌∙◌, ap, subst, arith}
use Rattle.std.proofs.lemmas.Bool.{eqb-true}
use Rattle.std.proofs.lemmas.List.{map-append, get_or-drop}
use Rattle.std.proofs.lemmas.List.Elements.{All-append, All-cons, All-nil}
use Rattle.std.proofs.lemmas.Option.{none-some, same_Some, slice_get-map}
use Rattle.std.specs.Char.{is_digit}
use Rattle.std.specs.List.{All}
use Rattle.std.specs.Option.{option_map}
use Rattle.std.specs.Prelude.{nat_eq, nat_lt, slice_get, slice_index, slice_range}
use Rattle.std.specs.Str.{IsCharBoundary}
use Rattle.rdl_text.specs.Front.{judged_front, kind_in}
use Rattle.rdl_text.specs.Name.{is_letter, is_rest}
use Rattle.rdl_text.specs.Number.{number_bits, value}
use Rattle.rdl_text.specs.Rows.{byte, run, identifier_len, decimal_len, hexadecimal_len, width_len, verilog_base, verilog_len, string_len, short_mark, long_mark}
use Rattle.rdl_text.specs.Spelling.{IsSpelled}
use Rattle.rdl_text.specs.Standing.{word_of, word_at, Stands, kind_mark}
use Rattle.rdl_text.specs.Word.{Word, word}
use Rattle.rdl_text.specs.Words.{candidate, identifier, decimal, hexadecimal, verilog, string, marked, mark, longer, longest, number, sized, judged, word_piece, piece, is_blank, is_in_line, comment_end}
use Rattle.rdl_text.specs.declared.fault.WordFault.{WordFault}
use Rattle.rdl_text.specs.declared.fault.WordFault.TheVariants.{UnendedString, BadCharacter, NumberTooLarge, WidthOutOfRange, ValueTooWide, IdentifierTooLong}
use Rattle.rdl_text.specs.Piece.{Candidate}
use Rattle.rdl_text.specs.Piece.{Piece}
use Rattle.rdl_text.specs.Piece as pieces
use Rattle.rdl_text.specs.declared.piece.Front.{Front}
use Rattle.rdl_text.specs.declared.token.Mark.{Mark}
use Rattle.rdl_text.specs.declared.token.TokenKind.{TokenKind}
use Rattle.rdl_text.specs.declared.token.TokenKind.TheVariants as kinds
use Rattle.rdl_text.proofs.Cutting.{tail, next}
use Rattle.rdl_text.proofs.Ends.{chosen}
use Rattle.rdl_text.proofs.Fronts.{name_kind, identifier_is}
use Rattle.rdl_text.proofs.Longest.{longest_letter, longest_digit, longest_quote, longest_other, letter_no_mark, digit_no_mark, quote_no_mark}
use Rattle.rdl_text.proofs.Spellings.{piece_fits, enclosed_gap, gap_word}

abbrev some : Candidate → Option Candidate
some x = Some x

abbrev ok : TokenKind → Result TokenKind WordFault
ok kind = Ok kind

pub word_at-found : (text : List ℕ) (at : ℕ) (kind : TokenKind) (len : ℕ) → piece (drop at text) ≡ Ok (pieces.Word kind len) → word_at text at ≡ word kind at (take len (drop at text))
unfolding word_at
word_at-found text at kind len e = ap (word_of at (drop at text)) e

-- ---- A piece that is a word is the longest.

abbrev found : TokenKind → ℕ → Candidate
found kind len = record { len = len; kind = Ok kind }

judged_found : (n len : ℕ) (k : Result TokenKind WordFault) (kind : TokenKind) → judged n k ≡ Ok (pieces.Word kind len) → record { len = n; kind = k } ≡ found kind len
judged_found n len (Ok k) kind e =
    let same : k ≡ kind = cc in
    let long : n ≡ len = cc in
    λ i. record { len = long i; kind = Ok (same i) }
judged_found n len (Err g) kind e = cc

word_found : (first len : ℕ) (o : Option Candidate) (kind : TokenKind) → word_piece first o ≡ Ok (pieces.Word kind len) → o ≡ Some (found kind len)
word_found first len (Some x) kind e = ap Some (judged_found x.len len x.kind kind e)
word_found first len None kind e = absurd (go (nat_eq first 34) e)
  where
    go : (t : Bool) → cond t (Err UnendedString) (Err BadCharacter) ≡ Ok (pieces.Word kind len) → ⊥
    go true e = cc
    go false e = cc

pub longest_found : (s : List ℕ) (kind : TokenKind) (len : ℕ) → piece s ≡ Ok (pieces.Word kind len) → longest s ≡ Some (found kind len)
unfolding piece
longest_found s kind len e =
    let P = longest s ≡ Some (found kind len) in
    chosen (is_blank (byte s 0)) _ _ (Ok (pieces.Word kind len)) P (λ b f. absurd (gap_word (run is_blank 0 s) len kind f))
    (λ b. chosen (nat_eq (byte s 0) 47 && nat_eq (byte s 1) 47) _ _ (Ok (pieces.Word kind len)) P
    (λ l f. absurd (gap_word (2 + run is_in_line 2 s) len kind f))
    (λ l. chosen (nat_eq (byte s 0) 47 && nat_eq (byte s 1) 42) _ _ (Ok (pieces.Word kind len)) P
    (λ m f. absurd (enclosed_gap (comment_end (drop 2 s)) kind len f))
    (λ m f. word_found (byte s 0) len (longest s) kind f))) e

-- ---- The mark that a word is.

abbrev Marks : Option Mark → Result TokenKind WordFault → Type 0
Marks o (Ok kind) = kind_mark kind ≡ o
Marks o (Err fault) = Unit {0}

abbrev WordMarks : Option Mark → Option Candidate → Type 0
WordMarks o None = Unit {0}
WordMarks o (Some x) = Marks o x.kind

candidate-marks : (o : Option Mark) (n : ℕ) (k : Result TokenKind WordFault) → Marks o k → WordMarks o (candidate n k)
candidate-marks o n k h = by-none (nat_eq n 0)
  where
    by-none : (b : Bool) → WordMarks o (cond b None (Some (record { len = n; kind = k })))
    by-none true = tt
    by-none false = h

longer-marks : (o : Option Mark) (a b : Option Candidate) → WordMarks o a → WordMarks o b → WordMarks o (longer a b)
longer-marks o None b h k = k
longer-marks o (Some a) None h k = h
longer-marks o (Some a) (Some b) h k = by-order (nat_lt a.len b.len)
  where
    by-order : (t : Bool) → WordMarks o (cond t (Some b) (Some a))
    by-order true = k
    by-order false = h

number-marks : (v : ℕ) → Marks None (number v)
number-marks v = by-size (nat_lt v (2 ^ number_bits))
  where
    by-size : (b : Bool) → Marks None (cond b (Ok (kinds.Number v)) (Err NumberTooLarge))
    by-size true = refl
    by-size false = tt

sized-marks : (w v : ℕ) → Marks None (sized w v)
sized-marks w v = by-size (nat_eq w 0 || nat_lt number_bits w) (nat_lt v (2 ^ w))
  where
    by-size : (a b : Bool) → Marks None (cond a (Err WidthOutOfRange) (cond b (Ok (kinds.Number v)) (Err ValueTooWide)))
    by-size true b = tt
    by-size false true = refl
    by-size false false = tt

identifier-marks : (s : List ℕ) → WordMarks None (identifier s)
unfolding identifier
identifier-marks s = candidate-marks None (identifier_len s) _ (by-length (nat_lt 255 (identifier_len s)))
  where
    by-length : (b : Bool) → Marks None (cond b (Err IdentifierTooLong) (Ok kinds.Identifier))
    by-length true = tt
    by-length false = refl

decimal-marks : (s : List ℕ) → WordMarks None (decimal s)
unfolding decimal
decimal-marks s = candidate-marks None (decimal_len s) _ (number-marks (value 10 (slice_range s 0 (decimal_len s))))

hexadecimal-marks : (s : List ℕ) → WordMarks None (hexadecimal s)
unfolding hexadecimal
hexadecimal-marks s = candidate-marks None (hexadecimal_len s) _ (number-marks (value 16 (slice_range s 2 (hexadecimal_len s))))

verilog-marks : (s : List ℕ) → WordMarks None (verilog s)
unfolding verilog
verilog-marks s =
    candidate-marks None (verilog_len s) _
    (sized-marks (value 10 (slice_range s 0 (width_len s))) (value (verilog_base s) (slice_range s (width_len s + 2) (verilog_len s))))

string-marks : (s : List ℕ) → WordMarks None (string s)
unfolding string
string-marks s = candidate-marks None (string_len s) (Ok kinds.Text) refl

abbrev pub either : Option Mark → Option Mark → Option Mark
either (Some m) o = Some m
either None o = o

-- the mark that the first bytes of a text are
abbrev pub marks_of : List ℕ → Option Mark
marks_of s = either (long_mark (byte s 0) (byte s 1)) (short_mark (byte s 0))

both-marks : (long short : Option Mark) → WordMarks (either long short) (longer (option_map (marked 2) long) (option_map (marked 1) short))
both-marks None None = tt
both-marks None (Some m) = refl
both-marks (Some m) None = refl
both-marks (Some m) (Some n) = refl

mark-marks : (s : List ℕ) → WordMarks (marks_of s) (mark s)
unfolding mark
mark-marks s = both-marks (long_mark (byte s 0) (byte s 1)) (short_mark (byte s 0))

both-none : (long short : Option Mark) → longer (option_map (marked 2) long) (option_map (marked 1) short) ≡ None → None ≡ either long short
both-none None None e = refl
both-none None (Some m) e = cc
both-none (Some m) None e = cc
both-none (Some m) (Some n) e = cc

unmarked : (s : List ℕ) (o : Option Candidate) → mark s ≡ None → WordMarks None o → WordMarks (marks_of s) o
unfolding mark
unmarked s o e h = subst (λ m. WordMarks m o) (both-none (long_mark (byte s 0) (byte s 1)) (short_mark (byte s 0)) e) h

longest-marks : (s : List ℕ) → WordMarks (marks_of s) (longest s)
longest-marks s = by-first (is_letter (byte s 0)) (is_digit (byte s 0) 10) (nat_eq (byte s 0) 34) refl refl refl
  where
    by-first : (l d q : Bool) → is_letter (byte s 0) ≡ l → is_digit (byte s 0) 10 ≡ d → nat_eq (byte s 0) 34 ≡ q → WordMarks (marks_of s) (longest s)
    by-first true d q e f g = subst (WordMarks (marks_of s)) (longest_letter s e) (unmarked s (identifier s) (letter_no_mark s e) (identifier-marks s))
    by-first false true q e f g =
        let numbers = longer-marks None (decimal s) _ (decimal-marks s) (longer-marks None (hexadecimal s) (verilog s) (hexadecimal-marks s) (verilog-marks s)) in
        subst (WordMarks (marks_of s)) (longest_digit s f) (unmarked s (longer (decimal s) (longer (hexadecimal s) (verilog s))) (digit_no_mark s f) numbers)
    by-first false false true e f g =
        let quote = eqb-true (byte s 0) 34 g in
        subst (WordMarks (marks_of s)) (longest_quote s quote) (unmarked s (string s) (quote_no_mark s quote) (string-marks s))
    by-first false false false e f g =
        subst (WordMarks (marks_of s)) (longest_other s e f (λ h. let t = rw h at g in cc)) (mark-marks s)

pub mark_found : (s : List ℕ) (kind : TokenKind) (len : ℕ) → piece s ≡ Ok (pieces.Word kind len) → kind_mark kind ≡ marks_of s
mark_found s kind len e = subst (WordMarks (marks_of s)) (longest_found s kind len e) (longest-marks s)

-- ---- The places at which words begin, and one more of them.

pub stand_more : (text starts : List ℕ) (at : ℕ) → All (Stands text) starts → Stands text at → All (Stands text) (starts ++ (at ∷ []))
stand_more text starts at h s = All-append (Stands text) starts (at ∷ []) h (All-cons (Stands text) at [] s (All-nil (Stands text)))

pub words_more : (text starts : List ℕ) (at : ℕ) (kind : TokenKind) (len : ℕ) → piece (drop at text) ≡ Ok (pieces.Word kind len)
    → map (word_at text) (starts ++ (at ∷ [])) ≡ map (word_at text) starts ++ (word kind at (take len (drop at text)) ∷ [])
words_more text starts at kind len e =
    map-append (word_at text) starts (at ∷ []) ∙ ap (λ (w : Word). map (word_at text) starts ++ (w ∷ [])) (word_at-found text at kind len e)

-- ---- The code's answers at a place where a word stands.

pub mark_at_place : (text : List ℕ) (start first second : ℕ) (long : Option Mark) → Stands text start → first ≡ slice_index text start → second ≡ slice_index text (start + 1)
    → long ≡ long_mark first second → kind_mark (word_at text start).kind ≡ either long (short_mark first)
mark_at_place text start first second long h e f g =
    let s = drop start text in
    let one : byte s 0 ≡ first = get_or-drop start text 0 0 ∙ (ap (λ (k : ℕ). slice_index text k) (omega arith) ∙ sym e) in
    let two : byte s 1 ≡ second = get_or-drop start text 1 0 ∙ (ap (λ (k : ℕ). slice_index text k) (omega arith) ∙ sym f) in
    ap (λ (w : Word). kind_mark w.kind) (word_at-found text start h.kind h.len h.found)
    ∙ (mark_found s h.kind h.len h.found ∙ (ap (λ (c : ℕ). either (long_mark c (byte s 1)) (short_mark c)) one ∙ (ap (λ (c : ℕ). either (long_mark first c) (short_mark first)) two ∙ ap (λ (o : Option Mark). either o (short_mark first)) (sym g))))

-- what a front that is the longest word says of the word that stands there
pub front_is : (text b : List ℕ) (start : ℕ) (front : Front) (k : Result TokenKind WordFault) → b ≡ text → (h : Stands text start)
    → some (judged_front (take (length b - start) (drop start b)) front) ≡ longest (take (length b - start) (drop start b))
    → k ≡ kind_in front.row (take (length b - start) (drop start b)) front.len → (front.len ≡ h.len) × (k ≡ Ok h.kind)
front_is text b start front k e h f g =
    let there : longest (take (length b - start) (drop start b)) ≡ Some (found h.kind h.len) = ap longest (tail b text start e) ∙ longest_found (drop start text) h.kind h.len h.found in
    let same = same_Some (judged_front (take (length b - start) (drop start b)) front) (found h.kind h.len) (f ∙ there) in
    (ap (λ (x : Candidate). x.len) same, g ∙ ap (λ (x : Candidate). x.kind) same)

pub none_stands : (text b : List ℕ) (start : ℕ) → b ≡ text → Stands text start → None ≡ longest (take (length b - start) (drop start b)) → ⊥
none_stands text b start e h f =
    let there : longest (take (length b - start) (drop start b)) ≡ Some (found h.kind h.len) = ap longest (tail b text start e) ∙ longest_found (drop start text) h.kind h.len h.found in
    none-some (found h.kind h.len) (f ∙ there)

pub record IsCut (text : List ℕ) (start : ℕ) (kind : TokenKind) (len : ℕ) : Type 0 where
  pub spelled : IsSpelled kind (take len (drop start text))
  pub boundary : IsCharBoundary text (start + len)
  pub is : word kind start (take len (drop start text)) ≡ word_at text start

is_cut : (text : List ℕ) (start : ℕ) → IsUtf8 text → (h : Stands text start) → IsCut text start h.kind h.len
is_cut text start u h =
    record {
      spelled = piece_fits (drop start text) h.kind h.len h.found;
      boundary = (next text start (pieces.Word h.kind h.len) u h.within h.boundary h.found).boundary;
      is = sym (word_at-found text start h.kind h.len h.found);
    }

kind_ok : (j k : TokenKind) → ok j ≡ ok k → j ≡ k
kind_ok j k e = cc

pub cut_there : (text b : List ℕ) (start : ℕ) (front : Front) (kind : TokenKind) → IsUtf8 text → b ≡ text → Stands text start
    → some (judged_front (take (length b - start) (drop start b)) front) ≡ longest (take (length b - start) (drop start b))
    → ok kind ≡ kind_in front.row (take (length b - start) (drop start b)) front.len → IsCut text start kind front.len
cut_there text b start front kind u e h f g =
    let is = front_is text b start front (ok kind) e h f g in
    subst (λ (n : ℕ). IsCut text start kind n) (sym is.0) (subst (λ (k : TokenKind). IsCut text start k h.len) (sym (kind_ok kind h.kind is.1)) (is_cut text start u h))

-- ---- A word that begins with a letter is an identifier.

named : (n : ℕ) (kind : TokenKind) → name_kind n ≡ Ok kind → kind ≡ kinds.Identifier
named n kind e = by-length (nat_lt 255 n) e
  where
    by-length : (b : Bool) → cond b (Err IdentifierTooLong) (Ok kinds.Identifier) ≡ ok kind → kind ≡ kinds.Identifier
    by-length true f = cc
    by-length false f = cc

pub letter_cut : (text b : List ℕ) (start len : ℕ) → IsUtf8 text → b ≡ text → Stands text start → is_letter (slice_index text start) ≡ true
    → len ≡ 1 + run is_rest 1 (take (length b - start) (drop start b)) → IsCut text start kinds.Identifier len
letter_cut text b start len u e h f g =
    let s = drop start text in
    let one : byte s 0 ≡ slice_index text start = get_or-drop start text 0 0 ∙ ap (λ (k : ℕ). slice_index text k) (omega arith) in
    let letter : is_letter (byte s 0) ≡ true = ap is_letter one ∙ f in
    let n = 1 + run is_rest 1 s in
    let long : len ≡ n = g ∙ ap (λ (x : List ℕ). 1 + run is_rest 1 x) (tail b text start e) in
    let same = same_Some (record { len = n; kind = name_kind n }) (found h.kind h.len) (sym (identifier_is s letter) ∙ (longest_letter s letter ∙ longest_found s h.kind h.len h.found)) in
    let lens : len ≡ h.len = long ∙ ap (λ (x : Candidate). x.len) same in
    let kind : h.kind ≡ kinds.Identifier = named n h.kind (ap (λ (x : Candidate). x.kind) same) in
    subst (λ (m : ℕ). IsCut text start kinds.Identifier m) (sym lens) (subst (λ (k : TokenKind). IsCut text start k h.len) kind (is_cut text start u h))

-- ---- Where a word that is kept begins.

word_start : (text : List ℕ) (at : ℕ) → (word_at text at).start ≡ at
unfolding word_at
word_start text at = by-piece (piece (drop at text))
  where
    by-piece : (found : Result Piece WordFault) → (word_of at (drop at text) found).start ≡ at
    by-piece (Ok (pieces.Word kind len)) = refl
    by-piece (Ok (pieces.Gap len)) = refl
    by-piece (Err fault) = refl

pub start_kept : (text starts : List ℕ) (i : ℕ) → option_map (λ (w : Word). w.start) (slice_get (map (word_at text) starts) i) ≡ slice_get starts i
start_kept text starts i = ap (option_map (λ (w : Word). w.start)) (slice_get-map (word_at text) starts i) ∙ one (slice_get starts i)
  where
    one : (at : Option ℕ) → option_map (λ (w : Word). w.start) (option_map (word_at text) at) ≡ at
    one (Some at) = ap Some (word_start text at)
    one None = refl
