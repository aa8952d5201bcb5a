-- Where a piece of a text ends: inside the text, behind its begin, and between two characters.
use Rattle.std.proofs.Common.{◌≡◌, ℕ, zero, suc, ◌+◌, ◌<◌, ◌≤◌, Bool, true, false, cond, ◌&&◌, ◌||◌, List, [], ◌∷◌, length, get_or, drop, IsUtf8, Option, Some, None, Result, Ok, Err, refl, sym, ◌∙◌, ap, subst, inl, inr, arith, add-one}
use Rattle.std.proofs.lemmas.Bool.{cases_lt, and_parts, ltb-true, eqb-true}
use Rattle.std.proofs.lemmas.Bool.Decides.{nat_tests}
use Rattle.std.proofs.lemmas.List.{get_or-drop}
use Rattle.std.proofs.lemmas.List.Sums.{prefix_len-le-length, prefix_len_passes, prefix_len_stops}
use Rattle.std.proofs.lemmas.Str.{IsCharBoundary-start, IsCharBoundary-end, IsCharBoundary-before_ascii, IsCharBoundary-after_ascii, IsCharBoundary-from_rest, IsUtf8-drop}
use Rattle.std.specs.Char.{is_digit, digit_value}
use Rattle.std.specs.List.{prefix_len}
use Rattle.std.specs.Option.{option_map}
use Rattle.std.specs.Prelude.{nat_eq, nat_lt}
use Rattle.std.specs.Str.{IsCharBoundary}
use Rattle.rdl_text.specs.Name.{is_letter, is_rest}
use Rattle.rdl_text.specs.Rows.{byte, run, is_digit_rest, identifier_len, decimal_len, hexadecimal_len, width_len, base_of, verilog_base, verilog_len, closing, quoted_len, string_len, short_mark, long_mark}
use Rattle.rdl_text.specs.Words.{candidate, identifier, decimal, hexadecimal, verilog, string, marked, mark, longer, longest, judged, word_piece, is_blank, is_in_line, comment_end, enclosed, block_comment, piece}
use Rattle.rdl_text.specs.declared.fault.WordFault.{WordFault}
use Rattle.rdl_text.specs.declared.fault.WordFault.TheVariants.{UnendedString, BadCharacter}
use Rattle.rdl_text.specs.declared.token.Mark.{Mark}
use Rattle.rdl_text.specs.declared.token.TokenKind.{TokenKind}
use Rattle.rdl_text.specs.Piece.{Candidate}
use Rattle.rdl_text.specs.Piece.{Piece}
use Rattle.rdl_text.specs.Piece.{Gap, Word}
use Rattle.rdl_text.proofs.Steps.{candidate_some, within_from_byte}

pub record Ends (s : List ℕ) (n : ℕ) : Type 0 where
  pub some : 1 ≤ n
  pub within : n ≤ length s
  pub boundary : IsCharBoundary s n

-- runs

after_ascii_run : (p : ℕ → Bool) (bs : List ℕ) (n : ℕ) → prefix_len p bs ≡ n → IsUtf8 bs → ((c : ℕ) → p c ≡ true → c < 128) → IsCharBoundary bs n
after_ascii_run p bs zero e utf8 ascii = IsCharBoundary-start bs utf8
after_ascii_run p bs (suc k) e utf8 ascii =
    rw (← add-one) (IsCharBoundary-after_ascii bs k utf8 (omega (arith, prefix_len-le-length p bs)) (ascii _ (prefix_len_passes p bs k 0 (omega arith))))

-- a run of ASCII bytes ends where a character does
ascii_run : (p : ℕ → Bool) (bs : List ℕ) → IsUtf8 bs → ((c : ℕ) → p c ≡ true → c < 128) → IsCharBoundary bs (prefix_len p bs)
ascii_run p bs = after_ascii_run p bs _ refl

-- and so does a run that only an ASCII byte stops
wide_run : (p : ℕ → Bool) (bs : List ℕ) → ((c : ℕ) → p c ≡ false → c < 128) → IsCharBoundary bs (prefix_len p bs)
wide_run p bs ascii =
    elim (cases_lt (prefix_len p bs) (length bs)) [
      | inl within ↦ IsCharBoundary-before_ascii bs _ within (ascii _ (prefix_len_stops p bs 0 within))
      | inr past ↦ subst (IsCharBoundary bs) (omega (arith, prefix_len-le-length p bs)) (IsCharBoundary-end bs)
    ]

byte_ends : (s : List ℕ) (i : ℕ) → IsUtf8 s → 0 < get_or s i 0 → get_or s i 0 < 128 → Ends s (i + 1)
byte_ends s i u low high =
    let h : i < length s = within_from_byte s i low in
    record { some = omega arith; within = omega arith; boundary = IsCharBoundary-after_ascii s i u h high }

run_ends : (p : ℕ → Bool) (s : List ℕ) (i : ℕ) → IsUtf8 s → 0 < get_or s i 0 → get_or s i 0 < 128 → ((c : ℕ) → p c ≡ true → c < 128) → Ends s (i + 1 + run p (i + 1) s)
run_ends p s i u low high ascii =
    let one = byte_ends s i u low high in
    let rest = ascii_run p (drop (i + 1) s) (IsUtf8-drop s (i + 1) u one.boundary) ascii in
    let b = IsCharBoundary-from_rest s (i + 1) (prefix_len p (drop (i + 1) s)) one.within rest in
    record { some = omega arith; within = b.0; boundary = b }

-- classes

letter_ascii : (c : ℕ) → is_letter c ≡ true → c < 128
letter_ascii c h = grind (arith, nat_tests)

letter_some : (c : ℕ) → is_letter c ≡ true → 0 < c
letter_some c h = grind (arith, nat_tests)

rest_ascii : (c : ℕ) → is_rest c ≡ true → c < 128
rest_ascii c h = grind (arith, nat_tests)

value_small : (c : ℕ) → digit_value c < 36 → c < 128
value_small c h = grind (arith, nat_tests)

value_some : (c : ℕ) → digit_value c < 36 → 0 < c
value_some c h = grind (arith, nat_tests)

digit_ascii : (base c : ℕ) → base ≤ 16 → is_digit c base ≡ true → c < 128
digit_ascii base c small h = value_small c (omega (arith, ltb-true _ _ h))

digit_some : (base c : ℕ) → base ≤ 16 → is_digit c base ≡ true → 0 < c
digit_some base c small h = value_some c (omega (arith, ltb-true _ _ h))

digit_rest_ascii : (base c : ℕ) → base ≤ 16 → is_digit_rest base c ≡ true → c < 128
digit_rest_ascii base c small h = go (is_digit c base) (nat_eq c 95) h (λ d. digit_ascii base c small d) (λ e. omega (arith, eqb-true c 95 e))
  where
    go : (a b : Bool) → a || b ≡ true → (a ≡ true → c < 128) → (b ≡ true → c < 128) → c < 128
    go true b h f g = f refl
    go false b h f g = g h

base_small : (c : ℕ) → base_of c ≤ 16
base_small c = grind (arith, nat_tests)

-- rows

len_or : Option Candidate → ℕ
len_or None = 0
len_or (Some x) = x.len

same_len : (x y : Candidate) → Some x ≡ Some y → x.len ≡ y.len
unfolding len_or
same_len x y e = ap len_or e

pub candidate_found : (n : ℕ) (k : Result TokenKind WordFault) (x : Candidate) → candidate n k ≡ Some x → (0 < n) × (n ≡ x.len)
candidate_found zero k x e = cc
candidate_found (suc n) k x e = (omega arith, same_len (record { len = suc n; kind = k }) x (sym (candidate_some (suc n) k (omega arith)) ∙ e))

candidate_ends : (s : List ℕ) (b : Bool) (n : ℕ) (k : Result TokenKind WordFault) (x : Candidate) → (b ≡ true → Ends s n) → candidate (cond b n 0) k ≡ Some x → Ends s x.len
candidate_ends s true n k x h e = subst (Ends s) (candidate_found n k x e).1 (h refl)
candidate_ends s false n k x h e = cc

identifier_ends : (s : List ℕ) (x : Candidate) → IsUtf8 s → identifier s ≡ Some x → Ends s x.len
unfolding identifier identifier_len
identifier_ends s x u e =
    candidate_ends s (is_letter (byte s 0)) (1 + run is_rest 1 s) _ x (λ h. run_ends is_rest s 0 u (letter_some _ h) (letter_ascii _ h) rest_ascii) e

decimal_ends : (s : List ℕ) (x : Candidate) → IsUtf8 s → decimal s ≡ Some x → Ends s x.len
unfolding decimal decimal_len
decimal_ends s x u e =
    candidate_ends s (is_digit (byte s 0) 10) (1 + run (is_digit_rest 10) 1 s) _ x
    (λ h. run_ends (is_digit_rest 10) s 0 u (digit_some 10 _ (omega arith) h) (digit_ascii 10 _ (omega arith) h) (λ c d. digit_rest_ascii 10 c (omega arith) d)) e

hexadecimal_ends : (s : List ℕ) (x : Candidate) → IsUtf8 s → hexadecimal s ≡ Some x → Ends s x.len
unfolding hexadecimal hexadecimal_len
hexadecimal_ends s x u e =
    candidate_ends s _ (3 + run (is_digit_rest 16) 3 s) _ x
    (λ h. let d = (and_parts _ _ h).1 in run_ends (is_digit_rest 16) s 2 u (digit_some 16 _ (omega arith) d) (digit_ascii 16 _ (omega arith) d) (λ c f. digit_rest_ascii 16 c (omega arith) f)) e

verilog_run : (s : List ℕ) → IsUtf8 s → is_digit (byte s (width_len s + 2)) (verilog_base s) ≡ true
    → Ends s (width_len s + 3 + run (is_digit_rest (verilog_base s)) (width_len s + 3) s)
verilog_run s u d =
    let base = verilog_base s in
    let small = base_small (byte s (width_len s + 1)) in
    let three : width_len s + 2 + 1 ≡ width_len s + 3 = omega arith in
    subst (λ (k : ℕ). Ends s (k + run (is_digit_rest base) k s)) three
    (run_ends (is_digit_rest base) s (width_len s + 2) u (digit_some base _ small d) (digit_ascii base _ small d) (λ c f. digit_rest_ascii base c small f))

verilog_ends : (s : List ℕ) (x : Candidate) → IsUtf8 s → verilog s ≡ Some x → Ends s x.len
unfolding verilog verilog_len
verilog_ends s x u e =
    candidate_ends s _ (width_len s + 3 + run (is_digit_rest (verilog_base s)) (width_len s + 3) s) _ x (λ h. verilog_run s u (and_parts _ _ h).1) e

-- the place of a closing quote has one
pub mapped : (o : Option ℕ) (n : ℕ) → option_map (λ m. m + 1) o ≡ Some n → (m : ℕ) × (o ≡ Some m) × (n ≡ m + 1)
mapped None n e = cc
mapped (Some m) n e = (m, refl, cc)

closing_step : (b : Bool) (c : ℕ) (cs : List ℕ) (o : Option ℕ) (n : ℕ) → (b ≡ true → c ≡ 34) → ((m : ℕ) → o ≡ Some m → get_or cs m 0 ≡ 34)
    → cond b (Some 0) (option_map (λ m. m + 1) o) ≡ Some n → get_or (c ∷ cs) n 0 ≡ 34
closing_step true c cs o n q f e = let z : 0 ≡ n = cc in rw (← z) (q refl)
closing_step false c cs o n q f e = let m = mapped o n e in rw (m.2, add-one) (f m.0 m.1)

pub closing_at : (taken : Bool) (s : List ℕ) (n : ℕ) → closing taken s ≡ Some n → get_or s n 0 ≡ 34
closing_at taken [] n e = cc
closing_at true (c ∷ cs) n e =
    let m = mapped (closing false cs) n e in
    rw (m.2, add-one) (closing_at false cs m.0 m.1)
closing_at false (c ∷ cs) n e =
    closing_step (nat_eq c 34) c cs (closing (nat_eq c 92) cs) n (λ q. eqb-true c 34 q) (λ m f. closing_at (nat_eq c 92) cs m f) e

pub quoted_some : (b : Bool) (o : Option ℕ) (n : ℕ) → cond b (quoted_len o) 0 ≡ n → 0 < n → (m : ℕ) × (o ≡ Some m) × (n ≡ m + 2)
quoted_some true (Some m) n e h = (m, refl, sym e)
quoted_some true None n e h = absurd (omega (arith, e))
quoted_some false o n e h = absurd (omega (arith, e))

string_ends : (s : List ℕ) (x : Candidate) → IsUtf8 s → string s ≡ Some x → Ends s x.len
unfolding string string_len
string_ends s x u e =
    let found = candidate_found (cond (nat_eq (byte s 0) 34) (quoted_len (closing false (drop 1 s))) 0) _ x e in
    let q = quoted_some (nat_eq (byte s 0) 34) (closing false (drop 1 s)) x.len found.1 (omega (arith, found.0, found.1)) in
    let m = q.0 in
    let place : get_or s (m + 1) 0 ≡ 34 =
    ap (λ (k : ℕ). get_or s k 0) (omega arith) ∙ (sym (get_or-drop 1 s m 0) ∙ closing_at false (drop 1 s) m q.1) in
    let same : m + 1 + 1 ≡ x.len = omega (arith, q.2) in
    subst (Ends s) same (byte_ends s (m + 1) u (omega (arith, place)) (omega (arith, place)))

-- marks

some_mark : (c : ℕ) (m : Mark) → short_mark c ≡ Some m → (0 < c) × (c < 128)
some_mark c m e = (short_low c m e, short_high c m e)
  where
    short_low : (c : ℕ) (m : Mark) → short_mark c ≡ Some m → 0 < c
    short_low c m e = grind (arith, nat_tests)

    short_high : (c : ℕ) (m : Mark) → short_mark c ≡ Some m → c < 128
    short_high c m e = grind (arith, nat_tests)

long_low : (c d : ℕ) (m : Mark) → long_mark c d ≡ Some m → 0 < d
long_low c d m e = grind (arith, nat_tests)

long_high : (c d : ℕ) (m : Mark) → long_mark c d ≡ Some m → d < 128
long_high c d m e = grind (arith, nat_tests)

marks_end : (s : List ℕ) (long short : Option Mark) (x : Candidate) → ((m : Mark) → long ≡ Some m → Ends s 2) → ((m : Mark) → short ≡ Some m → Ends s 1)
    → longer (option_map (marked 2) long) (option_map (marked 1) short) ≡ Some x → Ends s x.len
marks_end s None None x f g e = cc
marks_end s None (Some m) x f g e = subst (Ends s) (same_len (marked 1 m) x e) (g m refl)
marks_end s (Some m) None x f g e = subst (Ends s) (same_len (marked 2 m) x e) (f m refl)
marks_end s (Some m) (Some n) x f g e = subst (Ends s) (same_len (marked 2 m) x e) (f m refl)

mark_ends : (s : List ℕ) (x : Candidate) → IsUtf8 s → mark s ≡ Some x → Ends s x.len
unfolding mark
mark_ends s x u e =
    marks_end s (long_mark (byte s 0) (byte s 1)) (short_mark (byte s 0)) x
    (λ m h. byte_ends s 1 u (long_low (byte s 0) (byte s 1) m h) (long_high (byte s 0) (byte s 1) m h))
    (λ m h. let k = some_mark (byte s 0) m h in byte_ends s 0 u k.0 k.1) e

-- words

pub longer_from : (P : Candidate → Type 0) (a b : Option Candidate) (x : Candidate) → (a ≡ Some x → P x) → (b ≡ Some x → P x) → longer a b ≡ Some x → P x
longer_from P None b x f g e = g e
longer_from P (Some a) None x f g e = f e
longer_from P (Some a) (Some b) x f g e = go (nat_lt a.len b.len) e
  where
    go : (t : Bool) → cond t (Some b) (Some a) ≡ Some x → P x
    go true e = g e
    go false e = f e

longest_ends : (s : List ℕ) (x : Candidate) → IsUtf8 s → longest s ≡ Some x → Ends s x.len
unfolding longest
longest_ends s x u e =
    let P : Candidate → Type 0 = λ y. Ends s y.len in
    longer_from P (identifier s) _ x (identifier_ends s x u)
    (longer_from P (decimal s) _ x (decimal_ends s x u)
    (longer_from P (hexadecimal s) _ x (hexadecimal_ends s x u)
    (longer_from P (verilog s) _ x (verilog_ends s x u)
    (longer_from P (string s) (mark s) x (string_ends s x u) (mark_ends s x u))))) e

abbrev pub piece_len : Piece → ℕ
piece_len (Gap n) = n
piece_len (Word kind n) = n

len_ok : Result Piece WordFault → ℕ
len_ok (Ok p) = piece_len p
len_ok (Err f) = 0

abbrev found : Piece → Result Piece WordFault
found p = Ok p

same_piece : (p q : Piece) → found p ≡ Ok q → piece_len p ≡ piece_len q
unfolding len_ok
same_piece p q e = ap len_ok e

judged_len : (n : ℕ) (k : Result TokenKind WordFault) (p : Piece) → judged n k ≡ Ok p → n ≡ piece_len p
judged_len n (Ok kind) p e = same_piece (Word kind n) p e
judged_len n (Err f) p e = cc

word_ends : (s : List ℕ) (first : ℕ) (o : Option Candidate) (p : Piece) → ((x : Candidate) → o ≡ Some x → Ends s x.len) → word_piece first o ≡ Ok p → Ends s (piece_len p)
word_ends s first (Some x) p f e = subst (Ends s) (judged_len x.len x.kind p e) (f x refl)
word_ends s first None p f e = absurd (go (nat_eq first 34) e)
  where
    go : (t : Bool) → cond t (Err UnendedString) (Err BadCharacter) ≡ Ok p → ⊥
    go true e = cc
    go false e = cc

-- comments and blanks

blank_ascii : (c : ℕ) → is_blank c ≡ true → c < 128
blank_ascii c h = grind (arith, nat_tests)

blanks_end : (s : List ℕ) → IsUtf8 s → is_blank (byte s 0) ≡ true → Ends s (run is_blank 0 s)
blanks_end [] u h = cc
blanks_end (c ∷ cs) u h =
    let b = ascii_run is_blank (c ∷ cs) u blank_ascii in
    record { some = rw h (omega arith); within = b.0; boundary = b }

in_line_ascii : (c : ℕ) → is_in_line c ≡ false → c < 128
in_line_ascii c h = grind (arith, nat_tests)

line_ends : (s : List ℕ) → IsUtf8 s → byte s 1 ≡ 47 → Ends s (2 + run is_in_line 2 s)
line_ends s u h =
    let two = byte_ends s 1 u (omega (arith, h)) (omega (arith, h)) in
    let b = IsCharBoundary-from_rest s 2 (prefix_len is_in_line (drop 2 s)) two.within (wide_run is_in_line (drop 2 s) in_line_ascii) in
    record { some = omega arith; within = b.0; boundary = b }

comment_step : (a b : Bool) (c : ℕ) (cs : List ℕ) (o : Option ℕ) (n : ℕ) → (b ≡ true → byte cs 0 ≡ 47) → ((m : ℕ) → o ≡ Some m → get_or cs (m + 1) 0 ≡ 47)
    → cond (a && b) (Some 0) (option_map (λ m. m + 1) o) ≡ Some n → get_or (c ∷ cs) (n + 1) 0 ≡ 47
comment_step true true c cs o n q f e = let z : 0 ≡ n = cc in rw (← z) (q refl)
comment_step true false c cs o n q f e = let m = mapped o n e in rw (m.2, add-one) (f m.0 m.1)
comment_step false b c cs o n q f e = let m = mapped o n e in rw (m.2, add-one) (f m.0 m.1)

-- behind the place of a `*/` stands its `/`
comment_at : (s : List ℕ) (n : ℕ) → comment_end s ≡ Some n → get_or s (n + 1) 0 ≡ 47
comment_at [] n e = cc
comment_at (c ∷ cs) n e =
    comment_step (nat_eq c 42) (nat_eq (byte cs 0) 47) c cs (comment_end cs) n (λ q. eqb-true (byte cs 0) 47 q) (λ m f. comment_at cs m f) e

comment_ends : (s : List ℕ) (p : Piece) → IsUtf8 s → block_comment s ≡ Ok p → Ends s (piece_len p)
comment_ends s p u e = go (comment_end (drop 2 s)) refl e
  where
    go : (o : Option ℕ) → comment_end (drop 2 s) ≡ o → enclosed o ≡ Ok p → Ends s (piece_len p)
    go None q f = cc
    go (Some n) q f =
        let place : get_or s (n + 3) 0 ≡ 47 =
        ap (λ (k : ℕ). get_or s k 0) (omega arith) ∙ (sym (get_or-drop 2 s (n + 1) 0) ∙ comment_at (drop 2 s) n q) in
        let same : n + 3 + 1 ≡ piece_len p = omega (arith, same_piece (Gap (n + 4)) p f) in
        subst (Ends s) same (byte_ends s (n + 3) u (omega (arith, place)) (omega (arith, place)))

pub chosen : (b : Bool) (x y z : Result Piece WordFault) (P : Type 0) → (b ≡ true → x ≡ z → P) → (b ≡ false → y ≡ z → P) → cond b x y ≡ z → P
chosen true x y z P f g e = f refl e
chosen false x y z P f g e = g refl e

pub piece_ends : (s : List ℕ) (p : Piece) → IsUtf8 s → piece s ≡ Ok p → Ends s (piece_len p)
unfolding piece
piece_ends s p u e =
    let P = Ends s (piece_len p) in
    chosen (is_blank (byte s 0)) _ _ (Ok p) P (λ b f. subst (Ends s) (same_piece (Gap (run is_blank 0 s)) p f) (blanks_end s u b))
    (λ b. chosen (nat_eq (byte s 0) 47 && nat_eq (byte s 1) 47) _ _ (Ok p) P
    (λ l f. subst (Ends s) (same_piece (Gap (2 + run is_in_line 2 s)) p f) (line_ends s u (eqb-true _ _ (and_parts _ _ l).1)))
    (λ l. chosen (nat_eq (byte s 0) 47 && nat_eq (byte s 1) 42) _ _ (Ok p) P (λ m f. comment_ends s p u f)
    (λ m f. word_ends s (byte s 0) (longest s) p (λ x h. longest_ends s x u h) f))) e
