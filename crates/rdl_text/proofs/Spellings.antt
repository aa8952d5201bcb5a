-- The words that are found are spelled as words of their kind.
use Rattle.std.proofs.Common.{◌≡◌, ℕ, zero, suc, ◌+◌, ◌^◌, ◌<◌, ◌≤◌, Bool, true, false, cond, ◌&&◌, ◌||◌, List, [], ◌∷◌, ◌++◌, take, drop, Option, Some, None, Result, Ok, Err, refl, sym, ◌∙◌, ap, subst, arith}
use Rattle.std.proofs.lemmas.Bool.{eqb-true, ltb-false}
use Rattle.std.proofs.lemmas.List.{length-take}
use Rattle.std.specs.List.{prefix_len, list_all}
use Rattle.std.specs.Option.{option_map}
use Rattle.std.specs.Prelude.{nat_eq, nat_lt, slice_range}
use Rattle.rdl_text.specs.Name.{IsName, is_letter, is_rest}
use Rattle.rdl_text.specs.Number.{number_bits, value}
use Rattle.rdl_text.specs.Raw.{is_inside}
use Rattle.rdl_text.specs.Rows.{byte, run, identifier_len, decimal_len, hexadecimal_len, width_len, verilog_base, verilog_len, closing, quoted_len, string_len, short_mark, long_mark}
use Rattle.rdl_text.specs.Spelling.{IsQuoted, IsSpelled}
use Rattle.rdl_text.specs.Words.{candidate, number, sized, identifier, decimal, hexadecimal, verilog, string, marked, mark, longer, longest, judged, word_piece, piece, enclosed, comment_end, is_blank, is_in_line}
use Rattle.rdl_text.specs.declared.fault.WordFault.{WordFault}
use Rattle.rdl_text.specs.declared.fault.WordFault.TheVariants.{UnendedString, BadCharacter, NumberTooLarge, WidthOutOfRange, ValueTooWide, IdentifierTooLong}
use Rattle.rdl_text.specs.declared.token.Mark.{Mark}
use Rattle.rdl_text.specs.declared.token.TokenKind.{TokenKind}
use Rattle.rdl_text.specs.declared.token.TokenKind.TheVariants as kinds
use Rattle.rdl_text.specs.Piece.{Candidate}
use Rattle.rdl_text.specs.Piece.{Piece}
use Rattle.rdl_text.specs.Piece as pieces
use Rattle.rdl_text.proofs.Ends.{candidate_found, mapped, quoted_some, longer_from, chosen}
use Rattle.rdl_text.proofs.Steps.{candidate_some}

-- a word that is no fault is spelled by its kind
abbrev Fits : List ℕ → ℕ → Result TokenKind WordFault → Type 0
Fits s n (Ok kind) = IsSpelled kind (take n s)
Fits s n (Err fault) = Unit {0}

number_fits : (s : List ℕ) (n v : ℕ) → Fits s n (number v)
number_fits s n v = go (nat_lt v (2 ^ number_bits))
  where
    go : (b : Bool) → Fits s n (cond b (Ok (kinds.Number v)) (Err NumberTooLarge))
    go true = tt
    go false = tt

sized_fits : (s : List ℕ) (n w v : ℕ) → Fits s n (sized w v)
sized_fits s n w v = go (nat_eq w 0 || nat_lt number_bits w) (nat_lt v (2 ^ w))
  where
    go : (a b : Bool) → Fits s n (cond a (Err WidthOutOfRange) (cond b (Ok (kinds.Number v)) (Err ValueTooWide)))
    go true b = tt
    go false true = tt
    go false false = tt

-- the kind of what was found
candidate_of : Option Candidate → ℕ → Result TokenKind WordFault
candidate_of None n = Err BadCharacter
candidate_of (Some x) n = x.kind

same_kind : (x y : Candidate) → Some x ≡ Some y → x.kind ≡ y.kind
unfolding candidate_of
same_kind x y e = ap (λ (o : Option Candidate). candidate_of o 0) e

candidate_kind : (n : ℕ) (k : Result TokenKind WordFault) (x : Candidate) → candidate n k ≡ Some x → k ≡ x.kind
candidate_kind zero k x e = cc
candidate_kind (suc n) k x e = same_kind (record { len = suc n; kind = k }) x (sym (candidate_some (suc n) k (omega arith)) ∙ e)

candidate_fits : (s : List ℕ) (n : ℕ) (k : Result TokenKind WordFault) (x : Candidate) → (0 < n → Fits s n k) → candidate n k ≡ Some x → Fits s x.len x.kind
candidate_fits s n k x h e =
    let len = candidate_found n k x e in
    subst (λ (m : ℕ). Fits s m x.kind) len.1 (subst (Fits s n) (candidate_kind n k x e) (h len.0))

-- identifiers

front_step : (b : Bool) (c : ℕ) (cs : List ℕ) (k : ℕ) → is_rest c ≡ b → (prefix_len is_rest cs ≡ k → list_all is_rest (take k cs) ≡ true)
    → cond b (1 + prefix_len is_rest cs) 0 ≡ suc k → is_rest c && list_all is_rest (take k cs) ≡ true
front_step true c cs k q f e = rw q (f (omega arith))
front_step false c cs k q f e = absurd (omega arith)

all_front : (cs : List ℕ) (k : ℕ) → prefix_len is_rest cs ≡ k → list_all is_rest (take k cs) ≡ true
all_front cs zero e = refl
all_front [] (suc k) e = refl
all_front (c ∷ cs) (suc k) e = front_step (is_rest c) c cs k refl (λ f. all_front cs k f) e

identifier_spelled : (s : List ℕ) → is_letter (byte s 0) ≡ true → 1 + run is_rest 1 s ≤ 255 → IsName (take (1 + run is_rest 1 s) s)
identifier_spelled [] h small = cc
identifier_spelled (c ∷ cs) h small =
    let n = prefix_len is_rest cs in
    let one : suc n ≡ 1 + n = omega arith in
    let short : 1 + n ≤ 255 = small in
    subst (λ (k : ℕ). IsName (take k (c ∷ cs))) one
    (record { short = omega (arith, length-take n cs); identifier = rw h (all_front cs n refl) })

identifier_judged : (s : List ℕ) (n : ℕ) (b : Bool) → nat_lt 255 n ≡ b → (n ≤ 255 → IsName (take n s)) → Fits s n (cond b (Err IdentifierTooLong) (Ok kinds.Identifier))
identifier_judged s n true e f = tt
identifier_judged s n false e f = f (ltb-false 255 n e)

identifier_len_fits : (s : List ℕ) (b : Bool) → is_letter (byte s 0) ≡ b → 0 < cond b (1 + run is_rest 1 s) 0
    → Fits s (cond b (1 + run is_rest 1 s) 0) (cond (nat_lt 255 (cond b (1 + run is_rest 1 s) 0)) (Err IdentifierTooLong) (Ok kinds.Identifier))
identifier_len_fits s false e h = absurd (omega arith)
identifier_len_fits s true e h = identifier_judged s (1 + run is_rest 1 s) (nat_lt 255 (1 + run is_rest 1 s)) refl (λ small. identifier_spelled s e small)

identifier_fits : (s : List ℕ) (x : Candidate) → identifier s ≡ Some x → Fits s x.len x.kind
unfolding identifier identifier_len
identifier_fits s x e = candidate_fits s (cond (is_letter (byte s 0)) (1 + run is_rest 1 s) 0) _ x (identifier_len_fits s (is_letter (byte s 0)) refl) e

-- numbers

decimal_fits : (s : List ℕ) (x : Candidate) → decimal s ≡ Some x → Fits s x.len x.kind
unfolding decimal
decimal_fits s x e =
    let v = value 10 (slice_range s 0 (decimal_len s)) in
    candidate_fits s (decimal_len s) (number v) x (λ h. number_fits s (decimal_len s) v) e

hexadecimal_fits : (s : List ℕ) (x : Candidate) → hexadecimal s ≡ Some x → Fits s x.len x.kind
unfolding hexadecimal
hexadecimal_fits s x e =
    let v = value 16 (slice_range s 2 (hexadecimal_len s)) in
    candidate_fits s (hexadecimal_len s) (number v) x (λ h. number_fits s (hexadecimal_len s) v) e

verilog_fits : (s : List ℕ) (x : Candidate) → verilog s ≡ Some x → Fits s x.len x.kind
unfolding verilog
verilog_fits s x e =
    let w = value 10 (slice_range s 0 (width_len s)) in
    let v = value (verilog_base s) (slice_range s (width_len s + 2) (verilog_len s)) in
    candidate_fits s (verilog_len s) (sized w v) x (λ h. sized_fits s (verilog_len s) w v) e

-- strings

record Closes (taken : Bool) (s : List ℕ) (n : ℕ) : Type 0 where
  inside : is_inside taken (take n s) ≡ true
  text : take (n + 1) s ≡ take n s ++ (34 ∷ [])

closes_more : (t u : Bool) (c : ℕ) (cs : List ℕ) (m : ℕ) → Closes u cs m → is_inside t (c ∷ take m cs) ≡ is_inside u (take m cs) → Closes t (c ∷ cs) (m + 1)
closes_more t u c cs m h f =
    let one : suc m ≡ m + 1 = omega arith in
    let two : m + 1 + 1 ≡ suc (m + 1) = omega arith in
    record {
      inside = subst (λ (k : ℕ). is_inside t (take k (c ∷ cs)) ≡ true) one (f ∙ h.inside);
      text = ap (λ (k : ℕ). take k (c ∷ cs)) two ∙ (ap (λ (q : List ℕ). c ∷ q) h.text ∙ ap (λ (k : ℕ). take k (c ∷ cs) ++ (34 ∷ [])) one);
    }

closes_step : (b : Bool) (c : ℕ) (cs : List ℕ) (n : ℕ) → nat_eq c 34 ≡ b → ((m : ℕ) → closing (nat_eq c 92) cs ≡ Some m → Closes (nat_eq c 92) cs m)
    → cond b (Some 0) (option_map (λ m. m + 1) (closing (nat_eq c 92) cs)) ≡ Some n → Closes false (c ∷ cs) n
closes_step true c cs n q f e =
    let z : 0 ≡ n = cc in
    subst (Closes false (c ∷ cs)) z (record { inside = refl; text = ap (λ (d : ℕ). d ∷ []) (eqb-true c 34 q) })
closes_step false c cs n q f e =
    let m = mapped (closing (nat_eq c 92) cs) n e in
    subst (Closes false (c ∷ cs)) (sym m.2) (closes_more false (nat_eq c 92) c cs m.0 (f m.0 m.1) (rw q refl))

closes : (taken : Bool) (s : List ℕ) (n : ℕ) → closing taken s ≡ Some n → Closes taken s n
closes taken [] n e = cc
closes true (c ∷ cs) n e =
    let m = mapped (closing false cs) n e in
    subst (Closes true (c ∷ cs)) (sym m.2) (closes_more true false c cs m.0 (closes false cs m.0 m.1) refl)
closes false (c ∷ cs) n e = closes_step (nat_eq c 34) c cs n refl (λ m f. closes (nat_eq c 92) cs m f) e

string_spelled : (s : List ℕ) (m : ℕ) → byte s 0 ≡ 34 → closing false (drop 1 s) ≡ Some m → (raw : List ℕ) × IsQuoted (take (m + 2) s) raw
string_spelled [] m h e = absurd (omega arith)
string_spelled (c ∷ cs) m h e =
    let k = closes false cs m e in
    let two : m + 2 ≡ suc (m + 1) = omega arith in (
      take m cs,
      record {
        quoted = ap (λ (j : ℕ). take j (c ∷ cs)) two ∙ (ap (λ (d : ℕ). d ∷ take (m + 1) cs) h ∙ ap (λ (t : List ℕ). 34 ∷ t) k.text);
        raw = record { inside = k.inside };
      },
    )

quoted_first : (b : Bool) (n : ℕ) → 0 < cond b n 0 → b ≡ true
quoted_first true n h = refl
quoted_first false n h = absurd (omega arith)

string_len_fits : (s : List ℕ) → 0 < string_len s → (raw : List ℕ) × IsQuoted (take (string_len s) s) raw
unfolding string_len
string_len_fits s h =
    let q = quoted_some (nat_eq (byte s 0) 34) (closing false (drop 1 s)) (cond (nat_eq (byte s 0) 34) (quoted_len (closing false (drop 1 s))) 0) refl h in
    let first = eqb-true (byte s 0) 34 (quoted_first _ _ h) in
    subst (λ (n : ℕ). (raw : List ℕ) × IsQuoted (take n s) raw) (sym q.2) (string_spelled s q.0 first q.1)

string_fits : (s : List ℕ) (x : Candidate) → string s ≡ Some x → Fits s x.len x.kind
unfolding string
string_fits s x e = candidate_fits s (string_len s) (Ok kinds.Text) x (string_len_fits s) e

-- marks

marks_fit : (s : List ℕ) (long short : Option Mark) (x : Candidate) → longer (option_map (marked 2) long) (option_map (marked 1) short) ≡ Some x → Fits s x.len x.kind
marks_fit s None None x e = cc
marks_fit s None (Some m) x e = subst (Fits s x.len) (same_kind (marked 1 m) x e) tt
marks_fit s (Some m) None x e = subst (Fits s x.len) (same_kind (marked 2 m) x e) tt
marks_fit s (Some m) (Some n) x e = subst (Fits s x.len) (same_kind (marked 2 m) x e) tt

mark_fits : (s : List ℕ) (x : Candidate) → mark s ≡ Some x → Fits s x.len x.kind
unfolding mark
mark_fits s x e = marks_fit s (long_mark (byte s 0) (byte s 1)) (short_mark (byte s 0)) x e

-- words

longest_fits : (s : List ℕ) (x : Candidate) → longest s ≡ Some x → Fits s x.len x.kind
unfolding longest
longest_fits s x e =
    let P : Candidate → Type 0 = λ y. Fits s y.len y.kind in
    longer_from P (identifier s) _ x (identifier_fits s x)
    (longer_from P (decimal s) _ x (decimal_fits s x)
    (longer_from P (hexadecimal s) _ x (hexadecimal_fits s x)
    (longer_from P (verilog s) _ x (verilog_fits s x)
    (longer_from P (string s) (mark s) x (string_fits s x) (mark_fits s x))))) e

judged_fits : (s : List ℕ) (n len : ℕ) (k : Result TokenKind WordFault) (kind : TokenKind) → Fits s n k → judged n k ≡ Ok (pieces.Word kind len) → IsSpelled kind (take len s)
judged_fits s n len (Ok k) kind f e =
    let same : k ≡ kind = cc in
    let long : n ≡ len = cc in
    subst (λ (m : ℕ). IsSpelled kind (take m s)) long (subst (λ (t : TokenKind). IsSpelled t (take n s)) same f)
judged_fits s n len (Err g) kind f e = cc

word_fits : (s : List ℕ) (first len : ℕ) (o : Option Candidate) (kind : TokenKind) → ((x : Candidate) → o ≡ Some x → Fits s x.len x.kind) → word_piece first o ≡ Ok (pieces.Word kind len) → IsSpelled kind (take len s)
word_fits s first len (Some x) kind f e = judged_fits s x.len len x.kind kind (f x refl) e
word_fits s first len None kind f e = absurd (go (nat_eq first 34) e)
  where
    go : (t : Bool) → cond t (Err UnendedString) (Err BadCharacter) ≡ Ok (pieces.Word kind len) → ⊥
    go true e = cc
    go false e = cc

pub enclosed_gap : (o : Option ℕ) (kind : TokenKind) (len : ℕ) → enclosed o ≡ Ok (pieces.Word kind len) → ⊥
enclosed_gap None kind len e = cc
enclosed_gap (Some n) kind len e = cc

abbrev pub gap : ℕ → Result Piece WordFault
gap n = Ok (pieces.Gap n)

pub gap_word : (n len : ℕ) (kind : TokenKind) → gap n ≡ Ok (pieces.Word kind len) → ⊥
gap_word n len kind e = cc

pub piece_fits : (s : List ℕ) (kind : TokenKind) (len : ℕ) → piece s ≡ Ok (pieces.Word kind len) → IsSpelled kind (take len s)
unfolding piece
piece_fits s kind len e =
    let P = IsSpelled kind (take len s) in
    chosen (is_blank (byte s 0)) _ _ (Ok (pieces.Word kind len)) P (λ b f. absurd (gap_word (run is_blank 0 s) len kind f))
    (λ b. chosen (nat_eq (byte s 0) 47 && nat_eq (byte s 1) 47) _ _ (Ok (pieces.Word kind len)) P
    (λ l f. absurd (gap_word (2 + run is_in_line 2 s) len kind f))
    (λ l. chosen (nat_eq (byte s 0) 47 && nat_eq (byte s 1) 42) _ _ (Ok (pieces.Word kind len)) P
    (λ m f. absurd (enclosed_gap (comment_end (drop 2 s)) kind len f))
    (λ m f. word_fits s (byte s 0) len (longest s) kind (longest_fits s) f))) e
