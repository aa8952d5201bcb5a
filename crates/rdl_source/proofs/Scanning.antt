-- A gap is scanned from byte to byte and over comments, and what is known of it is in order.
use Rattle.std.proofs.Common.{◌≡◌, ℕ, zero, suc, ◌+◌, ◌-◌, ◌<◌, ◌≤◌, Bool, true, false, List, [], ◌∷◌, length, take, drop, get_or, Option, Some, None, refl, ap, sym, ◌∙◌, inl, inr, arith, take_all}
use Rattle.std.specs.Prelude.{nat_eq, cond}
use Rattle.std.proofs.lemmas.Bool.{cases_lt, ne_eqb}
use Rattle.std.proofs.lemmas.List.{get_or_past, length-drop, drop_more, drop-drop, drop_all}
use Rattle.rdl_text.specs.Words.{is_blank}
use Rattle.rdl_source.specs.declared.gap.Right.{Right}
use Rattle.rdl_source.specs.declared.gap.Right.TheVariants.{Statement, End}
use Rattle.rdl_source.specs.declared.gap.Left.{Left}
use Rattle.rdl_source.specs.declared.gap.Left.TheVariants.{Begin, Word}
use Rattle.rdl_source.specs.declared.gap.Scan.{Scan}
use Rattle.rdl_source.specs.Gap.{begun, comment_len, line_ended, comment_ended, scan_from, trail_end, float_end}

-- a byte that isn't 0 was read inside the text
pub within_from_byte : (s : List ℕ) (i : ℕ) → 0 < get_or s i 0 → i < length s
within_from_byte s i h = elim (cases_lt i (length s)) [ inl within ↦ within | inr past ↦ absurd (omega (arith, get_or_past s i 0 past)) ]

-- what a slice from a byte on holds
pub tail : (s : List ℕ) (at : ℕ) → take (length s - at) (drop at s) ≡ drop at s
tail s at = take_all (length s - at) (drop at s) (omega (arith, length-drop at s))

from_place : (a b : ℕ) (m : Scan) (s : List ℕ) → a ≡ b → scan_from 0 a m s ≡ scan_from 0 b m s
from_place a b m s e = ap (λ k. scan_from 0 k m s) e

pub skip_scan : (k at : ℕ) (m : Scan) (s : List ℕ) → scan_from k at m s ≡ scan_from 0 (at + k) m (drop k s)
unfolding scan_from
skip_scan zero at m s = from_place at (at + 0) m s (omega arith)
skip_scan (suc k) at m [] = refl
skip_scan (suc k) at m (c ∷ cs) = skip_scan k (at + 1) m cs ∙ from_place (at + 1 + k) (at + suc k) m (drop k cs) (omega arith)

-- ---- The pieces at the begin of what is left.

pub line-cons : (at : ℕ) (m : Scan) (c : ℕ) (cs : List ℕ) → nat_eq c 10 ≡ true → scan_from 0 at m (c ∷ cs) ≡ scan_from 0 (at + 1) (line_ended (at + 1) m.line m) cs
unfolding scan_from
line-cons at m c cs e = rw e refl

pub blank-cons : (at : ℕ) (m : Scan) (c : ℕ) (cs : List ℕ) → nat_eq c 10 ≡ false → is_blank c ≡ true → scan_from 0 at m (c ∷ cs) ≡ scan_from 0 (at + 1) m cs
unfolding scan_from
blank-cons at m c cs e f = rw (e, f) refl

word-cons : (at : ℕ) (m : Scan) (c : ℕ) (cs : List ℕ) → nat_eq c 10 ≡ false → is_blank c ≡ false → nat_eq (comment_len (c ∷ cs)) 0 ≡ true → scan_from 0 at m (c ∷ cs) ≡ None
unfolding scan_from
word-cons at m c cs e f g = rw (e, f, g) refl

pub comment-cons : (at : ℕ) (m : Scan) (c : ℕ) (cs : List ℕ) → nat_eq c 10 ≡ false → is_blank c ≡ false → nat_eq (comment_len (c ∷ cs)) 0 ≡ false
    → scan_from 0 at m (c ∷ cs) ≡ scan_from (comment_len (c ∷ cs) - 1) (at + 1) (comment_ended (at + comment_len (c ∷ cs)) m) cs
unfolding scan_from
comment-cons at m c cs e f g = rw (e, f, g) refl

-- ---- The same at a byte of a gap.

here : (gap : List ℕ) (at : ℕ) → at < length gap → drop at gap ≡ get_or gap at 0 ∷ drop (at + 1) gap
here gap at h = drop_more gap at 0 h

pub past_line : (gap : List ℕ) (at : ℕ) (m : Scan) → at < length gap → nat_eq (get_or gap at 0) 10 ≡ true
    → scan_from 0 at m (drop at gap) ≡ scan_from 0 (at + 1) (line_ended (at + 1) m.line m) (drop (at + 1) gap)
past_line gap at m h e = ap (scan_from 0 at m) (here gap at h) ∙ line-cons at m (get_or gap at 0) (drop (at + 1) gap) e

pub past_blank : (gap : List ℕ) (at : ℕ) (m : Scan) → at < length gap → nat_eq (get_or gap at 0) 10 ≡ false → is_blank (get_or gap at 0) ≡ true
    → scan_from 0 at m (drop at gap) ≡ scan_from 0 (at + 1) m (drop (at + 1) gap)
past_blank gap at m h e f = ap (scan_from 0 at m) (here gap at h) ∙ blank-cons at m (get_or gap at 0) (drop (at + 1) gap) e f

pub at_word : (gap : List ℕ) (at : ℕ) (m : Scan) → at < length gap → nat_eq (get_or gap at 0) 10 ≡ false → is_blank (get_or gap at 0) ≡ false
    → comment_len (drop at gap) ≡ 0 → scan_from 0 at m (drop at gap) ≡ None
at_word gap at m h e f g =
    ap (scan_from 0 at m) (here gap at h) ∙ word-cons at m (get_or gap at 0) (drop (at + 1) gap) e f (ap (λ n. nat_eq n 0) (sym (ap comment_len (here gap at h)) ∙ g))

pub past_comment : (gap : List ℕ) (at n : ℕ) (m : Scan) → at < length gap → nat_eq (get_or gap at 0) 10 ≡ false → is_blank (get_or gap at 0) ≡ false
    → comment_len (drop at gap) ≡ n → 0 < n → scan_from 0 at m (drop at gap) ≡ scan_from 0 (at + n) (comment_ended (at + n) m) (drop (at + n) gap)
past_comment gap at n m h e f g some =
    let c = get_or gap at 0 in
    let cs = drop (at + 1) gap in
    let len : comment_len (c ∷ cs) ≡ n = sym (ap comment_len (here gap at h)) ∙ g in
    let more : nat_eq (comment_len (c ∷ cs)) 0 ≡ false = ne_eqb (comment_len (c ∷ cs)) 0 (λ z. absurd (omega (arith, len, z))) in
    let place : at + 1 + (n - 1) ≡ at + n = omega arith in
    ap (scan_from 0 at m) (here gap at h)
    ∙ (comment-cons at m c cs e f more
    ∙ (ap (λ k. scan_from (k - 1) (at + 1) (comment_ended (at + k) m) cs) len
    ∙ (skip_scan (n - 1) (at + 1) (comment_ended (at + n) m) cs
    ∙ (ap (λ s. scan_from 0 (at + 1 + (n - 1)) (comment_ended (at + n) m) s) (drop-drop (n - 1) (at + 1) gap)
    ∙ ap (λ k. scan_from 0 k (comment_ended (at + n) m) (drop k gap)) place))))

-- ---- What is known is in order.

-- where the first line ends, or 0
abbrev pub line_or_0 : Option ℕ → ℕ
line_or_0 None = 0
line_or_0 (Some line) = line

-- up to a byte: the first line ends before the last blank one, and all ends before that byte
pub record InOrder (at : ℕ) (m : Scan) : Type 0 where
  pub line : line_or_0 m.line ≤ m.blank
  pub blank : m.blank ≤ at
  pub comment : m.comment ≤ at

pub begun_in_order : (left : Left) → InOrder 0 (begun left)
begun_in_order Begin = record { line = omega arith; blank = omega arith; comment = omega arith }
begun_in_order Word = record { line = omega arith; blank = omega arith; comment = omega arith }

pub later : (at at' : ℕ) (m : Scan) → at ≤ at' → InOrder at m → InOrder at' m
later at at' m h o = record { line = o.line; blank = omega (arith, o.blank); comment = omega (arith, o.comment) }

if-le : (b : Bool) (x y z : ℕ) → x ≤ z → y ≤ z → cond b x y ≤ z
if-le true x y z h k = h
if-le false x y z h k = k

if-ge : (b : Bool) (x y z : ℕ) → z ≤ x → z ≤ y → z ≤ cond b x y
if-ge true x y z h k = h
if-ge false x y z h k = k

line-order : (end : ℕ) (line : Option ℕ) (m : Scan) → line_or_0 line ≤ m.blank → m.blank ≤ end → m.comment ≤ end → InOrder end (line_ended end line m)
line-order end None m h k c = record { line = omega arith; blank = omega arith; comment = c }
line-order end (Some line) m h k c = record {
  line = if-ge m.is_blank end m.blank line (omega (arith, h, k)) h;
  blank = if-le m.is_blank end m.blank end (omega arith) k;
  comment = c;
}

pub line_in_order : (at : ℕ) (m : Scan) → InOrder at m → InOrder (at + 1) (line_ended (at + 1) m.line m)
line_in_order at m o = line-order (at + 1) m.line m o.line (omega (arith, o.blank)) (omega (arith, o.comment))

pub comment_in_order : (at n : ℕ) (m : Scan) → InOrder at m → InOrder (at + n) (comment_ended (at + n) m)
comment_in_order at n m o = record { line = o.line; blank = omega (arith, o.blank); comment = omega arith }

trail-line : (right : Right) (len comment blank : ℕ) (line : Option ℕ) → line_or_0 line ≤ blank → blank ≤ len → comment ≤ len → trail_end right comment line ≤ float_end right len blank
trail-line Statement len comment blank None h k c = omega arith
trail-line Statement len comment blank (Some line) h k c = h
trail-line End len comment blank None h k c = c
trail-line End len comment blank (Some line) h k c = omega (arith, h, k)

pub trail_in_order : (right : Right) (at len : ℕ) (m : Scan) → at ≤ len → InOrder at m → trail_end right m.comment m.line ≤ float_end right len m.blank
trail_in_order right at len m h o = trail-line right len m.comment m.blank m.line o.line (omega (arith, h, o.blank)) (omega (arith, h, o.comment))

float-le : (right : Right) (len blank : ℕ) → blank ≤ len → float_end right len blank ≤ len
float-le Statement len blank h = h
float-le End len blank h = omega arith

pub float_in_order : (right : Right) (at len : ℕ) (m : Scan) → at ≤ len → InOrder at m → float_end right len m.blank ≤ len
float_in_order right at len m h o = float-le right len m.blank (omega (arith, h, o.blank))

pub from_begin : (left : Left) (m : Scan) (gap : List ℕ) → m ≡ begun left → scan_from 0 0 m (drop 0 gap) ≡ scan_from 0 0 (begun left) gap
from_begin left m [] e = ap (λ k. scan_from 0 0 k []) e
from_begin left m (c ∷ cs) e = ap (λ k. scan_from 0 0 k (c ∷ cs)) e

pub nothing_left : (gap : List ℕ) (at : ℕ) (m : Scan) → length gap ≤ at → scan_from 0 at m (drop at gap) ≡ Some m
unfolding scan_from
nothing_left gap at m h = ap (scan_from 0 at m) (drop_all at gap h) ∙ refl
