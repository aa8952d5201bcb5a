-- What floats between statements is a text by itself, without a word.
use Rattle.std.proofs.Common.{◌≡◌, ℕ, zero, suc, ◌+◌, ◌-◌, ◌<◌, ◌≤◌, Bool, true, false, cond, List, [], ◌∷◌, length, take, drop, Option, Some, None, Ok, inl, inr, ◌⊎◌, refl, ap, sym, ◌∙◌, subst, arith}
use Rattle.std.specs.Prelude.{nat_eq, slice_range}
use Rattle.std.specs.Option.{option_map}
use Rattle.std.specs.Str.{IsUtf8, IsCharBoundary}
use Rattle.std.proofs.lemmas.Bool.{eqb-true, cases_lt}
use Rattle.std.proofs.lemmas.List.{length-take-le, length-drop}
use Rattle.std.proofs.lemmas.Str.{IsUtf8-between, IsCharBoundary-start, IsCharBoundary-end, IsCharBoundary-before_ascii, IsCharBoundary-after_ascii}
use Rattle.rdl_text.specs.Rows.{byte}
use Rattle.rdl_text.specs.Word.{Word}
use Rattle.rdl_text.specs.Words.{words, words_from}
use Rattle.rdl_parse.specs.declared.places.ItemPlace.{ItemPlace}
use Rattle.rdl_parse.specs.Places.{from_item, inside_first}
use Rattle.rdl_source.specs.declared.gap.Left.{Left}
use Rattle.rdl_source.specs.declared.gap.Left.TheVariants as left
use Rattle.rdl_source.specs.declared.gap.Right.{Right}
use Rattle.rdl_source.specs.declared.gap.Right.TheVariants as right
use Rattle.rdl_source.specs.declared.gap.Parts.{Parts}
use Rattle.rdl_source.specs.declared.gap.Scan.{Scan}
use Rattle.rdl_source.specs.declared.span.Span.{Span}
use Rattle.rdl_source.specs.Gap.{comment_len, begun, line_ended, comment_ended, scan_from, trail_end, parts_of, gap_parts}
use Rattle.rdl_source.specs.Laid.{Laid, ended, bare, braced}
use Rattle.rdl_source.specs.LaidOut.{start_at, StandsBehind, IsGap, Lie, IsLaidOut}
use Rattle.rdl_source.specs.Silent.{IsSilent, FloatsAreSilent}
use Rattle.rdl_source.proofs.Cuts.{first_step, pending, pending-more, pending-skip, Behind, comment_ends, IsFeed, IsBlank, IsComment, goes_on, step-feed, step-blank, step-comment, some_len, part_silent, end_silent}
use Rattle.rdl_source.proofs.NoWord.{mapped}

-- ---- Bytes of a text from one on.

tail_drop : (xs : List ℕ) (n y : ℕ) (ys : List ℕ) → drop n xs ≡ y ∷ ys → drop (n + 1) xs ≡ ys
tail_drop [] zero y ys e = cc
tail_drop [] (suc n) y ys e = cc
tail_drop (x ∷ xs) zero y ys e = cc
tail_drop (x ∷ xs) (suc n) y ys e = let place : suc n + 1 ≡ suc (n + 1) = omega arith in ap (λ k. drop k (x ∷ xs)) place ∙ tail_drop xs n y ys e

no_byte : (i : ℕ) → byte [] i ≡ 0
no_byte zero = refl
no_byte (suc i) = refl

pub byte_past : (xs : List ℕ) (n : ℕ) (s : List ℕ) (i : ℕ) → drop n xs ≡ s → byte xs (n + i) ≡ byte s i
byte_past xs zero s i e = let place : zero + i ≡ i = omega arith in ap (byte xs) place ∙ ap (λ t. byte t i) e
byte_past [] (suc n) s i e = no_byte (suc n + i) ∙ (sym (no_byte i) ∙ ap (λ t. byte t i) e)
byte_past (x ∷ xs) (suc n) s i e = let place : suc n + i ≡ suc (n + i) = omega arith in ap (byte (x ∷ xs)) place ∙ byte_past xs n s i e

no_drop : (t : ℕ) → ◌≡◌ {A = List ℕ} (drop t []) []
no_drop zero = refl
no_drop (suc t) = refl

pub drop_drop : (xs : List ℕ) (at t : ℕ) → drop t (drop at xs) ≡ drop (at + t) xs
drop_drop xs zero t = let place : t ≡ zero + t = omega arith in ap (λ k. drop k xs) place
drop_drop [] (suc at) t = no_drop t ∙ sym (no_drop (suc at + t))
drop_drop (x ∷ xs) (suc at) t = let place : suc (at + t) ≡ suc at + t = omega arith in drop_drop xs at t ∙ ap (λ k. drop k (x ∷ xs)) place

pub take_take : (xs : List ℕ) (f n : ℕ) → f ≤ n → take f (take n xs) ≡ take f xs
take_take xs zero n h = refl
take_take xs (suc f) zero h = absurd (omega (arith, h))
take_take [] (suc f) (suc n) h = refl
take_take (x ∷ xs) (suc f) (suc n) h = ap (λ t. x ∷ t) (take_take xs f n (omega (arith, h)))

take_inner : (xs : List ℕ) (t f n : ℕ) → t + f ≤ n → take f (drop t (take n xs)) ≡ take f (drop t xs)
take_inner xs zero f n h = take_take xs f n (omega (arith, h))
take_inner xs (suc t) f zero h = absurd (omega (arith, h))
take_inner [] (suc t) f (suc n) h = refl
take_inner (x ∷ xs) (suc t) f (suc n) h = take_inner xs t f n (omega (arith, h))

-- a part of a part of a text
pub inner_part : (source : List ℕ) (at end t f : ℕ) → at + t + f ≤ end → take f (drop t (slice_range source at end)) ≡ slice_range source (at + t) (at + t + f)
inner_part source at end t f h =
    let size : f ≡ at + t + f - (at + t) = omega arith in
    take_inner (drop at source) t f (end - at) (omega (arith, h)) ∙ (ap (take f) (drop_drop source at t) ∙ ap (λ n. take n (drop (at + t) source)) size)

-- ---- Where a gap is cut.

-- at its begin, or behind a byte of ASCII
abbrev pub Starts : List ℕ → ℕ → Type 0
Starts s j = (j ≡ 0) ⊎ ((i : ℕ) × (j ≡ i + 1) × (i < length s) × (byte s i < 128))

abbrev pub Edge : List ℕ → ℕ → Type 0
Edge s j = Starts s j ⊎ (((j < length s) × (byte s j < 128)) ⊎ (j ≡ length s))

-- at its begin, or behind a line feed that is no part of a comment
abbrev pub Feeds : List ℕ → ℕ → Type 0
Feeds s j = (j ≡ 0) ⊎ ((i : ℕ) × (j ≡ i + 1) × (i < length s) × (byte s i ≡ 10) × (pending 0 s i ≡ 0))

pub record Spot (s : List ℕ) (j : ℕ) : Type 0 where
  pub clean : pending 0 s j ≡ 0
  pub starts : Starts s j
  pub feeds : Feeds s j

pub record Border (s : List ℕ) (j : ℕ) : Type 0 where
  pub clean : pending 0 s j ≡ 0
  pub edge : Edge s j

abbrev LineSpot : List ℕ → Option ℕ → Type 0
LineSpot s None = Unit {0}
LineSpot s (Some j) = Spot s j

record Known (s : List ℕ) (m : Scan) : Type 0 where
  pub line : LineSpot s m.line
  pub blank : Spot s m.blank
  pub comment : Border s m.comment

no_spot : (s : List ℕ) → Spot s 0
no_spot s = record { clean = refl; starts = inl refl; feeds = inl refl }

border : (s : List ℕ) (j : ℕ) → Spot s j → Border s j
border s j h = record { clean = h.clean; edge = inl h.starts }

begun_known : (s : List ℕ) (l : Left) → Known s (begun l)
begun_known s left.Begin = record { line = no_spot s; blank = no_spot s; comment = border s 0 (no_spot s) }
begun_known s left.Word = record { line = tt; blank = no_spot s; comment = border s 0 (no_spot s) }

line_known : (s : List ℕ) (end : ℕ) (m : Scan) (line : Option ℕ) → Spot s end → LineSpot s line → Spot s m.blank → Border s m.comment → Known s (line_ended end line m)
line_known s end m None h l b c = record { line = h; blank = h; comment = c }
line_known s end m (Some j) h l b c = record { line = l; blank = by m.is_blank; comment = c }
  where
    by : (q : Bool) → Spot s (cond q end m.blank)
    by true = h
    by false = b

comment_known : (s : List ℕ) (end : ℕ) (m : Scan) → Border s end → Known s m → Known s (comment_ended end m)
comment_known s end m h k = record { line = k.line; blank = k.blank; comment = h }

-- one byte further
past_one : (gap : List ℕ) (at skip c : ℕ) (cs : List ℕ) → drop at gap ≡ c ∷ cs → pending 0 gap at ≡ skip → pending 0 gap (at + 1) ≡ pending skip (c ∷ cs) 1
past_one gap at skip c cs e p = pending-more 0 gap at 1 ∙ ((λ i. pending (p i) (e i) 1))

scan_none : (skip at : ℕ) (m e : Scan) → scan_from skip at m [] ≡ Some e → m ≡ e
unfolding scan_from
scan_none skip at m e h = cc

scan_skip : (skip at : ℕ) (m : Scan) (c : ℕ) (cs : List ℕ) → scan_from (suc skip) at m (c ∷ cs) ≡ scan_from skip (at + 1) m cs
unfolding scan_from
scan_skip skip at m c cs = refl

known : (gap : List ℕ) (skip at : ℕ) (m e : Scan) (s : List ℕ) → drop at gap ≡ s → pending 0 gap at ≡ skip → at + length s ≡ length gap → Known gap m → scan_from skip at m s ≡ Some e → Known gap e
known gap skip at m e [] d p l k h = subst (Known gap) (scan_none skip at m e h) k
known gap (suc skip) at m e (c ∷ cs) d p l k h =
    known gap skip (at + 1) m e cs (tail_drop gap at c cs d) (past_one gap at (suc skip) c cs d p) (omega (arith, l)) k (sym (scan_skip skip at m c cs) ∙ h)
known gap zero at m e (c ∷ cs) d p l k h = by (goes_on at c cs m e h) (λ skip n q o r. known gap skip (at + 1) n e cs (tail_drop gap at c cs d) q (omega (arith, l)) o r)
  where
    Rest : Type 0
    Rest = (skip : ℕ) (n : Scan) → pending 0 gap (at + 1) ≡ skip → Known gap n → scan_from skip (at + 1) n cs ≡ Some e → Known gap e

    behind : (n : ℕ) → first_step c cs ≡ n → pending 0 gap (at + 1) ≡ n
    behind n f = past_one gap at 0 c cs d p ∙ f

    here : byte gap at ≡ c
    here = let none : at ≡ at + 0 = omega arith in ap (byte gap) none ∙ byte_past gap at (c ∷ cs) 0 d

    feed_spot : nat_eq c 10 ≡ true → Spot gap (at + 1)
    feed_spot f = record { clean = behind 0 (step-feed c cs f); starts = inr (at, refl, omega (arith, l), omega (arith, here, eqb-true c 10 f)); feeds = inr (at, refl, omega (arith, l), here ∙ eqb-true c 10 f, p) }

    edge : (n : ℕ) → Behind (c ∷ cs) n → Edge gap (at + n)
    edge n (inl f) = inr (inr (omega (arith, f, l)))
    edge n (inr (inl f)) = inr (inl (omega (arith, f.0, l), omega (arith, byte_past gap at (c ∷ cs) n d, f.1)))
    edge n (inr (inr f)) = inl (inr (at + f.0, omega (arith, f.1), omega (arith, f.2, l), omega (arith, byte_past gap at (c ∷ cs) f.0 d, f.3)))

    clean : (n : ℕ) → 0 < n → first_step c cs ≡ n - 1 → pending 0 gap (at + n) ≡ 0
    clean zero s f = absurd (omega (arith, s))
    clean (suc j) s f =
        let one : suc j - 1 ≡ j = omega arith in
        pending-more 0 gap at (suc j) ∙ ((λ i. pending (p i) (d i) (suc j)) ∙ (ap (λ x. pending x cs j) (f ∙ one) ∙ pending-skip j cs))

    by : IsFeed c cs at m e ⊎ (IsBlank c cs at m e ⊎ IsComment c cs at m e) → Rest → Known gap e
    by (inl g) rest = rest 0 (line_ended (at + 1) m.line m) (behind 0 (step-feed c cs g.is)) (line_known gap (at + 1) m m.line (feed_spot g.is) k.line k.blank k.comment) g.next
    by (inr (inl g)) rest = rest 0 m (behind 0 (step-blank c cs g.not_feed g.is)) k g.next
    by (inr (inr g)) rest =
        let n = comment_len (c ∷ cs) in
        let some : 0 < n = some_len n g.some in
        let step = step-comment c cs g.not_feed g.not_blank in
        rest (n - 1) (comment_ended (at + n) m) (behind (n - 1) step) (comment_known gap (at + n) m (record { clean = clean n some step; edge = edge n (comment_ends c cs some).0 }) k) g.next

-- ---- The parts.

trail_spot : (s : List ℕ) (m : Scan) → Known s m → Spot s (trail_end right.Statement m.comment m.line)
trail_spot s m k = by m.line k.line
  where
    by : (line : Option ℕ) → LineSpot s line → Spot s (trail_end right.Statement m.comment line)
    by None h = no_spot s
    by (Some j) h = h

trail_border : (s : List ℕ) (r : Right) (m : Scan) → Known s m → Border s (trail_end r m.comment m.line)
trail_border s right.Statement m k = border s (trail_end right.Statement m.comment m.line) (trail_spot s m k)
trail_border s right.End m k = by m.line k.line
  where
    by : (line : Option ℕ) → LineSpot s line → Border s (trail_end right.End m.comment line)
    by None h = k.comment
    by (Some j) h = border s j h

-- where a gap was cut in its text
pub record Cut (source : List ℕ) (at end : ℕ) (r : Right) (p : Parts) : Type 0 where
  pub scan : Scan
  pub left : Left
  pub scanned : scan_from 0 0 (begun left) (slice_range source at end) ≡ Some scan
  pub trail : Border (slice_range source at end) p.trail
  pub spots : r ≡ right.Statement → Spot (slice_range source at end) p.trail × Spot (slice_range source at end) (p.trail + p.float)

some_parts : (f : Scan → Parts) (m : Scan) (p : Parts) → option_map f (Some m) ≡ Some p → f m ≡ p
some_parts f m p e = cc

behind_float : (s : List ℕ) (t b : ℕ) → Spot s t → Spot s b → Spot s (t + (b - t))
behind_float s t b h k = by (cases_lt t b)
  where
    by : (t < b) ⊎ (b ≤ t) → Spot s (t + (b - t))
    by (inl l) = let same : b ≡ t + (b - t) = omega (arith, l) in subst (Spot s) same k
    by (inr l) = let same : t ≡ t + (b - t) = omega (arith, l) in subst (Spot s) same h

pub cut_of : (source : List ℕ) (at end : ℕ) (l : Left) (r : Right) (p : Parts) → gap_parts l r (slice_range source at end) ≡ Some p → Cut source at end r p
unfolding gap_parts
cut_of source at end l r p e =
    let gap = slice_range source at end in
    let found = mapped (parts_of r (length gap)) (scan_from 0 0 (begun l) gap) p e in
    let is : parts_of r (length gap) found.0 ≡ p = some_parts (parts_of r (length gap)) found.0 p (sym (ap (option_map (parts_of r (length gap))) found.1) ∙ e) in
    let k = known gap 0 0 (begun l) found.0 gap refl refl (omega arith) (begun_known gap l) found.1 in
    record {
      scan = found.0;
      left = l;
      scanned = found.1;
      trail = subst (λ (q : Parts). Border gap q.trail) is (trail_border gap r found.0 k);
      spots = λ s.
          subst (λ (q : Parts). Spot gap q.trail × Spot gap (q.trail + q.float)) (ap (λ t. parts_of t (length gap) found.0) (sym s) ∙ is)
          (trail_spot gap found.0 k, behind_float gap (trail_end right.Statement found.0.comment found.0.line) found.0.blank (trail_spot gap found.0 k) k.blank);
    }

-- ---- Places of the source where characters begin.

byte_take : (n : ℕ) (xs : List ℕ) (i : ℕ) → i < n → byte (take n xs) i ≡ byte xs i
byte_take zero xs i l = absurd (omega (arith, l))
byte_take (suc n) [] i l = refl
byte_take (suc n) (x ∷ xs) zero l = refl
byte_take (suc n) (x ∷ xs) (suc i) l = byte_take n xs i (omega (arith, l))

pub gap_length : (source : List ℕ) (at end : ℕ) → end ≤ length source → length (slice_range source at end) ≡ end - at
gap_length source at end k = length-take-le (end - at) (drop at source) (omega (arith, length-drop at source, k))

pub byte_there : (source : List ℕ) (at end i : ℕ) → i < end - at → byte source (at + i) ≡ byte (slice_range source at end) i
byte_there source at end i l = byte_past source at (drop at source) i refl ∙ sym (byte_take (end - at) (drop at source) i l)

pub starts_there : (source : List ℕ) (at end j : ℕ) → IsUtf8 source → end ≤ length source → IsCharBoundary source at → Starts (slice_range source at end) j → IsCharBoundary source (at + j)
starts_there source at end j u k a (inl f) = let same : at ≡ at + j = omega (arith, f) in subst (IsCharBoundary source) same a
starts_there source at end j u k a (inr f) =
    let low : f.0 < end - at = omega (arith, f.2, gap_length source at end k) in
    let same : at + f.0 + 1 ≡ at + j = omega (arith, f.1) in
    subst (IsCharBoundary source) same (IsCharBoundary-after_ascii source (at + f.0) u (omega (arith, low, k)) (omega (arith, byte_there source at end f.0 low, f.3)))

pub boundary : (source : List ℕ) (at end j : ℕ) → IsUtf8 source → at ≤ end → end ≤ length source → IsCharBoundary source at → IsCharBoundary source end → Edge (slice_range source at end) j → IsCharBoundary source (at + j)
boundary source at end j u h k a b (inl f) = starts_there source at end j u k a f
boundary source at end j u h k a b (inr (inl f)) =
    let low : j < end - at = omega (arith, f.0, gap_length source at end k) in
    IsCharBoundary-before_ascii source (at + j) (omega (arith, low, k)) (omega (arith, byte_there source at end j low, f.1))
boundary source at end j u h k a b (inr (inr f)) =
    let same : end ≡ at + j = omega (arith, f, gap_length source at end k, h) in subst (IsCharBoundary source) same b

-- ---- What floats.

to_silent : (source : List ℕ) (s t : Span) → s ≡ t → IsSilent source t → IsSilent source s
to_silent source s t e h = subst (IsSilent source) (sym e) h

unfolded : (s : List ℕ) → words_from 0 0 s ≡ Ok [] → words s ≡ Ok []
unfolded s h = h

statement_silent : (source : List ℕ) (ws : List Word) (l : Left) (at k end to : ℕ) (float lead : Span) → IsUtf8 source → IsCharBoundary source at → IsGap source ws l right.Statement at k end to float lead → IsSilent source float
statement_silent source ws l at k end to float lead u a g =
    let c = cut_of source at end l right.Statement g.parts g.cut in
    let t = g.parts.trail in
    let f = g.parts.float in
    let spots = c.spots refl in
    let is : float ≡ record { from = at + t; to = at + t + f } = g.float_is ∙ ap (λ n. record { from = n; to = n + f }) g.to_is in
    let same : take f (drop t (slice_range source at end)) ≡ slice_range source (at + t) (at + t + f) = inner_part source at end t f g.whole in
    let first = starts_there source at end t u g.within a spots.0.starts in
    let second = starts_there source at end (t + f) u g.within a spots.1.starts in
    let place : at + (t + f) ≡ at + t + f = omega arith in
    to_silent source float (record { from = at + t; to = at + t + f }) is
    (record {
      is_text = IsUtf8-between source (at + t) (at + t + f) u (omega arith) first (subst (IsCharBoundary source) place second);
      none = ap words (sym same) ∙ unfolded _ (part_silent t f (begun c.left) c.scan (slice_range source at end) c.scanned spots.0.clean spots.1.clean);
    })

pub drop_take : (xs : List ℕ) (t n : ℕ) → t ≤ n → drop t (take n xs) ≡ take (n - t) (drop t xs)
drop_take xs zero n l = let same : n ≡ n - zero = omega arith in ap (λ k. take k xs) same
drop_take xs (suc t) zero l = absurd (omega (arith, l))
drop_take [] (suc t) (suc n) l = sym (no_take (suc n - suc t))
  where
    no_take : (k : ℕ) → ◌≡◌ {A = List ℕ} (take k []) []
    no_take zero = refl
    no_take (suc k) = refl
drop_take (x ∷ xs) (suc t) (suc n) l = let less : n - t ≡ suc n - suc t = omega arith in drop_take xs t n (omega (arith, l)) ∙ ap (λ k. take k (drop t xs)) less

end_part : (source : List ℕ) (at end t : ℕ) → at + t ≤ end → drop t (slice_range source at end) ≡ slice_range source (at + t) end
end_part source at end t h = drop_take (drop at source) t (end - at) (omega (arith, h)) ∙ (ap (take (end - at - t)) (drop_drop source at t) ∙ ap (λ n. take n (drop (at + t) source)) size)
  where
    size : end - at - t ≡ end - (at + t)
    size = omega arith

last_silent : (source : List ℕ) (ws : List Word) (l : Left) (at k end to : ℕ) (float lead : Span) → IsUtf8 source → IsCharBoundary source at → IsCharBoundary source end
    → IsGap source ws l right.End at k end to float lead → IsSilent source (record { from = to; to = end })
last_silent source ws l at k end to float lead u a b g =
    let c = cut_of source at end l right.End g.parts g.cut in
    let t = g.parts.trail in
    let low : at + t ≤ end = omega (arith, g.whole) in
    let first = boundary source at end t u g.ordered g.within a b c.trail.edge in
    to_silent source (record { from = to; to = end }) (record { from = at + t; to = end }) (ap (λ n. record { from = n; to = end }) g.to_is)
    (record {
      is_text = IsUtf8-between source (at + t) end u low first b;
      none = ap words (sym (end_part source at end t low)) ∙ unfolded _ (end_silent t (begun c.left) c.scan (slice_range source at end) c.scanned c.trail.clean);
    })

-- ---- All of it.

-- a gap ends before a byte of ASCII, or with the text
pub end_boundary : (source : List ℕ) (ws : List Word) (k end : ℕ) → end ≤ length source → StandsBehind source right.End end (start_at ws k) → IsCharBoundary source end
end_boundary source ws k end h b = by (start_at ws k) b
  where
    by : (o : Option ℕ) → StandsBehind source right.End end o → IsCharBoundary source end
    by None e = subst (IsCharBoundary source) (sym e) (IsCharBoundary-end source)
    by (Some start) e =
        let brace : byte source end ≡ 125 = ap (byte source) e.0 ∙ e.1 in
        elim (cases_lt end (length source)) [
          | inl low ↦ IsCharBoundary-before_ascii source end low (omega (arith, brace))
          | inr high ↦ (let same : end ≡ length source = omega (arith, h, high) in subst (IsCharBoundary source) (sym same) (IsCharBoundary-end source))
        ]

pub behind_byte : (source : List ℕ) (n m c : ℕ) → IsUtf8 source → n < length source → byte source n ≡ c → c < 128 → m ≡ n + 1 → IsCharBoundary source m
behind_byte source n m c u l e low is = subst (IsCharBoundary source) (sym is) (IsCharBoundary-after_ascii source n u l (omega (arith, e, low)))

pub silent : (source : List ℕ) (ws : List Word) (laid : Laid) (l : Left) (at to k : ℕ) (ps : List ItemPlace) (close n : ℕ) → IsUtf8 source → IsCharBoundary source at → Lie source ws laid l at to k ps close n → FloatsAreSilent source laid
silent source ws (ended last) l at to k ps close n u a h =
    to_silent source last (record { from = to; to = close }) h.3 (last_silent source ws l at k close to h.0 h.1 u a (end_boundary source ws k close h.2.within h.2.behind) h.2)
silent source ws (bare b rest) l at to k ps close n u a h = (
  statement_silent source ws l at k b.words.from to b.float b.lead u a h.0,
  silent source ws rest left.Word b.words.to b.trail.to (h.1 + 1) (from_item b.items ps) close n u (behind_byte source h.2 b.words.to 59 u h.3.0.within h.3.1 (omega arith) h.5.words_end) h.6,
)
silent source ws (braced b br body rest) l at to k ps close n u a h = (
  statement_silent source ws l at k b.words.from to b.float b.lead u a h.0,
  silent source ws body left.Word (h.2 + 1) br.begin (h.1 + 1) (inside_first ps) br.close h.4 u (behind_byte source h.2 (h.2 + 1) 123 u h.3.0.within h.3.1 (omega arith) refl) h.5,
  silent source ws rest left.Word b.words.to b.trail.to (h.7 + 1) (from_item b.items ps) close n u (behind_byte source h.8 b.words.to 59 u h.9.0.within h.9.1 (omega arith) h.10.words_end) h.11,
)

pub floats_silent : (source : List ℕ) (ws : List Word) (ps : List ItemPlace) (laid : Laid) → IsUtf8 source → IsLaidOut source ws ps laid → FloatsAreSilent source laid
floats_silent source ws ps laid u h = silent source ws laid left.Begin 0 0 0 ps (length source) (length ws) u (IsCharBoundary-start source u) h
