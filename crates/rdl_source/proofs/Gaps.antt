-- What stands before a word, or before the end of a text, is a gap.
use Rattle.std.proofs.Common.{◌≡◌, ℕ, zero, suc, ◌+◌, ◌-◌, ◌<◌, ◌≤◌, Bool, true, false, cond, ◌&&◌, List, [], ◌∷◌, length, take, drop, Option, Some, None, Result, Ok, Err, inl, inr, ◌⊎◌, refl, sym, ◌∙◌, ap, subst, arith}
use Rattle.std.proofs.lemmas.Bool.{ne_eqb, false≢true}
use Rattle.std.proofs.lemmas.List.{length-drop}
use Rattle.std.specs.Option.{option_map, option_map_or}
use Rattle.std.specs.Prelude.{nat_eq, slice_range}
use Rattle.rdl_text.specs.Rows.{byte, run}
use Rattle.rdl_text.specs.Word.{Word}
use Rattle.rdl_text.specs.Words.{words_from, piece, is_blank, is_in_line, comment_end, enclosed, word_piece, judged, longest}
use Rattle.rdl_text.specs.Piece.{Candidate, Piece, Gap}
use Rattle.rdl_text.specs.declared.fault.WordFault.{WordFault}
use Rattle.rdl_text.specs.declared.fault.WordFault.TheVariants.{UnendedString, BadCharacter}
use Rattle.rdl_text.specs.declared.token.TokenKind.{TokenKind}
use Rattle.rdl_source.specs.Gap.{comment_len, begun, line_ended, comment_ended, scan_from, float_end, parts_of, gap_parts}
use Rattle.rdl_source.specs.LaidOut.{start_at, StandsBehind, IsGap}
use Rattle.rdl_source.specs.declared.gap.Left.{Left}
use Rattle.rdl_source.specs.declared.gap.Right.{Right}
use Rattle.rdl_source.specs.declared.gap.Scan.{Scan}
use Rattle.rdl_source.specs.declared.span.Span.{Span}
use Rattle.rdl_source.proofs.Beside.{past_blank}
use Rattle.rdl_source.proofs.Cuts.{comment_cut, comment_ends, IsFeed, IsBlank, IsComment, some_len}
use Rattle.rdl_source.proofs.Cuts as cuts
use Rattle.rdl_source.proofs.NoWord.{line_feed, line_same}
use Rattle.rdl_source.proofs.Scanning.{skip_scan, line-cons, blank-cons, comment-cons, InOrder, begun_in_order, later, line_in_order, comment_in_order, trail_in_order, float_in_order}
use Rattle.rdl_source.proofs.Semis.{IsGapped, IsWorded, goes_on, starts_low}
use Rattle.rdl_source.proofs.Silence.{drop_take, gap_length}

-- ---- A comment that the words pass is one that a gap has.

gap_same : (m n : ℕ) → ◌≡◌ {A = Result Piece WordFault} (Ok (Gap m)) (Ok (Gap n)) → m ≡ n
gap_same m n e = cc

no_gap : (c n : ℕ) (o : Option Candidate) → word_piece c o ≡ Ok (Gap n) → ⊥
no_gap c n None e = by (nat_eq c 34) e
  where
    by : (b : Bool) → cond b (Err UnendedString) (Err BadCharacter) ≡ Ok (Gap n) → ⊥
    by true e = cc
    by false e = cc
no_gap c n (Some x) e = by x.kind e
  where
    by : (k : Result TokenKind WordFault) → judged x.len k ≡ Ok (Gap n) → ⊥
    by (Ok k) e = cc
    by (Err f) e = cc

by_kind : (a b : Bool) (line n : ℕ) (o : Option ℕ) (w : Result Piece WordFault) → (w ≡ Ok (Gap n) → ⊥) → cond a (Ok (Gap (2 + line))) (cond b (enclosed o) w) ≡ Ok (Gap n) → cond a (2 + line) (cond b (option_map_or (λ k. k + 4) o 0) 0) ≡ n
by_kind true b line n o w f e = gap_same (2 + line) n e
by_kind false true line n None w f e = cc
by_kind false true line n (Some k) w f e = gap_same (k + 4) n e
by_kind false false line n o w f e = absurd (f e)

piece_comment : (c : ℕ) (cs : List ℕ) (n : ℕ) → is_blank c ≡ false → piece (c ∷ cs) ≡ Ok (Gap n) → comment_len (c ∷ cs) ≡ n
unfolding piece comment_len
piece_comment c cs n blank e =
    let s = c ∷ cs in
    let a = nat_eq c 47 && nat_eq (byte s 1) 47 in
    let b = nat_eq c 47 && nat_eq (byte s 1) 42 in
    let w = word_piece c (longest s) in
    let f : cond a (Ok (Gap (2 + run is_in_line 2 s))) (cond b (enclosed (comment_end (drop 2 s))) w) ≡ Ok (Gap n) =
    sym (ap (λ x. cond x (Ok (Gap (run is_blank 0 s))) (cond a (Ok (Gap (2 + run is_in_line 2 s))) (cond b (enclosed (comment_end (drop 2 s))) w))) blank) ∙ e in
    ap (λ k. cond a (2 + k) (cond b (option_map_or (λ i. i + 4) (comment_end (drop 2 s)) 0) 0)) (line_same (drop 2 s))
    ∙ by_kind a b (run is_in_line 2 s) n (comment_end (drop 2 s)) w (no_gap c n (longest s)) f

-- ---- Up to the first word.

-- so many bytes stand before the first of the words, or there are none and the text has as many
abbrev pub IsFirst : (at : ℕ) → (s : List ℕ) → List Word → (stop : ℕ) → Type 0
IsFirst at s [] stop = stop ≡ length s
IsFirst at s (w ∷ ws) stop = at + stop ≡ w.start

none_scanned : (a : ℕ) (m : Scan) → (e : Scan) × (scan_from 0 a m [] ≡ Some e)
unfolding scan_from
none_scanned a m = (m, refl)

take_none : (n : ℕ) → ◌≡◌ {A = List ℕ} (take n []) []
take_none zero = refl
take_none (suc n) = refl

first_past : (at len stop : ℕ) (s : List ℕ) (ws : List Word) → len ≤ length s → len ≤ stop → IsFirst at s ws stop → IsFirst (at + len) (drop len s) ws (stop - len)
first_past at len stop s [] h k f = omega (arith, f, length-drop len s, h)
first_past at len stop s (w ∷ ws) h k f = omega (arith, f, k)

first_low : (at len stop : ℕ) (s : List ℕ) (ws : List Word) → len ≤ length s → words_from 0 (at + len) (drop len s) ≡ Ok ws → IsFirst at s ws stop → len ≤ stop
first_low at len stop s [] h e f = omega (arith, f, h)
first_low at len stop s (w ∷ ws) h e f = omega (arith, f, starts_low (length (drop len s)) (at + len) w.start (drop len s) (w ∷ ws) (omega arith) e (inl refl))

pub scanned_to : (n at a : ℕ) (m : Scan) (s : List ℕ) (ws : List Word) (stop : ℕ) → length s ≤ n → words_from 0 at s ≡ Ok ws → IsFirst at s ws stop → (e : Scan) × (scan_from 0 a m (take stop s) ≡ Some e)
scanned_to n at a m [] ws stop l h f = let r = none_scanned a m in (r.0, ap (scan_from 0 a m) (take_none stop) ∙ r.1)
scanned_to n at a m (c ∷ cs) ws zero l h f = none_scanned a m
scanned_to zero at a m (c ∷ cs) ws (suc j) l h f = absurd (omega (arith, l))
scanned_to (suc n) at a m (c ∷ cs) ws (suc j) l h f = by (goes_on at c cs ws h) (λ at a m s stop l h f. scanned_to n at a m s ws stop l h f)
  where
    Goal : Type 0
    Goal = (e : Scan) × (scan_from 0 a m (c ∷ take j cs) ≡ Some e)

    Rest : Type 0
    Rest = (at a : ℕ) (m : Scan) (s : List ℕ) (stop : ℕ) → length s ≤ n → words_from 0 at s ≡ Ok ws → IsFirst at s ws stop → (e : Scan) × (scan_from 0 a m (take stop s) ≡ Some e)

    one_past : (ws : List Word) → IsFirst at (c ∷ cs) ws (suc j) → IsFirst (at + 1) cs ws j
    one_past [] f = omega (arith, f)
    one_past (w ∷ ws) f = omega (arith, f)

    not_here : (k : IsWorded at (c ∷ cs) ws) → ⊥
    not_here k = here (subst (λ vs. IsFirst at (c ∷ cs) vs (suc j)) (sym k.is) f)
      where
        here : at + suc j ≡ at → ⊥
        here e = omega (arith, e)

    blank : is_blank c ≡ true → Rest → Goal
    blank b rest = line (nat_eq c 10) refl
      where
        next : words_from 0 (at + 1) cs ≡ Ok ws
        next = sym (past_blank at c cs b) ∙ h

        line : (q : Bool) → nat_eq c 10 ≡ q → Goal
        line true q = let r = rest (at + 1) (a + 1) (line_ended (a + 1) m.line m) cs j (omega (arith, l)) next (one_past ws f) in (r.0, line-cons a m c (take j cs) q ∙ r.1)
        line false q = let r = rest (at + 1) (a + 1) m cs j (omega (arith, l)) next (one_past ws f) in (r.0, blank-cons a m c (take j cs) q b ∙ r.1)

    no_feed : is_blank c ≡ false → nat_eq c 10 ≡ false
    no_feed b = by (nat_eq c 10) refl
      where
        by : (q : Bool) → nat_eq c 10 ≡ q → q ≡ false
        by true q = absurd (false≢true (sym b ∙ line_feed c q))
        by false q = refl

    comment : is_blank c ≡ false → IsGapped at (c ∷ cs) ws → Rest → Goal
    comment b k rest =
        let len = k.len in
        let is : comment_len (c ∷ cs) ≡ len = piece_comment c cs len b k.found in
        let low : len ≤ suc j = first_low at len (suc j) (c ∷ cs) ws k.inside k.rest f in
        let same : comment_len (c ∷ take j cs) ≡ len = comment_cut c cs j (omega (arith, is, k.some)) (omega (arith, is, low)) ∙ is in
        let some : nat_eq (comment_len (c ∷ take j cs)) 0 ≡ false = ne_eqb (comment_len (c ∷ take j cs)) 0 (λ z. omega (arith, z, same, k.some)) in
        let m2 = comment_ended (a + len) m in
        let less : suc (len - 1) ≡ len = omega (arith, k.some) in
        let text : drop (len - 1) (take j cs) ≡ take (suc j - len) (drop len (c ∷ cs)) =
        drop_take cs (len - 1) j (omega (arith, low)) ∙ ((λ i. take (size len low k.some i) (drop (len - 1) cs)) ∙ ap (λ i. take (suc j - len) (drop i (c ∷ cs))) less) in
        let r = rest (at + len) (a + 1 + (len - 1)) m2 (drop len (c ∷ cs)) (suc j - len) (omega (arith, length-drop len (c ∷ cs), k.some, k.inside, l)) k.rest (first_past at len (suc j) (c ∷ cs) ws k.inside low f) in (
          r.0,
          comment-cons a m c (take j cs) (no_feed b) b some
              ∙ (ap (λ i. scan_from (i - 1) (a + 1) (comment_ended (a + i) m) (take j cs)) same
              ∙ (skip_scan (len - 1) (a + 1) m2 (take j cs) ∙ (ap (scan_from 0 (a + 1 + (len - 1)) m2) text ∙ r.1))),
        )
      where
        size : (len : ℕ) → len ≤ suc j → 1 ≤ len → j - (len - 1) ≡ suc j - len
        size len low some = omega (arith, low, some)

    by : IsGapped at (c ∷ cs) ws ⊎ IsWorded at (c ∷ cs) ws → Rest → Goal
    by (inr k) rest = absurd (not_here k)
    by (inl k) rest = at_blank (is_blank c) refl
      where
        at_blank : (b : Bool) → is_blank c ≡ b → Goal
        at_blank true e = blank e rest
        at_blank false e = comment e k rest

-- ---- What is known of a gap is in order.

none_left : (skip at : ℕ) (m e : Scan) → scan_from skip at m [] ≡ Some e → m ≡ e
unfolding scan_from
none_left skip at m e h = cc

skipped : (skip at : ℕ) (m : Scan) (c : ℕ) (cs : List ℕ) → scan_from (suc skip) at m (c ∷ cs) ≡ scan_from skip (at + 1) m cs
unfolding scan_from
skipped skip at m c cs = refl

ordered : (skip at : ℕ) (m e : Scan) (s : List ℕ) → scan_from skip at m s ≡ Some e → skip ≤ length s → InOrder (at + skip) m → InOrder (at + length s) e
ordered skip at m e [] h l o =
    let place : at + skip ≡ at + 0 = omega (arith, l) in subst (InOrder (at + 0)) (none_left skip at m e h) (subst (λ p. InOrder p m) place o)
ordered (suc skip) at m e (c ∷ cs) h l o =
    let here : at + suc skip ≡ at + 1 + skip = omega arith in
    let there : at + 1 + length cs ≡ at + length (c ∷ cs) = omega arith in
    subst (λ p. InOrder p e) there (ordered skip (at + 1) m e cs (sym (skipped skip at m c cs) ∙ h) (omega (arith, l)) (subst (λ p. InOrder p m) here o))
ordered zero at m e (c ∷ cs) h l o = by (cuts.goes_on at c cs m e h) (λ skip n k l o. ordered skip (at + 1) n e cs k l o)
  where
    Rest : Type 0
    Rest = (skip : ℕ) (n : Scan) → scan_from skip (at + 1) n cs ≡ Some e → skip ≤ length cs → InOrder (at + 1 + skip) n → InOrder (at + 1 + length cs) e

    from : InOrder at m
    from = let none : at + 0 ≡ at = omega arith in subst (λ p. InOrder p m) none o

    one : at + 1 ≡ at + 1 + 0
    one = omega arith

    end : InOrder (at + 1 + length cs) e → InOrder (at + length (c ∷ cs)) e
    end r = let there : at + 1 + length cs ≡ at + length (c ∷ cs) = omega arith in subst (λ p. InOrder p e) there r

    by : IsFeed c cs at m e ⊎ (IsBlank c cs at m e ⊎ IsComment c cs at m e) → Rest → InOrder (at + length (c ∷ cs)) e
    by (inl g) rest = end (rest 0 (line_ended (at + 1) m.line m) g.next (omega arith) (subst (λ p. InOrder p (line_ended (at + 1) m.line m)) one (line_in_order at m from)))
    by (inr (inl g)) rest = end (rest 0 m g.next (omega arith) (subst (λ p. InOrder p m) one (later at (at + 1) m (omega arith) from)))
    by (inr (inr g)) rest =
        let n = comment_len (c ∷ cs) in
        let some : 0 < n = some_len n g.some in
        let place : at + n ≡ at + 1 + (n - 1) = omega (arith, some) in
        end (rest (n - 1) (comment_ended (at + n) m) g.next (omega (arith, (comment_ends c cs some).1)) (subst (λ p. InOrder p (comment_ended (at + n) m)) place (comment_in_order at n m from)))

-- ---- The gap.

pub record Gapped (source : List ℕ) (ws : List Word) (l : Left) (r : Right) (at k end : ℕ) : Type 0 where
  pub to : ℕ
  pub float : Span
  pub lead : Span
  pub gap : IsGap source ws l r at k end to float lead

whole_trail : (t f n : ℕ) → t ≤ f → f ≤ n → t + (f - t) ≤ n
whole_trail t f n h k = omega (arith, h, k)

some_parts : (l : Left) (r : Right) (gap : List ℕ) (e : Scan) → scan_from 0 0 (begun l) gap ≡ Some e → gap_parts l r gap ≡ Some (parts_of r (length gap) e)
unfolding gap_parts
some_parts l r gap e h = ap (option_map (parts_of r (length gap))) h

make_gap : (source : List ℕ) (ws : List Word) (l : Left) (r : Right) (at k end : ℕ) (e : Scan) → at ≤ end → end ≤ length source → StandsBehind source r end (start_at ws k) → scan_from 0 0 (begun l) (slice_range source at end) ≡ Some e → Gapped source ws l r at k end
make_gap source ws l r at k end e h m b s =
    let gap = slice_range source at end in
    let n = length gap in
    let p = parts_of r n e in
    let o : InOrder n e = (let none : 0 + n ≡ n = omega arith in subst (λ i. InOrder i e) none (ordered 0 0 (begun l) e gap s (omega arith) (begun_in_order l))) in
    let low = trail_in_order r n n e (omega arith) o in
    let high = float_in_order r n n e (omega arith) o in
    let size : n ≡ end - at = gap_length source at end m in
    let to = at + p.trail in record {
      to = to;
      float = record { from = to; to = to + p.float };
      lead = record { from = to + p.float; to = end };
      gap = record {
        behind = b;
        ordered = h;
        within = m;
        parts = p;
        cut = some_parts l r gap e s;
        whole = omega (arith, whole_trail p.trail (float_end r n e.blank) n low high, size, h);
        to_is = refl;
        float_is = refl;
        lead_is = refl;
      };
    }

-- before words, the first of which begins there, or before the text's end
pub gap_to : (source : List ℕ) (ws : List Word) (l : Left) (r : Right) (at k end : ℕ) → words_from 0 at (drop at source) ≡ Ok (drop k ws) → at ≤ end → end ≤ length source → StandsBehind source r end (start_at ws k) → IsFirst at (drop at source) (drop k ws) (end - at)
    → Gapped source ws l r at k end
gap_to source ws l r at k end t h m b f =
    let s = scanned_to (length (drop at source)) at 0 (begun l) (drop at source) (drop k ws) (end - at) (omega arith) t f in make_gap source ws l r at k end s.0 h m b s.1
