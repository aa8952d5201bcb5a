-- What is scanned as a gap is blanks and comments by the definition of words, so that it has no words.
use Rattle.std.proofs.Common.{◌≡◌, ℕ, zero, suc, ◌+◌, ◌-◌, Bool, true, false, cond, ◌&&◌, List, [], ◌∷◌, length, drop, Option, Some, None, Result, Ok, refl, ap, sym, ◌∙◌, eq-eqb, arith}
use Rattle.std.specs.Prelude.{nat_eq, not}
use Rattle.std.specs.List.{prefix_len}
use Rattle.std.specs.Option.{option_map, option_map_or}
use Rattle.std.proofs.lemmas.Bool.{false≢true, eqb-true}
use Rattle.rdl_text.specs.Piece.{Piece, Gap}
use Rattle.rdl_text.specs.Rows.{byte, run}
use Rattle.rdl_text.specs.Words.{words, words_from, piece, is_blank, is_in_line, comment_end, enclosed, word_piece, longest}
use Rattle.rdl_text.specs.declared.fault.WordFault.{WordFault}
use Rattle.rdl_source.specs.declared.gap.Left.{Left}
use Rattle.rdl_source.specs.declared.gap.Right.{Right}
use Rattle.rdl_source.specs.declared.gap.Parts.{Parts}
use Rattle.rdl_source.specs.declared.gap.Scan.{Scan}
use Rattle.rdl_source.specs.Gap.{line_len, comment_len, begun, line_ended, comment_ended, scan_from, parts_of, gap_parts}
use Rattle.rdl_source.proofs.One.{none≢some}

-- ---- Comments.

line-step : (b : Bool) (m n : ℕ) → m ≡ n → cond b 0 (m + 1) ≡ cond (not b) (1 + n) 0
line-step true m n e = refl
line-step false m n e = omega (arith, e)

pub line_same : (s : List ℕ) → line_len s ≡ prefix_len is_in_line s
line_same [] = refl
line_same (c ∷ cs) = line-step (nat_eq c 10) (line_len cs) (prefix_len is_in_line cs) (line_same cs)

chosen : (a b : Bool) (line : ℕ) (o : Option ℕ) (w : Result Piece WordFault) (n : ℕ) → cond a (2 + line) (cond b (option_map_or (λ k. k + 4) o 0) 0) ≡ n → nat_eq n 0 ≡ false → cond a (Ok (Gap (2 + line))) (cond b (enclosed o) w) ≡ Ok (Gap n)
chosen true b line o w n e h = ap (λ k. Ok (Gap k)) e
chosen false true line None w n e h = absurd (false≢true (sym h ∙ eq-eqb n 0 (sym e)))
chosen false true line (Some k) w n e h = ap (λ m. Ok (Gap m)) e
chosen false false line o w n e h = absurd (false≢true (sym h ∙ eq-eqb n 0 (sym e)))

pub comment_piece : (s : List ℕ) (n : ℕ) → is_blank (byte s 0) ≡ false → comment_len s ≡ n → nat_eq n 0 ≡ false → piece s ≡ Ok (Gap n)
unfolding comment_len piece
comment_piece s n blank e h =
    let a = nat_eq (byte s 0) 47 && nat_eq (byte s 1) 47 in
    let b = nat_eq (byte s 0) 47 && nat_eq (byte s 1) 42 in
    let w = word_piece (byte s 0) (longest s) in
    ap (λ x. cond x (Ok (Gap (run is_blank 0 s))) (cond a (Ok (Gap (2 + run is_in_line 2 s))) (cond b (enclosed (comment_end (drop 2 s))) w))) blank
    ∙ (ap (λ k. cond a (Ok (Gap (2 + k))) (cond b (enclosed (comment_end (drop 2 s))) w)) (sym (line_same (drop 2 s)))
    ∙ chosen a b (line_len (drop 2 s)) (comment_end (drop 2 s)) w n e h)

-- ---- Blanks.

blank_piece : (c : ℕ) (cs : List ℕ) → is_blank c ≡ true → piece (c ∷ cs) ≡ Ok (Gap (1 + prefix_len is_blank cs))
unfolding piece
blank_piece c cs e = rw e refl

pub word_gap : (at n : ℕ) (c : ℕ) (cs : List ℕ) → piece (c ∷ cs) ≡ Ok (Gap n) → words_from 0 at (c ∷ cs) ≡ words_from (n - 1) (at + 1) cs
unfolding words_from
word_gap at n c cs e = rw (e, words_from) refl

past : (at : ℕ) (c : ℕ) (cs : List ℕ) → is_blank c ≡ true → words_from 0 at (c ∷ cs) ≡ words_from (prefix_len is_blank cs) (at + 1) cs
past at c cs e =
    let one : 1 + prefix_len is_blank cs - 1 ≡ prefix_len is_blank cs = omega arith in
    word_gap at (1 + prefix_len is_blank cs) c cs (blank_piece c cs e) ∙ ap (λ k. words_from k (at + 1) cs) one

skip-one : (n at c : ℕ) (cs : List ℕ) → words_from (1 + n) at (c ∷ cs) ≡ words_from n (at + 1) cs
unfolding words_from
skip-one n at c cs = let one : 1 + n ≡ suc n = omega arith in ap (λ k. words_from k at (c ∷ cs)) one

no-blank : (at n : ℕ) (c : ℕ) (cs : List ℕ) (b : Bool) → is_blank c ≡ b → n ≡ prefix_len is_blank cs → words_from (cond b (1 + n) 0) at (c ∷ cs) ≡ words_from 0 at (c ∷ cs)
no-blank at n c cs true e f = skip-one n at c cs ∙ (ap (λ k. words_from k (at + 1) cs) f ∙ sym (past at c cs e))
no-blank at n c cs false e f = refl

-- the blanks at the begin of a text have no words
blanks : (at : ℕ) (s : List ℕ) → words_from (prefix_len is_blank s) at s ≡ words_from 0 at s
unfolding words_from
blanks at [] = refl
blanks at (c ∷ cs) = no-blank at (prefix_len is_blank cs) c cs (is_blank c) refl refl

pub past_blank : (at : ℕ) (c : ℕ) (cs : List ℕ) → is_blank c ≡ true → words_from 0 at (c ∷ cs) ≡ words_from 0 (at + 1) cs
past_blank at c cs e = past at c cs e ∙ blanks (at + 1) cs

-- ---- All of it.

pub line_feed : (c : ℕ) → nat_eq c 10 ≡ true → is_blank c ≡ true
line_feed c e = ap is_blank (eqb-true c 10 e)

-- what a gap begins with, where the rest of it has no words
front : (a b z : Bool) (at at' : ℕ) (m end : Scan) (c : ℕ) (cs : List ℕ) → ((skip at at' : ℕ) (m : Scan) → scan_from skip at m cs ≡ Some end → words_from skip at' cs ≡ Ok [])
    → nat_eq c 10 ≡ a → is_blank c ≡ b → nat_eq (comment_len (c ∷ cs)) 0 ≡ z
    → cond a (scan_from 0 (at + 1) (line_ended (at + 1) m.line m) cs) (cond b (scan_from 0 (at + 1) m cs) (cond z None (scan_from (comment_len (c ∷ cs) - 1) (at + 1) (comment_ended (at + comment_len (c ∷ cs)) m) cs))) ≡ Some end
    → words_from 0 at' (c ∷ cs) ≡ Ok []
front true b z at at' m end c cs rest ea eb ez e = past_blank at' c cs (line_feed c ea) ∙ rest 0 (at + 1) (at' + 1) (line_ended (at + 1) m.line m) e
front false true z at at' m end c cs rest ea eb ez e = past_blank at' c cs eb ∙ rest 0 (at + 1) (at' + 1) m e
front false false true at at' m end c cs rest ea eb ez e = absurd (none≢some end e)
front false false false at at' m end c cs rest ea eb ez e =
    word_gap at' (comment_len (c ∷ cs)) c cs (comment_piece (c ∷ cs) (comment_len (c ∷ cs)) eb refl ez)
    ∙ rest (comment_len (c ∷ cs) - 1) (at + 1) (at' + 1) (comment_ended (at + comment_len (c ∷ cs)) m) e

pub scanned : (skip at at' : ℕ) (m end : Scan) (s : List ℕ) → scan_from skip at m s ≡ Some end → words_from skip at' s ≡ Ok []
unfolding scan_from words_from
scanned skip at at' m end [] e = refl
scanned (suc skip) at at' m end (c ∷ cs) e = scanned skip (at + 1) (at' + 1) m end cs e
scanned zero at at' m end (c ∷ cs) e =
    front (nat_eq c 10) (is_blank c) (nat_eq (comment_len (c ∷ cs)) 0) at at' m end c cs (λ skip at at' m h. scanned skip at at' m end cs h) refl refl refl e

pub mapped : (f : Scan → Parts) (o : Option Scan) (p : Parts) → option_map f o ≡ Some p → (m : Scan) × (o ≡ Some m)
mapped f None p e = absurd (none≢some p e)
mapped f (Some m) p e = (m, refl)

pub no_word : (left : Left) (right : Right) (gap : List ℕ) (parts : Parts) → gap_parts left right gap ≡ Some parts → words gap ≡ Ok []
unfolding gap_parts
no_word left right gap parts e =
    let found = mapped (parts_of right (length gap)) (scan_from 0 0 (begun left) gap) parts e in
    scanned 0 0 0 (begun left) found.0 gap found.1
