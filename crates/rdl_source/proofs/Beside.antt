-- Words with a line feed behind them.
use Rattle.std.proofs.Common.{◌≡◌, ℕ, zero, suc, ◌+◌, ◌≤◌, Bool, true, false, cond, ◌&&◌, List, [], ◌∷◌, ◌++◌, length, take, drop, Option, Some, None, Result, Ok, Err, inl, inr, refl, sym, ◌∙◌, ap, subst, arith}
use Rattle.std.proofs.lemmas.Bool.{eqb-true, false≢true}
use Rattle.std.proofs.lemmas.List.{length-drop, take-append-le, drop-append-le, length-append}
use Rattle.std.proofs.lemmas.List.Sums.{prefix_len-le-length}
use Rattle.std.specs.List.{prefix_len}
use Rattle.std.specs.Option.{option_map}
use Rattle.std.specs.Prelude.{nat_eq}
use Rattle.rdl_text.specs.Rows.{byte, run, closing, string_len, quoted_len}
use Rattle.rdl_text.specs.Word.{Word, word}
use Rattle.rdl_text.specs.Words.{words_from, before, candidate, string, longest, piece, word_piece, is_blank, is_in_line, comment_end, enclosed, block_comment}
use Rattle.rdl_text.specs.Piece.{Piece}
use Rattle.rdl_text.specs.Piece.{Gap, Word as Found}
use Rattle.rdl_text.specs.declared.fault.WordFault.{WordFault}
use Rattle.rdl_text.specs.declared.fault.TextFault.{TextFault}
use Rattle.rdl_text.specs.declared.token.TokenKind.{TokenKind}
use Rattle.rdl_text.specs.declared.token.TokenKind.TheVariants as kinds
use Rattle.rdl_source.proofs.Within.{piece_within}
use Rattle.rdl_text.proofs.Following.{words-gap, words-word, words-fault, words-end}
use Rattle.rdl_text.proofs.Longest.{longest_quote}
use Rattle.rdl_source.specs.Beside.{behind_words, LineEnds}
use Rattle.rdl_source.proofs.Quiet.{run_stops, same_longest}

-- ---- Comments and strings that end.

closing_more : (taken : Bool) (cs t : List ℕ) (n : ℕ) → closing taken cs ≡ Some n → closing taken (cs ++ t) ≡ Some n
closing_more taken [] t n e = cc
closing_more true (c ∷ cs) t n e = mapped (closing false cs) (closing false (cs ++ t)) n (λ m f. closing_more false cs t m f) e
  where
    mapped : (o p : Option ℕ) (n : ℕ) → ((m : ℕ) → o ≡ Some m → p ≡ Some m) → option_map (λ k. k + 1) o ≡ Some n → option_map (λ k. k + 1) p ≡ Some n
    mapped None p n f e = cc
    mapped (Some m) p n f e = ap (option_map (λ k. k + 1)) (f m refl) ∙ e
closing_more false (c ∷ cs) t n e = at_quote (nat_eq c 34) (closing (nat_eq c 92) cs) (closing (nat_eq c 92) (cs ++ t)) n (λ m f. closing_more (nat_eq c 92) cs t m f) e
  where
    at_quote : (b : Bool) (o p : Option ℕ) (n : ℕ) → ((m : ℕ) → o ≡ Some m → p ≡ Some m) → cond b (Some 0) (option_map (λ k. k + 1) o) ≡ Some n → cond b (Some 0) (option_map (λ k. k + 1) p) ≡ Some n
    at_quote true o p n f e = e
    at_quote false None p n f e = cc
    at_quote false (Some m) p n f e = ap (option_map (λ k. k + 1)) (f m refl) ∙ e

slash_same : (cs : List ℕ) (m d : ℕ) (b : List ℕ) → nat_eq 10 m ≡ false → nat_eq 0 m ≡ false → nat_eq (byte (cs ++ (10 ∷ b)) 0) m ≡ nat_eq (byte cs 0) m
slash_same [] m d b e f = e ∙ sym f
slash_same (c ∷ cs) m d b e f = refl

comment_more : (cs b : List ℕ) (n : ℕ) → comment_end cs ≡ Some n → comment_end (cs ++ (10 ∷ b)) ≡ Some n
comment_more [] b n e = cc
comment_more (c ∷ cs) b n e =
    ap (λ x. cond (nat_eq c 42 && x) (Some 0) (option_map (λ k. k + 1) (comment_end (cs ++ (10 ∷ b))))) (slash_same cs 47 0 b refl refl)
    ∙ at_end (nat_eq c 42 && nat_eq (byte cs 0) 47) (comment_end cs) (comment_end (cs ++ (10 ∷ b))) n (λ m f. comment_more cs b m f) e
  where
    at_end : (b : Bool) (o p : Option ℕ) (n : ℕ) → ((m : ℕ) → o ≡ Some m → p ≡ Some m) → cond b (Some 0) (option_map (λ k. k + 1) o) ≡ Some n → cond b (Some 0) (option_map (λ k. k + 1) p) ≡ Some n
    at_end true o p n f e = e
    at_end false None p n f e = cc
    at_end false (Some m) p n f e = ap (option_map (λ k. k + 1)) (f m refl) ∙ e

block_more : (o p : Option ℕ) (q : Piece) → ((m : ℕ) → o ≡ Some m → p ≡ Some m) → enclosed o ≡ Ok q → enclosed p ≡ Ok q
block_more None p q f e = cc
block_more (Some n) p q f e = ap enclosed (f n refl) ∙ e

-- ---- Words.

string_more : (cs t : List ℕ) (p : Piece) → word_piece 34 (string (34 ∷ cs)) ≡ Ok p → word_piece 34 (string (34 ∷ (cs ++ t))) ≡ Ok p
unfolding string string_len
string_more cs t p e = by (closing false cs) (closing false (cs ++ t)) (λ m f. closing_more false cs t m f) e
  where
    by : (o q : Option ℕ) → ((m : ℕ) → o ≡ Some m → q ≡ Some m) → word_piece 34 (candidate (quoted_len o) (Ok kinds.Text)) ≡ Ok p → word_piece 34 (candidate (quoted_len q) (Ok kinds.Text)) ≡ Ok p
    by None q f e = cc
    by (Some n) q f e = ap (λ o. word_piece 34 (candidate (quoted_len o) (Ok kinds.Text))) (f n refl) ∙ e

word_more : (c : ℕ) (cs b : List ℕ) (p : Piece) → word_piece c (longest (c ∷ cs)) ≡ Ok p → word_piece c (longest (c ∷ (cs ++ (10 ∷ b)))) ≡ Ok p
word_more c cs b p e = by (nat_eq c 34) refl
  where
    by : (q : Bool) → nat_eq c 34 ≡ q → word_piece c (longest (c ∷ (cs ++ (10 ∷ b)))) ≡ Ok p
    by true q =
        let is : c ≡ 34 = eqb-true c 34 q in
        subst (λ d. word_piece d (longest (d ∷ cs)) ≡ Ok p → word_piece d (longest (d ∷ (cs ++ (10 ∷ b)))) ≡ Ok p) (sym is)
        (λ h. ap (word_piece 34) (sym (longest_quote (34 ∷ (cs ++ (10 ∷ b))) refl)) ∙ string_more cs (10 ∷ b) p (ap (word_piece 34) (longest_quote (34 ∷ cs) refl) ∙ h)) e
    by false q = ap (word_piece c) (same_longest c cs (10 ∷ b) (λ is. false≢true (sym q ∙ ap (λ d. nat_eq d 34) is)) (inr (inl refl))) ∙ e

-- ---- What begins with no blank.

line_more : (c : ℕ) (cs b : List ℕ) → (nat_eq c 47 && nat_eq (byte cs 0) 47) ≡ true → run is_in_line 2 (c ∷ (cs ++ (10 ∷ b))) ≡ run is_in_line 2 (c ∷ cs)
line_more c [] b e = absurd (none (nat_eq c 47) e)
  where
    none : (x : Bool) → (x && false) ≡ true → ⊥
    none true e = cc
    none false e = cc
line_more c (d ∷ ds) b e = run_stops is_in_line ds (10 ∷ b) refl

block_same : (c : ℕ) (cs b : List ℕ) (p : Piece) → (nat_eq c 47 && nat_eq (byte cs 0) 42) ≡ true → block_comment (c ∷ cs) ≡ Ok p → block_comment (c ∷ (cs ++ (10 ∷ b))) ≡ Ok p
block_same c [] b p e h = absurd (none (nat_eq c 47) e)
  where
    none : (x : Bool) → (x && false) ≡ true → ⊥
    none true e = cc
    none false e = cc
block_same c (d ∷ ds) b p e h = block_more (comment_end ds) (comment_end (ds ++ (10 ∷ b))) p (λ m f. comment_more ds b m f) h

piece_more : (c : ℕ) (cs b : List ℕ) (p : Piece) → is_blank c ≡ false → piece (c ∷ cs) ≡ Ok p → piece (c ∷ (cs ++ (10 ∷ b))) ≡ Ok p
unfolding piece
piece_more c cs b p blank e =
    let s = c ∷ (cs ++ (10 ∷ b)) in
    rw (blank, slash_same cs 47 0 b refl refl, slash_same cs 42 0 b refl refl)
    (go (nat_eq c 47 && nat_eq (byte cs 0) 47) (nat_eq c 47 && nat_eq (byte cs 0) 42) refl refl (simp blank at e))
  where
    go : (x y : Bool) → (nat_eq c 47 && nat_eq (byte cs 0) 47) ≡ x → (nat_eq c 47 && nat_eq (byte cs 0) 42) ≡ y
        → cond x (Ok (Gap (2 + run is_in_line 2 (c ∷ cs)))) (cond y (block_comment (c ∷ cs)) (word_piece c (longest (c ∷ cs)))) ≡ Ok p
        → cond x (Ok (Gap (2 + run is_in_line 2 (c ∷ (cs ++ (10 ∷ b)))))) (cond y (block_comment (c ∷ (cs ++ (10 ∷ b)))) (word_piece c (longest (c ∷ (cs ++ (10 ∷ b)))))) ≡ Ok p
    go true y f g h = ap (λ n. Ok (Gap (2 + n))) (line_more c cs b f) ∙ h
    go false true f g h = block_same c cs b p g h
    go false false f g h = word_more c cs b p h

-- ---- Blanks.

pub from_place : (a b : ℕ) (s : List ℕ) → a ≡ b → words_from 0 a s ≡ words_from 0 b s
from_place a b s e = ap (λ k. words_from 0 k s) e

past_by : (at c : ℕ) (cs : List ℕ) (b : Bool) → is_blank c ≡ b → words_from 0 at (c ∷ cs) ≡ words_from 0 (at + prefix_len is_blank (c ∷ cs)) (drop (prefix_len is_blank (c ∷ cs)) (c ∷ cs))
unfolding piece
past_by at c cs true e =
    let some : 1 ≤ prefix_len is_blank (c ∷ cs) = rw e (omega arith) in
    words-gap at (prefix_len is_blank (c ∷ cs)) (c ∷ cs) (rw e refl) some (prefix_len-le-length is_blank (c ∷ cs))
past_by at c cs false e = rw e (from_place at (at + 0) (c ∷ cs) (omega arith))

past_blanks : (at : ℕ) (s : List ℕ) → words_from 0 at s ≡ words_from 0 (at + prefix_len is_blank s) (drop (prefix_len is_blank s) s)
past_blanks at [] = from_place at (at + 0) [] (omega arith)
past_blanks at (c ∷ cs) = past_by at c cs (is_blank c) refl

pub past_blank : (at c : ℕ) (cs : List ℕ) → is_blank c ≡ true → words_from 0 at (c ∷ cs) ≡ words_from 0 (at + 1) cs
past_blank at c cs h =
    let n = prefix_len is_blank cs in
    let long : prefix_len is_blank (c ∷ cs) ≡ suc n = rw h (omega arith) in
    past_blanks at (c ∷ cs)
    ∙ ap (λ k. words_from 0 (at + k) (drop k (c ∷ cs))) long
    ∙ from_place (at + suc n) (at + 1 + n) (drop n cs) (omega arith)
    ∙ sym (past_blanks (at + 1) cs)

-- ---- All words.

abbrev Line : (at : ℕ) (s b : List ℕ) → List Word → Type 0
Line at s b ws = words_from 0 at (s ++ (10 ∷ b)) ≡ behind_words ws (words_from 0 (at + length s + 1) b)

pub behind_none : (r : Result (List Word) TextFault) → behind_words [] r ≡ r
behind_none (Ok ws) = refl
behind_none (Err f) = refl

pub behind_one : (w : Word) (ws : List Word) (r : Result (List Word) TextFault) → before w (behind_words ws r) ≡ behind_words (w ∷ ws) r
behind_one w ws (Ok vs) = refl
behind_one w ws (Err f) = refl

abbrev pub Found_words : List Word → Result (List Word) TextFault
Found_words ws = Ok ws

pub same_words : (vs ws : List Word) → Found_words vs ≡ Found_words ws → vs ≡ ws
same_words vs ws e = cc

line_none : (at : ℕ) (b : List ℕ) (ws : List Word) → words_from 0 at [] ≡ Ok ws → Line at [] b ws
line_none at b ws e =
    let none : [] ≡ ws = same_words [] ws (sym (words-end at [] refl) ∙ e) in
    past_blank at 10 b refl ∙ (from_place (at + 1) (at + 0 + 1) b (omega arith)
    ∙ (sym (behind_none (words_from 0 (at + 0 + 1) b)) ∙ ap (λ vs. behind_words vs (words_from 0 (at + 0 + 1) b)) none))

-- behind a piece of so many bytes
pub past_piece : (at len : ℕ) (s b : List ℕ) (ws : List Word) → len ≤ length s → Line (at + len) (drop len s) b ws
    → words_from 0 (at + len) (drop len (s ++ (10 ∷ b))) ≡ behind_words ws (words_from 0 (at + length s + 1) b)
past_piece at len s b ws h k =
    let place : at + len + length (drop len s) + 1 ≡ at + length s + 1 = omega (arith, length-drop len s, h) in
    ap (words_from 0 (at + len)) (drop-append-le len s (10 ∷ b) h) ∙ (k ∙ ap (λ n. behind_words ws (words_from 0 n b)) place)

longer_text : (len : ℕ) (s b : List ℕ) → len ≤ length s → len ≤ length (s ++ (10 ∷ b))
longer_text len s b h = omega (arith, length-append s (10 ∷ b), h)

line_gap : (at len : ℕ) (s b : List ℕ) (ws : List Word) → piece s ≡ Ok (Gap len) → piece (s ++ (10 ∷ b)) ≡ Ok (Gap len) → 1 ≤ len → len ≤ length s
    → (words_from 0 (at + len) (drop len s) ≡ Ok ws → Line (at + len) (drop len s) b ws) → words_from 0 at s ≡ Ok ws → Line at s b ws
line_gap at len s b ws e f some within more h =
    words-gap at len (s ++ (10 ∷ b)) f some (longer_text len s b within)
    ∙ past_piece at len s b ws within (more (sym (words-gap at len s e some within) ∙ h))

pub behind_word : (w : Word) (r : Result (List Word) TextFault) (ws : List Word) → before w r ≡ Ok ws → (vs : List Word) × (r ≡ Ok vs) × (w ∷ vs ≡ ws)
behind_word w (Ok vs) ws e = (vs, refl, same_words (w ∷ vs) ws e)
behind_word w (Err f) ws e = cc

line_word : (at len : ℕ) (kind : TokenKind) (s b : List ℕ) (ws : List Word) → piece s ≡ Ok (Found kind len) → piece (s ++ (10 ∷ b)) ≡ Ok (Found kind len) → 1 ≤ len → len ≤ length s
    → ((vs : List Word) → words_from 0 (at + len) (drop len s) ≡ Ok vs → Line (at + len) (drop len s) b vs) → words_from 0 at s ≡ Ok ws → Line at s b ws
line_word at len kind s b ws e f some within more h =
    let w = word kind at (take len s) in
    let found = behind_word w (words_from 0 (at + len) (drop len s)) ws (sym (words-word at len kind s e some within) ∙ h) in
    words-word at len kind (s ++ (10 ∷ b)) f some (longer_text len s b within)
    ∙ (ap (λ source. before (word kind at source) (words_from 0 (at + len) (drop len (s ++ (10 ∷ b))))) (take-append-le len s (10 ∷ b) within)
    ∙ (ap (before w) (past_piece at len s b found.0 within (more found.0 found.1))
    ∙ (behind_one w found.0 (words_from 0 (at + length s + 1) b) ∙ ap (λ vs. behind_words vs (words_from 0 (at + length s + 1) b)) found.2)))

-- texts of so many bytes at most
line_kept : (n at : ℕ) (s b : List ℕ) (ws : List Word) → length s ≤ n → words_from 0 at s ≡ Ok ws → Line at s b ws
line_kept zero at [] b ws short h = line_none at b ws h
line_kept zero at (c ∷ cs) b ws short h = absurd (omega (arith, short))
line_kept (suc n) at [] b ws short h = line_none at b ws h
line_kept (suc n) at (c ∷ cs) b ws short h = by_blank (is_blank c) refl (line_kept n)
  where
    Others : Type 0
    Others = (at : ℕ) (s b : List ℕ) (ws : List Word) → length s ≤ n → words_from 0 at s ≡ Ok ws → Line at s b ws

    by_piece : (r : Result Piece WordFault) → piece (c ∷ cs) ≡ r → is_blank c ≡ false → Others → Line at (c ∷ cs) b ws
    by_piece (Err f) e blank others = absurd (no_fault (sym (words-fault at f (c ∷ cs) e (omega arith)) ∙ h))
      where
        no_fault : {x : TextFault} → Err x ≡ Found_words ws → ⊥
        no_fault e = cc
    by_piece (Ok (Gap len)) e blank others =
        let ends = piece_within c cs (Gap len) e in
        let fewer : length (drop len (c ∷ cs)) ≤ n = omega (arith, length-drop len (c ∷ cs), ends.some, ends.within, short) in
        line_gap at len (c ∷ cs) b ws e (piece_more c cs b (Gap len) blank e) ends.some ends.within
        (others (at + len) (drop len (c ∷ cs)) b ws fewer) h
    by_piece (Ok (Found kind len)) e blank others =
        let ends = piece_within c cs (Found kind len) e in
        let fewer : length (drop len (c ∷ cs)) ≤ n = omega (arith, length-drop len (c ∷ cs), ends.some, ends.within, short) in
        line_word at len kind (c ∷ cs) b ws e (piece_more c cs b (Found kind len) blank e) ends.some ends.within
        (λ vs. others (at + len) (drop len (c ∷ cs)) b vs fewer) h

    by_blank : (x : Bool) → is_blank c ≡ x → Others → Line at (c ∷ cs) b ws
    by_blank true e others =
        let place : at + 1 + length cs + 1 ≡ at + length (c ∷ cs) + 1 = omega arith in
        past_blank at c (cs ++ (10 ∷ b)) e
        ∙ (others (at + 1) cs b ws (omega (arith, short)) (sym (past_blank at c cs e) ∙ h)
        ∙ ap (λ k. behind_words ws (words_from 0 k b)) place)
    by_blank false e others = by_piece (piece (c ∷ cs)) refl e others

pub line_ends : LineEnds
line_ends at text rest ws h = line_kept (length text) at text rest ws (omega arith) h

-- ---- The words of a text stand before the line feed at its end.

closing_less : (taken : Bool) (cs : List ℕ) (n : ℕ) → closing taken (cs ++ (10 ∷ [])) ≡ Some n → closing taken cs ≡ Some n
closing_less true [] n e = cc
closing_less false [] n e = cc
closing_less true (c ∷ cs) n e = mapped (closing false (cs ++ (10 ∷ []))) (closing false cs) n (λ m f. closing_less false cs m f) e
  where
    mapped : (o p : Option ℕ) (n : ℕ) → ((m : ℕ) → o ≡ Some m → p ≡ Some m) → option_map (λ k. k + 1) o ≡ Some n → option_map (λ k. k + 1) p ≡ Some n
    mapped None p n f e = cc
    mapped (Some m) p n f e = ap (option_map (λ k. k + 1)) (f m refl) ∙ e
closing_less false (c ∷ cs) n e = at_quote (nat_eq c 34) (closing (nat_eq c 92) (cs ++ (10 ∷ []))) (closing (nat_eq c 92) cs) n (λ m f. closing_less (nat_eq c 92) cs m f) e
  where
    at_quote : (b : Bool) (o p : Option ℕ) (n : ℕ) → ((m : ℕ) → o ≡ Some m → p ≡ Some m) → cond b (Some 0) (option_map (λ k. k + 1) o) ≡ Some n → cond b (Some 0) (option_map (λ k. k + 1) p) ≡ Some n
    at_quote true o p n f e = e
    at_quote false None p n f e = cc
    at_quote false (Some m) p n f e = ap (option_map (λ k. k + 1)) (f m refl) ∙ e

comment_less : (cs : List ℕ) (n : ℕ) → comment_end (cs ++ (10 ∷ [])) ≡ Some n → comment_end cs ≡ Some n
comment_less [] n e = cc
comment_less (c ∷ cs) n e =
    at_end (nat_eq c 42 && nat_eq (byte cs 0) 47) (comment_end (cs ++ (10 ∷ []))) (comment_end cs) n (λ m f. comment_less cs m f)
    (ap (λ x. cond (nat_eq c 42 && x) (Some 0) (option_map (λ k. k + 1) (comment_end (cs ++ (10 ∷ []))))) (sym (slash_same cs 47 0 [] refl refl)) ∙ e)
  where
    at_end : (b : Bool) (o p : Option ℕ) (n : ℕ) → ((m : ℕ) → o ≡ Some m → p ≡ Some m) → cond b (Some 0) (option_map (λ k. k + 1) o) ≡ Some n → cond b (Some 0) (option_map (λ k. k + 1) p) ≡ Some n
    at_end true o p n f e = e
    at_end false None p n f e = cc
    at_end false (Some m) p n f e = ap (option_map (λ k. k + 1)) (f m refl) ∙ e

string_less : (cs : List ℕ) (p : Piece) → word_piece 34 (string (34 ∷ (cs ++ (10 ∷ [])))) ≡ Ok p → word_piece 34 (string (34 ∷ cs)) ≡ Ok p
unfolding string string_len
string_less cs p e = by (closing false (cs ++ (10 ∷ []))) (closing false cs) (λ m f. closing_less false cs m f) e
  where
    by : (o q : Option ℕ) → ((m : ℕ) → o ≡ Some m → q ≡ Some m) → word_piece 34 (candidate (quoted_len o) (Ok kinds.Text)) ≡ Ok p → word_piece 34 (candidate (quoted_len q) (Ok kinds.Text)) ≡ Ok p
    by None q f e = cc
    by (Some n) q f e = ap (λ o. word_piece 34 (candidate (quoted_len o) (Ok kinds.Text))) (f n refl) ∙ e

word_less : (c : ℕ) (cs : List ℕ) (p : Piece) → word_piece c (longest (c ∷ (cs ++ (10 ∷ [])))) ≡ Ok p → word_piece c (longest (c ∷ cs)) ≡ Ok p
word_less c cs p e = by (nat_eq c 34) refl
  where
    by : (q : Bool) → nat_eq c 34 ≡ q → word_piece c (longest (c ∷ cs)) ≡ Ok p
    by true q =
        let is : c ≡ 34 = eqb-true c 34 q in
        subst (λ d. word_piece d (longest (d ∷ (cs ++ (10 ∷ [])))) ≡ Ok p → word_piece d (longest (d ∷ cs)) ≡ Ok p) (sym is)
        (λ h. ap (word_piece 34) (sym (longest_quote (34 ∷ cs) refl)) ∙ string_less cs p (ap (word_piece 34) (longest_quote (34 ∷ (cs ++ (10 ∷ []))) refl) ∙ h)) e
    by false q = ap (word_piece c) (sym (same_longest c cs (10 ∷ []) (λ is. false≢true (sym q ∙ ap (λ d. nat_eq d 34) is)) (inr (inl refl)))) ∙ e

block_less : (c : ℕ) (cs : List ℕ) (p : Piece) → (nat_eq c 47 && nat_eq (byte cs 0) 42) ≡ true → block_comment (c ∷ (cs ++ (10 ∷ []))) ≡ Ok p → block_comment (c ∷ cs) ≡ Ok p
block_less c [] p e h = absurd (none (nat_eq c 47) e)
  where
    none : (x : Bool) → (x && false) ≡ true → ⊥
    none true e = cc
    none false e = cc
block_less c (d ∷ ds) p e h = block_more (comment_end (ds ++ (10 ∷ []))) (comment_end ds) p (λ m f. comment_less ds m f) h

piece_less : (c : ℕ) (cs : List ℕ) (p : Piece) → is_blank c ≡ false → piece (c ∷ (cs ++ (10 ∷ []))) ≡ Ok p → piece (c ∷ cs) ≡ Ok p
unfolding piece
piece_less c cs p blank e =
    rw blank (go (nat_eq c 47 && nat_eq (byte cs 0) 47) (nat_eq c 47 && nat_eq (byte cs 0) 42) refl refl (rw (blank, slash_same cs 47 0 [] refl refl, slash_same cs 42 0 [] refl refl) at e))
  where
    go : (x y : Bool) → (nat_eq c 47 && nat_eq (byte cs 0) 47) ≡ x → (nat_eq c 47 && nat_eq (byte cs 0) 42) ≡ y
        → cond x (Ok (Gap (2 + run is_in_line 2 (c ∷ (cs ++ (10 ∷ [])))))) (cond y (block_comment (c ∷ (cs ++ (10 ∷ [])))) (word_piece c (longest (c ∷ (cs ++ (10 ∷ [])))))) ≡ Ok p
        → cond x (Ok (Gap (2 + run is_in_line 2 (c ∷ cs)))) (cond y (block_comment (c ∷ cs)) (word_piece c (longest (c ∷ cs)))) ≡ Ok p
    go true y f g h = ap (λ n. Ok (Gap (2 + n))) (sym (line_more c cs [] f)) ∙ h
    go false true f g h = block_less c cs p g h
    go false false f g h = word_less c cs p h

less_gap : (at len : ℕ) (s : List ℕ) (ws : List Word) → piece s ≡ Ok (Gap len) → piece (s ++ (10 ∷ [])) ≡ Ok (Gap len) → 1 ≤ len → len ≤ length s
    → (words_from 0 (at + len) (drop len s ++ (10 ∷ [])) ≡ Ok ws → words_from 0 (at + len) (drop len s) ≡ Ok ws)
    → words_from 0 at (s ++ (10 ∷ [])) ≡ Ok ws → words_from 0 at s ≡ Ok ws
less_gap at len s ws e f some within less h =
    words-gap at len s e some within
    ∙ less (sym (words-gap at len (s ++ (10 ∷ [])) f some (longer_text len s [] within) ∙ ap (words_from 0 (at + len)) (drop-append-le len s (10 ∷ []) within)) ∙ h)

less_word : (at len : ℕ) (kind : TokenKind) (s : List ℕ) (ws : List Word) → piece s ≡ Ok (Found kind len) → piece (s ++ (10 ∷ [])) ≡ Ok (Found kind len) → 1 ≤ len → len ≤ length s
    → ((vs : List Word) → words_from 0 (at + len) (drop len s ++ (10 ∷ [])) ≡ Ok vs → words_from 0 (at + len) (drop len s) ≡ Ok vs)
    → words_from 0 at (s ++ (10 ∷ [])) ≡ Ok ws → words_from 0 at s ≡ Ok ws
less_word at len kind s ws e f some within less h =
    let w = word kind at (take len s) in
    let turn = words-word at len kind (s ++ (10 ∷ [])) f some (longer_text len s [] within)
    ∙ (ap (λ source. before (word kind at source) (words_from 0 (at + len) (drop len (s ++ (10 ∷ []))))) (take-append-le len s (10 ∷ []) within)
    ∙ ap (λ r. before w (words_from 0 (at + len) r)) (drop-append-le len s (10 ∷ []) within)) in
    let found = behind_word w (words_from 0 (at + len) (drop len s ++ (10 ∷ []))) ws (sym turn ∙ h) in
    words-word at len kind s e some within ∙ (ap (before w) (less found.0 found.1) ∙ ap Found_words found.2)

less_kept : (n at : ℕ) (s : List ℕ) (ws : List Word) → length s ≤ n → words_from 0 at (s ++ (10 ∷ [])) ≡ Ok ws → words_from 0 at s ≡ Ok ws
less_kept zero at [] ws short h = words-end at [] refl ∙ (sym (past_blank at 10 [] refl ∙ words-end (at + 1) [] refl) ∙ h)
less_kept zero at (c ∷ cs) ws short h = absurd (omega (arith, short))
less_kept (suc n) at [] ws short h = words-end at [] refl ∙ (sym (past_blank at 10 [] refl ∙ words-end (at + 1) [] refl) ∙ h)
less_kept (suc n) at (c ∷ cs) ws short h = by_blank (is_blank c) refl (less_kept n)
  where
    Others : Type 0
    Others = (at : ℕ) (s : List ℕ) (ws : List Word) → length s ≤ n → words_from 0 at (s ++ (10 ∷ [])) ≡ Ok ws → words_from 0 at s ≡ Ok ws

    by_piece : (r : Result Piece WordFault) → piece (c ∷ (cs ++ (10 ∷ []))) ≡ r → is_blank c ≡ false → Others → words_from 0 at (c ∷ cs) ≡ Ok ws
    by_piece (Err f) e blank others = absurd (no_fault (sym (words-fault at f (c ∷ (cs ++ (10 ∷ []))) e (omega arith)) ∙ h))
      where
        no_fault : {x : TextFault} → Err x ≡ Found_words ws → ⊥
        no_fault e = cc
    by_piece (Ok (Gap len)) e blank others =
        let less = piece_less c cs (Gap len) blank e in
        let ends = piece_within c cs (Gap len) less in
        let fewer : length (drop len (c ∷ cs)) ≤ n = omega (arith, length-drop len (c ∷ cs), ends.some, ends.within, short) in
        less_gap at len (c ∷ cs) ws less e ends.some ends.within (others (at + len) (drop len (c ∷ cs)) ws fewer) h
    by_piece (Ok (Found kind len)) e blank others =
        let less = piece_less c cs (Found kind len) blank e in
        let ends = piece_within c cs (Found kind len) less in
        let fewer : length (drop len (c ∷ cs)) ≤ n = omega (arith, length-drop len (c ∷ cs), ends.some, ends.within, short) in
        less_word at len kind (c ∷ cs) ws less e ends.some ends.within (λ vs. others (at + len) (drop len (c ∷ cs)) vs fewer) h

    by_blank : (x : Bool) → is_blank c ≡ x → Others → words_from 0 at (c ∷ cs) ≡ Ok ws
    by_blank true e others =
        past_blank at c cs e ∙ others (at + 1) cs ws (omega (arith, short)) (sym (past_blank at c (cs ++ (10 ∷ [])) e) ∙ h)
    by_blank false e others = by_piece (piece (c ∷ (cs ++ (10 ∷ [])))) refl e others

pub line_feed_less : (at : ℕ) (s : List ℕ) (ws : List Word) → words_from 0 at (s ++ (10 ∷ [])) ≡ Ok ws → words_from 0 at s ≡ Ok ws
line_feed_less at s ws h = less_kept (length s) at s ws (omega arith) h
