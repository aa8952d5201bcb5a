-- A semicolon that is a word parts the words of a text, whatever stands behind it.
use Rattle.std.proofs.Common.{◌≡◌, ◌≢◌, ℕ, zero, suc, ◌+◌, ◌<◌, ◌≤◌, Bool, true, false, cond, ◌&&◌, List, [], ◌∷◌, ◌++◌, length, take, drop, Option, Some, None, Result, Ok, Err, inl, inr, ◌⊎◌, refl, sym, ◌∙◌, ap, subst, arith}
use Rattle.std.proofs.lemmas.Bool.{ne_eqb, eqb-true, false≢true}
use Rattle.std.proofs.lemmas.List.{length-drop, take-append-le, drop-append-le, length-append}
use Rattle.std.specs.List.{prefix_len}
use Rattle.std.specs.Option.{option_map}
use Rattle.std.specs.Prelude.{nat_eq}
use Rattle.rdl_text.specs.Rows.{byte, run, closing, string_len, quoted_len}
use Rattle.rdl_text.specs.Word.{Word, word}
use Rattle.rdl_text.specs.Words.{words_from, before, candidate, string, longest, piece, word_piece, is_blank, is_in_line, comment_end, enclosed, block_comment}
use Rattle.rdl_text.specs.Piece.{Piece}
use Rattle.rdl_text.specs.Piece.{Gap, Word as Found}
use Rattle.rdl_text.specs.declared.fault.WordFault.{WordFault}
use Rattle.rdl_text.specs.declared.fault.TextFault.{TextFault}
use Rattle.rdl_text.specs.declared.token.TokenKind.{TokenKind}
use Rattle.rdl_text.specs.declared.token.TokenKind.TheVariants as kinds
use Rattle.rdl_text.proofs.Ends.{piece_len}
use Rattle.rdl_text.proofs.Following.{words-gap, words-word, words-fault, words-end}
use Rattle.rdl_text.proofs.Longest.{longest_quote}
use Rattle.rdl_source.specs.Beside.{behind_words, HasStart}
use Rattle.rdl_source.proofs.Beside.{from_place, past_blank, behind_none, behind_one, same_words, behind_word}
use Rattle.rdl_source.proofs.Quiet.{same_longest}
use Rattle.rdl_source.proofs.Within.{piece_within}

-- ---- What ends before the semicolon ends there with any other text behind it.

semi_byte : (u r q : List ℕ) → byte (u ++ (59 ∷ r)) 0 ≡ byte (u ++ (59 ∷ q)) 0
semi_byte [] r q = refl
semi_byte (c ∷ u) r q = refl

line_stable : (xs r q : List ℕ) → prefix_len is_in_line (xs ++ (59 ∷ r)) ≤ length xs → prefix_len is_in_line (xs ++ (59 ∷ q)) ≡ prefix_len is_in_line (xs ++ (59 ∷ r))
line_stable [] r q h = absurd (none (prefix_len is_in_line r) h)
  where
    none : (n : ℕ) → 1 + n ≤ 0 → ⊥
    none n h = omega (arith, h)
line_stable (x ∷ xs) r q h = by (is_in_line x) h (line_stable xs r q)
  where
    by : (b : Bool) → cond b (1 + prefix_len is_in_line (xs ++ (59 ∷ r))) 0 ≤ suc (length xs)
        → (prefix_len is_in_line (xs ++ (59 ∷ r)) ≤ length xs → prefix_len is_in_line (xs ++ (59 ∷ q)) ≡ prefix_len is_in_line (xs ++ (59 ∷ r)))
        → cond b (1 + prefix_len is_in_line (xs ++ (59 ∷ q))) 0 ≡ cond b (1 + prefix_len is_in_line (xs ++ (59 ∷ r))) 0
    by true h f = ap (λ n. 1 + n) (f (omega (arith, h)))
    by false h f = refl

abbrev end_by : Bool → Option ℕ → Option ℕ
end_by b o = cond b (Some 0) (option_map (λ n. n + 1) o)

none_some : (n : ℕ) → ◌≡◌ {A = Option ℕ} None (Some n) → ⊥
none_some n e = cc

next_some : (m n : ℕ) → ◌≡◌ {A = Option ℕ} (Some (m + 1)) (Some n) → m + 1 ≡ n
next_some m n e = cc

end_stable : (xs r q : List ℕ) (n : ℕ) → comment_end (xs ++ (59 ∷ r)) ≡ Some n → n + 2 ≤ length xs → comment_end (xs ++ (59 ∷ q)) ≡ Some n
end_stable [] r q n e h = absurd (omega (arith, h))
end_stable (c ∷ xs) r q n e h =
    ap (λ x. end_by (nat_eq c 42 && nat_eq x 47) (comment_end (xs ++ (59 ∷ q)))) (semi_byte xs q r)
    ∙ by (nat_eq c 42 && nat_eq (byte (xs ++ (59 ∷ r)) 0) 47) (comment_end (xs ++ (59 ∷ r))) refl e (λ m f l. end_stable xs r q m f l)
  where
    by : (b : Bool) (o : Option ℕ) → comment_end (xs ++ (59 ∷ r)) ≡ o → end_by b o ≡ Some n → ((m : ℕ) → comment_end (xs ++ (59 ∷ r)) ≡ Some m → m + 2 ≤ length xs → comment_end (xs ++ (59 ∷ q)) ≡ Some m)
        → end_by b (comment_end (xs ++ (59 ∷ q))) ≡ Some n
    by true o f g k = g
    by false None f g k = absurd (none_some n g)
    by false (Some m) f g k = let same = next_some m n g in ap (option_map (λ i. i + 1)) (k m f (omega (arith, h, same))) ∙ g

closing_stable : (taken : Bool) (xs t u : List ℕ) (n : ℕ) → closing taken (xs ++ t) ≡ Some n → n < length xs → closing taken (xs ++ u) ≡ Some n
closing_stable taken [] t u n e h = absurd (omega (arith, h))
closing_stable true (c ∷ xs) t u n e h = by (closing false (xs ++ t)) refl e (λ m f l. closing_stable false xs t u m f l)
  where
    by : (o : Option ℕ) → closing false (xs ++ t) ≡ o → option_map (λ k. k + 1) o ≡ Some n → ((m : ℕ) → closing false (xs ++ t) ≡ Some m → m < length xs → closing false (xs ++ u) ≡ Some m) → option_map (λ k. k + 1) (closing false (xs ++ u)) ≡ Some n
    by None f g k = absurd (none_some n g)
    by (Some m) f g k = let same = next_some m n g in ap (option_map (λ i. i + 1)) (k m f (omega (arith, h, same))) ∙ g
closing_stable false (c ∷ xs) t u n e h = by (nat_eq c 34) (closing (nat_eq c 92) (xs ++ t)) refl e (λ m f l. closing_stable (nat_eq c 92) xs t u m f l)
  where
    by : (b : Bool) (o : Option ℕ) → closing (nat_eq c 92) (xs ++ t) ≡ o → cond b (Some 0) (option_map (λ k. k + 1) o) ≡ Some n
        → ((m : ℕ) → closing (nat_eq c 92) (xs ++ t) ≡ Some m → m < length xs → closing (nat_eq c 92) (xs ++ u) ≡ Some m)
        → cond b (Some 0) (option_map (λ k. k + 1) (closing (nat_eq c 92) (xs ++ u))) ≡ Some n
    by true o f g k = g
    by false None f g k = absurd (none_some n g)
    by false (Some m) f g k = let same = next_some m n g in ap (option_map (λ i. i + 1)) (k m f (omega (arith, h, same))) ∙ g

-- ---- Words.

abbrev text_word : ℕ → Result Piece WordFault
text_word n = word_piece 34 (candidate n (Ok kinds.Text))

text_len : (n : ℕ) (p : Piece) → text_word (n + 2) ≡ Ok p → piece_len p ≡ n + 2
text_len n p e = same (sym (ap (λ b. word_piece 34 (cond b None (Some (record { len = n + 2; kind = Ok kinds.Text })))) (ne_eqb (n + 2) 0 (λ z. omega (arith, z)))) ∙ e)
  where
    same : ◌≡◌ {A = Result Piece WordFault} (Ok (Found kinds.Text (n + 2))) (Ok p) → piece_len p ≡ n + 2
    same f = let is : Found kinds.Text (n + 2) ≡ p = cc in sym (ap piece_len is)

string_stable : (u t s : List ℕ) (p : Piece) → word_piece 34 (string (34 ∷ (u ++ t))) ≡ Ok p → piece_len p ≤ suc (length u) → word_piece 34 (string (34 ∷ (u ++ s))) ≡ Ok p
unfolding string string_len
string_stable u t s p e h = by (closing false (u ++ t)) refl e
  where
    by : (o : Option ℕ) → closing false (u ++ t) ≡ o → text_word (quoted_len o) ≡ Ok p → text_word (quoted_len (closing false (u ++ s))) ≡ Ok p
    by None f g = absurd (none g)
      where
        none : text_word 0 ≡ Ok p → ⊥
        none g = cc
    by (Some n) f g =
        let size = text_len n p g in ap (λ o. text_word (quoted_len o)) (closing_stable false u t s n f (omega (arith, size, h))) ∙ g

word_stable : (c : ℕ) (u r q : List ℕ) (p : Piece) → word_piece c (longest (c ∷ (u ++ (59 ∷ r)))) ≡ Ok p → piece_len p ≤ suc (length u) → word_piece c (longest (c ∷ (u ++ (59 ∷ q)))) ≡ Ok p
word_stable c u r q p e h = by (nat_eq c 34) refl
  where
    by : (b : Bool) → nat_eq c 34 ≡ b → word_piece c (longest (c ∷ (u ++ (59 ∷ q)))) ≡ Ok p
    by true f =
        let is : c ≡ 34 = eqb-true c 34 f in
        subst (λ d. word_piece d (longest (d ∷ (u ++ (59 ∷ r)))) ≡ Ok p → word_piece d (longest (d ∷ (u ++ (59 ∷ q)))) ≡ Ok p) (sym is)
        (λ g. ap (word_piece 34) (sym (longest_quote (34 ∷ (u ++ (59 ∷ q))) refl)) ∙ string_stable u (59 ∷ r) (59 ∷ q) p (ap (word_piece 34) (longest_quote (34 ∷ (u ++ (59 ∷ r))) refl) ∙ g) h) e
    by false f =
        let other : c ≢ 34 = λ is. false≢true (sym f ∙ ap (λ d. nat_eq d 34) is) in
        ap (word_piece c) (same_longest c u (59 ∷ q) other (inr (inr refl)) ∙ sym (same_longest c u (59 ∷ r) other (inr (inr refl)))) ∙ e

-- ---- Pieces.

ok_len : (n : ℕ) (p : Piece) → ◌≡◌ {A = Result Piece WordFault} (Ok (Gap n)) (Ok p) → piece_len p ≡ n
ok_len n p e = let is : Gap n ≡ p = cc in sym (ap piece_len is)

abbrev Line : ℕ → List ℕ → Result Piece WordFault
Line c s = Ok (Gap (2 + run is_in_line 2 (c ∷ s)))

line_case : (c : ℕ) (u r q : List ℕ) (p : Piece) → (nat_eq c 47 && nat_eq (byte (u ++ (59 ∷ r)) 0) 47) ≡ true → Line c (u ++ (59 ∷ r)) ≡ Ok p → piece_len p ≤ suc (length u) → Line c (u ++ (59 ∷ q)) ≡ Ok p
line_case c [] r q p f e h = absurd (none (nat_eq c 47) f)
  where
    none : (x : Bool) → (x && false) ≡ true → ⊥
    none true e = cc
    none false e = cc
line_case c (d ∷ ds) r q p f e h =
    let size : piece_len p ≡ 2 + prefix_len is_in_line (ds ++ (59 ∷ r)) = ok_len (2 + prefix_len is_in_line (ds ++ (59 ∷ r))) p e in
    ap (λ n. Ok (Gap (2 + n))) (line_stable ds r q (omega (arith, size, h))) ∙ e

block_case : (c : ℕ) (u r q : List ℕ) (p : Piece) → (nat_eq c 47 && nat_eq (byte (u ++ (59 ∷ r)) 0) 42) ≡ true → block_comment (c ∷ (u ++ (59 ∷ r))) ≡ Ok p → piece_len p ≤ suc (length u) → block_comment (c ∷ (u ++ (59 ∷ q))) ≡ Ok p
block_case c [] r q p f e h = absurd (none (nat_eq c 47) f)
  where
    none : (x : Bool) → (x && false) ≡ true → ⊥
    none true e = cc
    none false e = cc
block_case c (d ∷ ds) r q p f e h = by (comment_end (ds ++ (59 ∷ r))) refl e
  where
    by : (o : Option ℕ) → comment_end (ds ++ (59 ∷ r)) ≡ o → enclosed o ≡ Ok p → enclosed (comment_end (ds ++ (59 ∷ q))) ≡ Ok p
    by None g k = absurd (none k)
      where
        none : enclosed None ≡ Ok p → ⊥
        none k = cc
    by (Some n) g k =
        let size : piece_len p ≡ n + 4 = ok_len (n + 4) p k in ap enclosed (end_stable ds r q n g (omega (arith, size, h))) ∙ k

piece_stable : (c : ℕ) (u r q : List ℕ) (p : Piece) → is_blank c ≡ false → piece (c ∷ (u ++ (59 ∷ r))) ≡ Ok p → piece_len p ≤ suc (length u) → piece (c ∷ (u ++ (59 ∷ q))) ≡ Ok p
unfolding piece
piece_stable c u r q p blank e h =
    rw (blank, semi_byte u q r) (go (nat_eq c 47 && nat_eq (byte (u ++ (59 ∷ r)) 0) 47) (nat_eq c 47 && nat_eq (byte (u ++ (59 ∷ r)) 0) 42) refl refl (simp blank at e))
  where
    go : (x y : Bool) → (nat_eq c 47 && nat_eq (byte (u ++ (59 ∷ r)) 0) 47) ≡ x → (nat_eq c 47 && nat_eq (byte (u ++ (59 ∷ r)) 0) 42) ≡ y
        → cond x (Line c (u ++ (59 ∷ r))) (cond y (block_comment (c ∷ (u ++ (59 ∷ r)))) (word_piece c (longest (c ∷ (u ++ (59 ∷ r)))))) ≡ Ok p
        → cond x (Line c (u ++ (59 ∷ q))) (cond y (block_comment (c ∷ (u ++ (59 ∷ q)))) (word_piece c (longest (c ∷ (u ++ (59 ∷ q)))))) ≡ Ok p
    go true y f g k = line_case c u r q p f k h
    go false true f g k = block_case c u r q p g k h
    go false false f g k = word_stable c u r q p k h

-- ---- Where words begin.

no_fault : (x : TextFault) (ws : List Word) → ◌≡◌ {A = Result (List Word) TextFault} (Err x) (Ok ws) → ⊥
no_fault x ws e = cc

pub record IsGapped (at : ℕ) (s : List ℕ) (ws : List Word) : Type 0 where
  pub len : ℕ
  pub found : piece s ≡ Ok (Gap len)
  pub some : 1 ≤ len
  pub inside : len ≤ length s
  pub rest : words_from 0 (at + len) (drop len s) ≡ Ok ws

pub record IsWorded (at : ℕ) (s : List ℕ) (ws : List Word) : Type 0 where
  pub kind : TokenKind
  pub len : ℕ
  pub found : piece s ≡ Ok (Found kind len)
  pub some : 1 ≤ len
  pub inside : len ≤ length s
  pub others : List Word
  pub is : word kind at (take len s) ∷ others ≡ ws
  pub rest : words_from 0 (at + len) (drop len s) ≡ Ok others

pub goes_on : (at c : ℕ) (cs : List ℕ) (ws : List Word) → words_from 0 at (c ∷ cs) ≡ Ok ws → IsGapped at (c ∷ cs) ws ⊎ IsWorded at (c ∷ cs) ws
goes_on at c cs ws h = by (piece (c ∷ cs)) refl
  where
    by : (r : Result Piece WordFault) → piece (c ∷ cs) ≡ r → IsGapped at (c ∷ cs) ws ⊎ IsWorded at (c ∷ cs) ws
    by (Err f) e = absurd (no_fault (record { kind = f; offset = at }) ws (sym (words-fault at f (c ∷ cs) e (omega arith)) ∙ h))
    by (Ok (Gap len)) e =
        let w = piece_within c cs (Gap len) e in
        inl (record { len = len; found = e; some = w.some; inside = w.within; rest = sym (words-gap at len (c ∷ cs) e w.some w.within) ∙ h })
    by (Ok (Found kind len)) e =
        let w = piece_within c cs (Found kind len) e in
        let found = behind_word (word kind at (take len (c ∷ cs))) (words_from 0 (at + len) (drop len (c ∷ cs))) ws (sym (words-word at len kind (c ∷ cs) e w.some w.within) ∙ h) in
        inr (record { kind = kind; len = len; found = e; some = w.some; inside = w.within; others = found.0; is = found.2; rest = found.1 })

pub none_start : (at p : ℕ) (ws : List Word) → words_from 0 at [] ≡ Ok ws → HasStart p ws → ⊥
none_start at p ws e h =
    let none : [] ≡ ws = same_words [] ws (sym (words-end at [] refl) ∙ e) in subst (HasStart p) (sym none) h

-- none of the words begins before the text
pub starts_low : (n at p : ℕ) (s : List ℕ) (ws : List Word) → length s ≤ n → words_from 0 at s ≡ Ok ws → HasStart p ws → at ≤ p
starts_low n at p [] ws l e h = absurd (none_start at p ws e h)
starts_low zero at p (c ∷ cs) ws l e h = absurd (omega (arith, l))
starts_low (suc n) at p (c ∷ cs) ws l e h = by (goes_on at c cs ws e) (λ a s vs l f g. starts_low n a p s vs l f g)
  where
    Rest : Type 0
    Rest = (a : ℕ) (s : List ℕ) (vs : List Word) → length s ≤ n → words_from 0 a s ≡ Ok vs → HasStart p vs → a ≤ p

    fewer : (len : ℕ) → 1 ≤ len → len ≤ length (c ∷ cs) → length (drop len (c ∷ cs)) ≤ n
    fewer len some inside = omega (arith, length-drop len (c ∷ cs), some, inside, l)

    at_word : (k : IsWorded at (c ∷ cs) ws) → Rest → (at ≡ p) ⊎ HasStart p k.others → at ≤ p
    at_word k r (inl f) = omega (arith, f)
    at_word k r (inr f) = omega (arith, r (at + k.len) (drop k.len (c ∷ cs)) k.others (fewer k.len k.some k.inside) k.rest f)

    by : IsGapped at (c ∷ cs) ws ⊎ IsWorded at (c ∷ cs) ws → Rest → at ≤ p
    by (inl k) r = omega (arith, r (at + k.len) (drop k.len (c ∷ cs)) ws (fewer k.len k.some k.inside) k.rest h)
    by (inr k) r = at_word k r (subst (HasStart p) (sym k.is) h)

-- ---- The semicolon.

-- the words in front of it, and those from it on
pub record Parted (at : ℕ) (y r : List ℕ) (ws : List Word) : Type 0 where
  pub front : List Word
  pub back : List Word
  pub parts : ws ≡ front ++ back
  pub rest : words_from 0 (at + length y) (59 ∷ r) ≡ Ok back
  pub any : (q : List ℕ) → words_from 0 at (y ++ (59 ∷ q)) ≡ behind_words front (words_from 0 (at + length y) (59 ∷ q))

longer_text : (len : ℕ) (y t : List ℕ) → len ≤ length y → len ≤ length (y ++ t)
longer_text len y t h = omega (arith, length-append y t, h)

past_part : (at len : ℕ) (y q : List ℕ) (front : List Word) → len ≤ length y → words_from 0 (at + len) (drop len y ++ (59 ∷ q)) ≡ behind_words front (words_from 0 (at + len + length (drop len y)) (59 ∷ q))
    → words_from 0 (at + len) (drop len (y ++ (59 ∷ q))) ≡ behind_words front (words_from 0 (at + length y) (59 ∷ q))
past_part at len y q front h e =
    let place : at + len + length (drop len y) ≡ at + length y = omega (arith, length-drop len y, h) in
    ap (words_from 0 (at + len)) (drop-append-le len y (59 ∷ q) h) ∙ (e ∙ ap (λ n. behind_words front (words_from 0 n (59 ∷ q))) place)

pub parted : (n at : ℕ) (y r : List ℕ) (ws : List Word) → length y ≤ n → words_from 0 at (y ++ (59 ∷ r)) ≡ Ok ws → HasStart (at + length y) ws → Parted at y r ws
parted n at [] r ws l e h =
    let place : at ≡ at + 0 = omega arith in
    record {
      front = [];
      back = ws;
      parts = refl;
      rest = sym (from_place at (at + 0) (59 ∷ r) place) ∙ e;
      any = λ q. from_place at (at + 0) (59 ∷ q) place ∙ sym (behind_none (words_from 0 (at + 0) (59 ∷ q)));
    }
parted zero at (c ∷ u) r ws l e h = absurd (omega (arith, l))
parted (suc n) at (c ∷ u) r ws l e h = by_blank (is_blank c) refl (λ a y vs l f g. parted n a y r vs l f g)
  where
    Rest : Type 0
    Rest = (a : ℕ) (z : List ℕ) (vs : List Word) → length z ≤ n → words_from 0 a (z ++ (59 ∷ r)) ≡ Ok vs → HasStart (a + length z) vs → Parted a z r vs

    placed : (a b : ℕ) (vs : List Word) → a ≡ b → HasStart a vs → HasStart b vs
    placed a b vs f g = subst (λ k. HasStart k vs) f g

    by_blank : (b : Bool) → is_blank c ≡ b → Rest → Parted at (c ∷ u) r ws
    by_blank true f rest =
        let place : at + 1 + length u ≡ at + length (c ∷ u) = omega arith in
        let k = rest (at + 1) u ws (omega (arith, l)) (sym (past_blank at c (u ++ (59 ∷ r)) f) ∙ e) (placed _ _ ws (sym place) h) in
        record {
          front = k.front;
          back = k.back;
          parts = k.parts;
          rest = sym (from_place _ _ (59 ∷ r) place) ∙ k.rest;
          any = λ q. past_blank at c (u ++ (59 ∷ q)) f ∙ (k.any q ∙ ap (λ j. behind_words k.front (words_from 0 j (59 ∷ q))) place);
        }
    by_blank false f rest = by_piece (goes_on at c (u ++ (59 ∷ r)) ws e)
      where
        -- a piece that went on over the semicolon would leave no word there
        short : (len : ℕ) (vs : List Word) → words_from 0 (at + len) (drop len (c ∷ (u ++ (59 ∷ r)))) ≡ Ok vs → HasStart (at + length (c ∷ u)) vs → len ≤ length (c ∷ u)
        short len vs g k =
            let low = starts_low (length (drop len (c ∷ (u ++ (59 ∷ r))))) (at + len) (at + length (c ∷ u)) (drop len (c ∷ (u ++ (59 ∷ r)))) vs (omega arith) g k in omega (arith, low)

        fewer : (len : ℕ) → 1 ≤ len → len ≤ length (c ∷ u) → length (drop len (c ∷ u)) ≤ n
        fewer len some inside = omega (arith, length-drop len (c ∷ u), some, inside, l)

        there : (len : ℕ) → len ≤ length (c ∷ u) → at + length (c ∷ u) ≡ at + len + length (drop len (c ∷ u))
        there len inside = omega (arith, length-drop len (c ∷ u), inside)

        by_piece : IsGapped at (c ∷ (u ++ (59 ∷ r))) ws ⊎ IsWorded at (c ∷ (u ++ (59 ∷ r))) ws → Parted at (c ∷ u) r ws
        by_piece (inl g) =
            let inside = short g.len ws g.rest h in
            let k = rest (at + g.len) (drop g.len (c ∷ u)) ws (fewer g.len g.some inside) (sym (ap (words_from 0 (at + g.len)) (drop-append-le g.len (c ∷ u) (59 ∷ r) inside)) ∙ g.rest) (placed _ _ ws (there g.len inside) h) in
            record {
              front = k.front;
              back = k.back;
              parts = k.parts;
              rest = from_place _ _ (59 ∷ r) (there g.len inside) ∙ k.rest;
              any = λ q.
                  words-gap at g.len (c ∷ (u ++ (59 ∷ q))) (piece_stable c u r q (Gap g.len) f g.found inside) g.some (longer_text g.len (c ∷ u) (59 ∷ q) inside)
                  ∙ past_part at g.len (c ∷ u) q k.front inside (k.any q);
            }
        by_piece (inr g) = at_word g (subst (HasStart (at + length (c ∷ u))) (sym g.is) h)
          where
            not_here : at ≡ at + length (c ∷ u) → ⊥
            not_here e = omega (arith, e)

            at_word : (g : IsWorded at (c ∷ (u ++ (59 ∷ r))) ws) → (at ≡ at + length (c ∷ u)) ⊎ HasStart (at + length (c ∷ u)) g.others → Parted at (c ∷ u) r ws
            at_word g (inl z) = absurd (not_here z)
            at_word g (inr z) =
                let inside = short g.len g.others g.rest z in
                let w = word g.kind at (take g.len (c ∷ (u ++ (59 ∷ r)))) in
                let k = rest (at + g.len) (drop g.len (c ∷ u)) g.others (fewer g.len g.some inside) (sym (ap (words_from 0 (at + g.len)) (drop-append-le g.len (c ∷ u) (59 ∷ r) inside)) ∙ g.rest) (placed _ _ g.others (there g.len inside) z) in
                let same : (q : List ℕ) → take g.len (c ∷ (u ++ (59 ∷ q))) ≡ take g.len (c ∷ (u ++ (59 ∷ r))) = λ q. take-append-le g.len (c ∷ u) (59 ∷ q) inside ∙ sym (take-append-le g.len (c ∷ u) (59 ∷ r) inside) in
                record {
                  front = w ∷ k.front;
                  back = k.back;
                  parts = sym g.is ∙ ap (λ vs. w ∷ vs) k.parts;
                  rest = from_place _ _ (59 ∷ r) (there g.len inside) ∙ k.rest;
                  any = λ q.
                      words-word at g.len g.kind (c ∷ (u ++ (59 ∷ q))) (piece_stable c u r q (Found g.kind g.len) f g.found inside) g.some (longer_text g.len (c ∷ u) (59 ∷ q) inside)
                      ∙ (ap (λ t. before (word g.kind at t) (words_from 0 (at + g.len) (drop g.len (c ∷ (u ++ (59 ∷ q)))))) (same q)
                      ∙ (ap (before w) (past_part at g.len (c ∷ u) q k.front inside (k.any q)) ∙ behind_one w k.front (words_from 0 (at + length (c ∷ u)) (59 ∷ q))));
                }
