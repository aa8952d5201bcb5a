-- The words of a text from one on, and which of them are semicolons and braces.
use Rattle.std.proofs.Common.{◌≡◌, ℕ, zero, suc, ◌+◌, ◌-◌, ◌<◌, ◌≤◌, Bool, true, false, cond, List, [], ◌∷◌, length, take, drop, Option, Some, None, Result, Ok, Err, inl, inr, ◌⊎◌, refl, sym, ◌∙◌, ap, subst, arith}
use Rattle.std.proofs.lemmas.Bool.{eqb-true}
use Rattle.std.proofs.lemmas.List.{length-drop}
use Rattle.std.specs.Option.{option_and_then}
use Rattle.std.specs.Prelude.{nat_eq}
use Rattle.rdl_text.specs.Rows.{byte, short_mark, long_mark}
use Rattle.rdl_text.specs.Standing.{kind_mark}
use Rattle.rdl_text.specs.Word.{Word, word}
use Rattle.rdl_text.specs.Words.{words_from, before, mark as mark_word, piece, word_piece}
use Rattle.rdl_text.specs.Piece.{Word as Found}
use Rattle.rdl_text.specs.declared.fault.TextFault.{TextFault}
use Rattle.rdl_text.specs.declared.token.Mark.{Mark}
use Rattle.rdl_text.specs.declared.token.Mark.TheVariants.{OpenBrace, CloseBrace, Semicolon, PlusEquals, PercentEquals, Arrow}
use Rattle.rdl_text.specs.declared.token.TokenKind.{TokenKind}
use Rattle.rdl_text.specs.declared.token.TokenKind.TheVariants as kinds
use Rattle.rdl_text.proofs.Following.{words-word, words-end}
use Rattle.rdl_text.proofs.Longest.{longest_other}
use Rattle.rdl_text.proofs.Standing.{mark_found, either}
use Rattle.rdl_parse.specs.Class.{class}
use Rattle.rdl_parse.specs.Symbol.{Symbol, mark, symbol, symbol_by, class_symbol}
use Rattle.rdl_parse.specs.declared.class.Class.{Class}
use Rattle.rdl_parse.specs.declared.class.Class.TheVariants as classes
use Rattle.rdl_source.specs.Beside.{HasStart}
use Rattle.rdl_source.specs.LaidOut.{start_at}
use Rattle.rdl_source.proofs.Beside.{same_words}
use Rattle.rdl_source.proofs.Semis.{IsGapped, IsWorded, goes_on}
use Rattle.rdl_source.proofs.Silence.{byte_past, drop_drop}

-- ---- Semicolons and braces.

abbrev pub stop_of : Mark → Option Mark
stop_of Semicolon = Some Semicolon
stop_of OpenBrace = Some OpenBrace
stop_of CloseBrace = Some CloseBrace
stop_of m = None

abbrev pub byte_stop : ℕ → Option Mark
byte_stop c = cond (nat_eq c 59) (Some Semicolon) (cond (nat_eq c 123) (Some OpenBrace) (cond (nat_eq c 125) (Some CloseBrace) None))

abbrev pub symbol_stop : Symbol → Option Mark
symbol_stop (mark m) = stop_of m
symbol_stop s = None

abbrev Same : ℕ → ℕ → Type 0
Same c d = byte_stop c ≡ option_and_then stop_of (either (long_mark c d) (short_mark c))

test : (c d k : ℕ) → Same k d → (nat_eq c k ≡ false → Same c d) → Same c d
test c d k h f = by (nat_eq c k) refl
  where
    by : (b : Bool) → nat_eq c k ≡ b → Same c d
    by true e = subst (λ x. Same x d) (sym (eqb-true c k e)) h
    by false e = f e

no_stop : (c d : ℕ) → nat_eq c 59 ≡ false → nat_eq c 123 ≡ false → nat_eq c 125 ≡ false → nat_eq c 91 ≡ false → nat_eq c 93 ≡ false → nat_eq c 58 ≡ false → nat_eq c 44 ≡ false → nat_eq c 46 ≡ false → nat_eq c 61 ≡ false
    → nat_eq c 64 ≡ false → nat_eq c 43 ≡ false → nat_eq c 37 ≡ false → nat_eq c 45 ≡ false → Same c d
no_stop c d a b e f g h i j k l m n o = rw (a, b, e, f, g, h, i, j, k, l, m, n, o) refl

same_plus : (d : ℕ) → Same 43 d
same_plus d = by (nat_eq d 61)
  where
    by : (b : Bool) → None ≡ option_and_then stop_of (either (cond b (Some PlusEquals) None) None)
    by true = refl
    by false = refl

same_percent : (d : ℕ) → Same 37 d
same_percent d = by (nat_eq d 61)
  where
    by : (b : Bool) → None ≡ option_and_then stop_of (either (cond b (Some PercentEquals) None) None)
    by true = refl
    by false = refl

same_arrow : (d : ℕ) → Same 45 d
same_arrow d = by (nat_eq d 62)
  where
    by : (b : Bool) → None ≡ option_and_then stop_of (either (cond b (Some Arrow) None) None)
    by true = refl
    by false = refl

stop_same : (c d : ℕ) → byte_stop c ≡ option_and_then stop_of (either (long_mark c d) (short_mark c))
stop_same c d =
    test c d 59 refl (λ a. test c d 123 refl (λ b. test c d 125 refl (λ e. test c d 91 refl (λ f. test c d 93 refl (λ g. test c d 58 refl (λ h. test c d 44 refl (λ i. test c d 46 refl
    (λ j. test c d 61 refl (λ k. test c d 64 refl (λ l. test c d 43 (same_plus d) (λ m. test c d 37 (same_percent d) (λ n. test c d 45 (same_arrow d) (λ o. no_stop c d a b e f g h i j k l m n o)))))))))))))

class_stop : (k : Class) (n : List ℕ) → symbol_stop (class_symbol k n) ≡ None
class_stop (classes.Kind k) n = refl
class_stop (classes.Outside o) n = refl
class_stop classes.Default n = refl
class_stop (classes.Truth b) n = refl
class_stop (classes.Property p) n = refl
class_stop (classes.Word w) n = refl
class_stop classes.Reserved n = refl
class_stop classes.Name n = refl

kind_stop : (k : TokenKind) (s : List ℕ) → symbol_stop (symbol_by k s) ≡ option_and_then stop_of (kind_mark k)
kind_stop kinds.Identifier s = class_stop (class s) s
kind_stop (kinds.Number n) s = refl
kind_stop kinds.Text s = refl
kind_stop (kinds.Mark m) s = refl

-- a word's first byte says whether it is one of them
abbrev pub IsMarked : List ℕ → Word → Type 0
IsMarked source w = byte_stop (byte source w.start) ≡ symbol_stop (symbol w)

abbrev pub AreMarked : List ℕ → List Word → Type 0
AreMarked source [] = Unit {0}
AreMarked source (w ∷ ws) = IsMarked source w × AreMarked source ws

marked_word : (source : List ℕ) (at len : ℕ) (s : List ℕ) (kind : TokenKind) → drop at source ≡ s → piece s ≡ Ok (Found kind len) → IsMarked source (word kind at (take len s))
marked_word source at len s kind d e =
    let none : at ≡ at + 0 = omega arith in
    let here : byte source at ≡ byte s 0 = ap (byte source) none ∙ byte_past source at s 0 d in
    ap byte_stop here ∙ (stop_same (byte s 0) (byte s 1) ∙ (ap (option_and_then stop_of) (sym (mark_found s kind len e)) ∙ sym (kind_stop kind (take len s))))

further : (source : List ℕ) (at len : ℕ) (s : List ℕ) → drop at source ≡ s → drop (at + len) source ≡ drop len s
further source at len s d = sym (drop_drop source at len) ∙ ap (drop len) d

pub all_marked : (n : ℕ) (source : List ℕ) (at : ℕ) (s : List ℕ) (ws : List Word) → length s ≤ n → drop at source ≡ s → words_from 0 at s ≡ Ok ws → AreMarked source ws
all_marked n source at [] ws l d h = let none : [] ≡ ws = same_words [] ws (sym (words-end at [] refl) ∙ h) in subst (AreMarked source) none tt
all_marked zero source at (c ∷ cs) ws l d h = absurd (omega (arith, l))
all_marked (suc n) source at (c ∷ cs) ws l d h = by (goes_on at c cs ws h) (λ a s vs m e f. all_marked n source a s vs m e f)
  where
    Rest : Type 0
    Rest = (a : ℕ) (s : List ℕ) (vs : List Word) → length s ≤ n → drop a source ≡ s → words_from 0 a s ≡ Ok vs → AreMarked source vs

    by : IsGapped at (c ∷ cs) ws ⊎ IsWorded at (c ∷ cs) ws → Rest → AreMarked source ws
    by (inl k) r = r (at + k.len) (drop k.len (c ∷ cs)) ws (omega (arith, length-drop k.len (c ∷ cs), k.some, k.inside, l)) (further source at k.len (c ∷ cs) d) k.rest
    by (inr k) r =
        subst (AreMarked source) k.is (
          marked_word source at k.len (c ∷ cs) k.kind d k.found,
          r (at + k.len) (drop k.len (c ∷ cs)) k.others (omega (arith, length-drop k.len (c ∷ cs), k.some, k.inside, l)) (further source at k.len (c ∷ cs) d) k.rest,
        )

-- ---- The words from one on.

start_cons : (w : Word) (ws : List Word) (b : ℕ) → start_at (w ∷ ws) 0 ≡ Some b → w.start ≡ b
start_cons w ws b e = cc

no_start : (i b : ℕ) → start_at [] i ≡ Some b → ⊥
no_start zero b e = cc
no_start (suc i) b e = cc

pub words_at : (n : ℕ) (source : List ℕ) (at : ℕ) (s : List ℕ) (ws : List Word) (i b : ℕ) → length s ≤ n → drop at source ≡ s → words_from 0 at s ≡ Ok ws → start_at ws i ≡ Some b → words_from 0 b (drop b source) ≡ Ok (drop i ws)
words_at n source at [] ws i b l d h e =
    let none : [] ≡ ws = same_words [] ws (sym (words-end at [] refl) ∙ h) in absurd (no_start i b (ap (λ vs. start_at vs i) none ∙ e))
words_at zero source at (c ∷ cs) ws i b l d h e = absurd (omega (arith, l))
words_at (suc n) source at (c ∷ cs) ws i b l d h e = by (goes_on at c cs ws h) (λ a s vs j m f g k. words_at n source a s vs j b m f g k)
  where
    Rest : Type 0
    Rest = (a : ℕ) (s : List ℕ) (vs : List Word) (j : ℕ) → length s ≤ n → drop a source ≡ s → words_from 0 a s ≡ Ok vs → start_at vs j ≡ Some b → words_from 0 b (drop b source) ≡ Ok (drop j vs)

    -- the first of them, or one behind it
    one : (w : Word) (vs : List Word) (j : ℕ) → w ∷ vs ≡ ws → start_at (w ∷ vs) j ≡ Some b → w.start ≡ at → ((k : ℕ) → start_at vs k ≡ Some b → words_from 0 b (drop b source) ≡ Ok (drop k vs)) → words_from 0 b (drop b source) ≡ Ok (drop j (w ∷ vs))
    one w vs zero f g k r =
        let place : at ≡ b = sym k ∙ start_cons w vs b g in
        subst (λ p. words_from 0 p (drop p source) ≡ Ok (w ∷ vs)) place (ap (words_from 0 at) d ∙ (h ∙ ap Ok (sym f)))
    one w vs (suc j) f g k r = r j g

    by : IsGapped at (c ∷ cs) ws ⊎ IsWorded at (c ∷ cs) ws → Rest → words_from 0 b (drop b source) ≡ Ok (drop i ws)
    by (inl k) r = r (at + k.len) (drop k.len (c ∷ cs)) ws i (omega (arith, length-drop k.len (c ∷ cs), k.some, k.inside, l)) (further source at k.len (c ∷ cs) d) k.rest e
    by (inr k) r =
        let w = word k.kind at (take k.len (c ∷ cs)) in
        one w k.others i k.is (ap (λ vs. start_at vs i) k.is ∙ e) refl
        (λ j f. r (at + k.len) (drop k.len (c ∷ cs)) k.others j (omega (arith, length-drop k.len (c ∷ cs), k.some, k.inside, l)) (further source at k.len (c ∷ cs) d) k.rest f)
        ∙ ap (λ vs. Ok (drop i vs)) k.is

-- ---- A semicolon, or a brace, and the words behind it.

semi_piece : (r : List ℕ) → piece (59 ∷ r) ≡ Ok (Found (kinds.Mark Semicolon) 1)
unfolding piece mark_word
semi_piece r = ap (word_piece 59) (sym (longest_other (59 ∷ r) refl refl (λ e. not e)))
  where
    not : ◌≡◌ {A = ℕ} 59 34 → ⊥
    not e = omega (arith, e)

brace_piece : (r : List ℕ) → piece (123 ∷ r) ≡ Ok (Found (kinds.Mark OpenBrace) 1)
unfolding piece mark_word
brace_piece r = ap (word_piece 123) (sym (longest_other (123 ∷ r) refl refl (λ e. not e)))
  where
    not : ◌≡◌ {A = ℕ} 123 34 → ⊥
    not e = omega (arith, e)

pub semi_word : (at : ℕ) (r : List ℕ) → words_from 0 at (59 ∷ r) ≡ before (word (kinds.Mark Semicolon) at (59 ∷ [])) (words_from 0 (at + 1) r)
semi_word at r = words-word at 1 (kinds.Mark Semicolon) (59 ∷ r) (semi_piece r) (omega arith) (omega arith)

brace_word : (at : ℕ) (r : List ℕ) → words_from 0 at (123 ∷ r) ≡ before (word (kinds.Mark OpenBrace) at (123 ∷ [])) (words_from 0 (at + 1) r)
brace_word at r = words-word at 1 (kinds.Mark OpenBrace) (123 ∷ r) (brace_piece r) (omega arith) (omega arith)

-- behind a word that is one byte
behind_first : (w : Word) (r : Result (List Word) TextFault) (ws : List Word) (k : ℕ) → before w r ≡ Ok (drop k ws) → r ≡ Ok (drop (k + 1) ws)
behind_first w (Ok vs) ws k e = let next : k + 1 ≡ suc k = omega arith in ap Ok (tail_of ws k (same_words (w ∷ vs) (drop k ws) e) ∙ ap (λ j. drop j ws) (sym next))
  where
    tail_of : (ws : List Word) (k : ℕ) → w ∷ vs ≡ drop k ws → vs ≡ drop (suc k) ws
    tail_of [] zero e = cc
    tail_of [] (suc k) e = cc
    tail_of (x ∷ ws) zero e = cc
    tail_of (x ∷ ws) (suc k) e = tail_of ws k e
behind_first w (Err f) ws k e = cc

drop_byte : (s : List ℕ) (n c : ℕ) → n < length s → byte s n ≡ c → drop n s ≡ c ∷ drop (n + 1) s
drop_byte [] n c h e = absurd (omega (arith, h))
drop_byte (x ∷ s) zero c h e = let same : x ≡ c = e in let one : 0 + 1 ≡ 1 = omega arith in ap (λ y. y ∷ s) same
drop_byte (x ∷ s) (suc n) c h e =
    let next : suc n + 1 ≡ suc (n + 1) = omega arith in drop_byte s n c (omega (arith, h)) e ∙ ap (λ k. c ∷ drop k (x ∷ s)) (sym next)

pub behind_semi : (source : List ℕ) (ws : List Word) (k b : ℕ) → b < length source → byte source b ≡ 59 → words_from 0 b (drop b source) ≡ Ok (drop k ws) → words_from 0 (b + 1) (drop (b + 1) source) ≡ Ok (drop (k + 1) ws)
behind_semi source ws k b l e h =
    behind_first (word (kinds.Mark Semicolon) b (59 ∷ [])) (words_from 0 (b + 1) (drop (b + 1) source)) ws k
    (sym (semi_word b (drop (b + 1) source)) ∙ (ap (words_from 0 b) (sym (drop_byte source b 59 l e)) ∙ h))

pub behind_brace : (source : List ℕ) (ws : List Word) (k b : ℕ) → b < length source → byte source b ≡ 123 → words_from 0 b (drop b source) ≡ Ok (drop k ws) → words_from 0 (b + 1) (drop (b + 1) source) ≡ Ok (drop (k + 1) ws)
behind_brace source ws k b l e h =
    behind_first (word (kinds.Mark OpenBrace) b (123 ∷ [])) (words_from 0 (b + 1) (drop (b + 1) source)) ws k
    (sym (brace_word b (drop (b + 1) source)) ∙ (ap (words_from 0 b) (sym (drop_byte source b 123 l e)) ∙ h))

pub whole_drop : (s : List ℕ) (n c : ℕ) → n < length s → byte s n ≡ c → drop n s ≡ c ∷ drop (n + 1) s
whole_drop s n c h e = drop_byte s n c h e

pub has_start : (ws : List Word) (i b : ℕ) → start_at ws i ≡ Some b → HasStart b ws
has_start [] i b e = absurd (no_start i b e)
has_start (w ∷ ws) zero b e = inl (start_cons w ws b e)
has_start (w ∷ ws) (suc i) b e = inr (has_start ws i b e)

pub start_drop : (ws : List Word) (k i b : ℕ) → start_at ws (k + i) ≡ Some b → start_at (drop k ws) i ≡ Some b
start_drop ws zero i b e = let none : zero + i ≡ i = omega arith in ap (start_at ws) (sym none) ∙ e
start_drop [] (suc k) i b e = absurd (no_start (suc k + i) b e)
start_drop (w ∷ ws) (suc k) i b e = let next : suc k + i ≡ suc (k + i) = omega arith in start_drop ws k i b (ap (start_at (w ∷ ws)) (sym next) ∙ e)

pub start_later : (ws : List Word) (k j b : ℕ) → k ≤ j → start_at ws j ≡ Some b → start_at (drop k ws) (j - k) ≡ Some b
start_later ws k j b h e = let same : j ≡ k + (j - k) = omega (arith, h) in start_drop ws k (j - k) b (ap (start_at ws) (sym same) ∙ e)

pub marked_drop : (source : List ℕ) (ws : List Word) (k : ℕ) → AreMarked source ws → AreMarked source (drop k ws)
marked_drop source ws zero m = m
marked_drop source [] (suc k) m = m
marked_drop source (w ∷ ws) (suc k) m = marked_drop source ws k m.1
