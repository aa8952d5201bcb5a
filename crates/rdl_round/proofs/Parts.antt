-- Texts that are put together of parts, and their words as the grammar sees them.
use Rattle.std.proofs.Common.{◌≡◌, ◌≢◌, ℕ, suc, ◌+◌, ◌-◌, ◌≤◌, Bool, true, false, List, [], ◌∷◌, ◌++◌, length, take, drop, Ok, refl, sym, ap, subst, ◌∙◌, append_assoc, arith}
use Rattle.std.proofs.lemmas.List.{length-append}
use Rattle.std.proofs.lemmas.List.Sums.{prefix_len-le-length}
use Rattle.std.specs.List.{prefix_len}
use Rattle.rdl_text.specs.Joined.{quoted, mark_spelling}
use Rattle.rdl_text.specs.Name.{IsName, is_rest}
use Rattle.rdl_text.specs.Raw.{IsRaw}
use Rattle.rdl_text.specs.Rows.{byte}
use Rattle.rdl_text.specs.Word.{Word, word}
use Rattle.rdl_text.specs.Words.{words_from, before, piece, is_blank}
use Rattle.rdl_text.specs.declared.token.Mark.{Mark}
use Rattle.rdl_text.specs.declared.token.TokenKind.{TokenKind}
use Rattle.rdl_text.specs.declared.token.TokenKind.TheVariants as kinds
use Rattle.rdl_text.proofs.Following.{words-gap}
use Rattle.rdl_text.proofs.Joining.{name_is_word, quoted_is_word, mark_is_word}
use Rattle.rdl_parse.specs.Symbol.{Symbol, symbol_by, symbols, inside, text, mark}
use Rattle.rdl_round.specs.WrittenWords.{identifier_word}

-- these are the words of the text, wherever it stands
abbrev pub Cut : List ℕ → List Symbol → Type 0
Cut s ws = (at : ℕ) → (found : List Word) × (words_from 0 at s ≡ Ok found) × (symbols found ≡ ws)

-- no byte of an identifier or a number begins the text, nor the mark of a width
abbrev pub Stops : List ℕ → Type 0
Stops rest = (is_rest (byte rest 0) ≡ false) × (byte rest 0 ≢ 39)

abbrev pub Any : List ℕ → Type 0
Any rest = Unit {0}

-- the words that the part puts before those of what follows, if that is such
abbrev pub Part : (List ℕ → Type 0) → List ℕ → (List Symbol → List Symbol) → Type 0
Part P a f = (rest : List ℕ) (ws : List Symbol) → P rest → Cut rest ws → Cut (a ++ rest) (f ws)

pub join : {P Q : List ℕ → Type 0} (a b : List ℕ) (f g : List Symbol → List Symbol) → Part P a f → Part Q b g → ((rest : List ℕ) → Q rest → P (b ++ rest)) → Part Q (a ++ b) (λ ws. f (g ws))
join a b f g p q follows rest ws h c = subst (λ s. Cut s (f (g ws))) (sym (append_assoc a b rest)) (p (b ++ rest) (g ws) (follows rest h) (q rest ws h c))

pub cut-none : Cut [] []
unfolding words_from
cut-none at = ([], refl, refl)

pub cut-word : (kind : TokenKind) (source rest : List ℕ) (ws : List Symbol)
    → ((at : ℕ) → words_from 0 at (source ++ rest) ≡ before (word kind at source) (words_from 0 (at + length source) rest))
    → Cut rest ws → Cut (source ++ rest) (symbol_by kind source ∷ ws)
cut-word kind source rest ws e h at =
    let r = h (at + length source) in
    (word kind at source ∷ r.0, e at ∙ ap (before (word kind at source)) r.1, ap (λ vs. symbol_by kind source ∷ vs) r.2)

pub name-part : (n : List ℕ) → IsName n → Part Stops n (λ ws. identifier_word n ∷ ws)
name-part n h rest ws s c = cut-word kinds.Identifier n rest ws (λ at. name_is_word at n rest h s.0) c

pub mark-part : (m : Mark) → Part Any (mark_spelling m) (λ ws. mark m ∷ ws)
mark-part m rest ws s c = cut-word (kinds.Mark m) (mark_spelling m) rest ws (λ at. mark_is_word at m rest) c

pub take_front : (xs ys : List ℕ) → take (length xs) (xs ++ ys) ≡ xs
take_front [] ys = refl
take_front (x ∷ xs) ys = ap (λ (q : List ℕ). x ∷ q) (take_front xs ys)

pub inside-quoted : (t : List ℕ) → inside (quoted t) ≡ t
inside-quoted t =
    let long : length (quoted t) - 2 ≡ length t = omega (arith, length-append t (34 ∷ [])) in
    ap (λ k. take k (t ++ (34 ∷ []))) long ∙ take_front t (34 ∷ [])

pub text-part : (t : List ℕ) → IsRaw t → Part Any (quoted t) (λ ws. text t ∷ ws)
text-part t h rest ws s c =
    subst (λ i. Cut (quoted t ++ rest) (text i ∷ ws)) (inside-quoted t) (cut-word kinds.Text (quoted t) rest ws (λ at. quoted_is_word at t rest h) c)

-- ---- Blanks.

from_place : (a b : ℕ) (s : List ℕ) → a ≡ b → words_from 0 a s ≡ words_from 0 b s
from_place a b s e = ap (λ k. words_from 0 k s) e

past-by : (at c : ℕ) (cs : List ℕ) (b : Bool) → is_blank c ≡ b → words_from 0 at (c ∷ cs) ≡ words_from 0 (at + prefix_len is_blank (c ∷ cs)) (drop (prefix_len is_blank (c ∷ cs)) (c ∷ cs))
unfolding piece
past-by at c cs true e =
    let some : 1 ≤ prefix_len is_blank (c ∷ cs) = rw e (omega arith) in
    words-gap at (prefix_len is_blank (c ∷ cs)) (c ∷ cs) (rw e refl) some (prefix_len-le-length is_blank (c ∷ cs))
past-by at c cs false e = rw e (from_place at (at + 0) (c ∷ cs) (omega arith))

past-blanks : (at : ℕ) (s : List ℕ) → words_from 0 at s ≡ words_from 0 (at + prefix_len is_blank s) (drop (prefix_len is_blank s) s)
past-blanks at [] = from_place at (at + 0) [] (omega arith)
past-blanks at (c ∷ cs) = past-by at c cs (is_blank c) refl

past-blank : (at c : ℕ) (cs : List ℕ) → is_blank c ≡ true → words_from 0 at (c ∷ cs) ≡ words_from 0 (at + 1) cs
past-blank at c cs h =
    let n = prefix_len is_blank cs in
    let long : prefix_len is_blank (c ∷ cs) ≡ suc n = rw h (omega arith) in
    past-blanks at (c ∷ cs)
    ∙ ap (λ k. words_from 0 (at + k) (drop k (c ∷ cs))) long
    ∙ from_place (at + suc n) (at + 1 + n) (drop n cs) (omega arith)
    ∙ sym (past-blanks (at + 1) cs)

abbrev pub AllBlank : List ℕ → Type 0
AllBlank [] = Unit {0}
AllBlank (c ∷ cs) = (is_blank c ≡ true) × AllBlank cs

pub blank-part : (bs : List ℕ) → AllBlank bs → Part Any bs (λ ws. ws)
blank-part [] h rest ws s c = c
blank-part (b ∷ bs) h rest ws s c = λ at.
    let r = blank-part bs h.1 rest ws s c (at + 1) in
    (r.0, past-blank at b (bs ++ rest) h.0 ∙ r.1, r.2)
