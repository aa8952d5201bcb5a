-- Words, and what follows them: one piece of a text after another.
use Rattle.std.proofs.Common.{◌≡◌, ℕ, zero, suc, ◌+◌, ◌-◌, ◌≤◌, List, [], ◌∷◌, ◌++◌, length, take, drop, Result, Ok, Err, refl, sym, ◌∙◌, ap, append_assoc, arith}
use Rattle.rdl_text.specs.Word.{Word, word}
use Rattle.rdl_text.specs.Words.{words_from, piece, before}
use Rattle.rdl_text.specs.declared.fault.WordFault.{WordFault}
use Rattle.rdl_text.specs.declared.fault.TextFault.{TextFault}
use Rattle.rdl_text.specs.declared.token.TokenKind.{TokenKind}
use Rattle.rdl_text.specs.Piece.{Gap, Word as Found}

-- words that were found, and what is found behind them
abbrev pub follow : List Word → Result (List Word) TextFault → Result (List Word) TextFault
follow ws (Ok vs) = Ok (ws ++ vs)
follow ws (Err f) = Err f

pub follow_none : (r : Result (List Word) TextFault) → follow [] r ≡ r
follow_none (Ok ws) = refl
follow_none (Err f) = refl

pub follow_before : (ws : List Word) (w : Word) (r : Result (List Word) TextFault) → follow ws (before w r) ≡ follow (ws ++ (w ∷ [])) r
follow_before ws w (Ok vs) = ap Ok (sym (append_assoc ws (w ∷ []) vs))
follow_before ws w (Err f) = refl

from_place : (a b : ℕ) (s : List ℕ) → a ≡ b → words_from 0 a s ≡ words_from 0 b s
from_place a b s e = ap (λ k. words_from 0 k s) e

pub skip_words : (k at : ℕ) (s : List ℕ) → words_from k at s ≡ words_from 0 (at + k) (drop k s)
unfolding words_from
skip_words zero at s = from_place at (at + 0) s (omega arith)
skip_words (suc k) at [] = refl
skip_words (suc k) at (c ∷ cs) = skip_words k (at + 1) cs ∙ from_place (at + 1 + k) (at + suc k) (drop k cs) (omega arith)

-- the bytes of a piece that begins with one byte
past_piece : (n at : ℕ) (cs : List ℕ) → words_from (suc n - 1) (at + 1) cs ≡ words_from 0 (at + suc n) (drop n cs)
past_piece n at cs =
    let one : suc n - 1 ≡ n = omega arith in
    ap (λ k. words_from k (at + 1) cs) one ∙ (skip_words n (at + 1) cs ∙ from_place (at + 1 + n) (at + suc n) (drop n cs) (omega arith))

pub words-gap : (at len : ℕ) (s : List ℕ) → piece s ≡ Ok (Gap len) → 1 ≤ len → len ≤ length s → words_from 0 at s ≡ words_from 0 (at + len) (drop len s)
unfolding words_from
words-gap at zero s e low high = absurd (omega arith)
words-gap at (suc n) [] e low high = absurd (omega arith)
words-gap at (suc n) (c ∷ cs) e low high = rw (e, words_from) (past_piece n at cs)

pub words-word : (at len : ℕ) (kind : TokenKind) (s : List ℕ) → piece s ≡ Ok (Found kind len) → 1 ≤ len → len ≤ length s
    → words_from 0 at s ≡ before (word kind at (take len s)) (words_from 0 (at + len) (drop len s))
unfolding words_from
words-word at zero kind s e low high = absurd (omega arith)
words-word at (suc n) kind [] e low high = absurd (omega arith)
words-word at (suc n) kind (c ∷ cs) e low high = rw (e, words_from) (ap (before (word kind at (take (suc n) (c ∷ cs)))) (past_piece n at cs))

pub words-fault : (at : ℕ) (kind : WordFault) (s : List ℕ) → piece s ≡ Err kind → 1 ≤ length s → words_from 0 at s ≡ Err (record { kind = kind; offset = at })
unfolding words_from
words-fault at kind [] e some = absurd (omega arith)
words-fault at kind (c ∷ cs) e some = rw (e, words_from) refl

pub words-end : (at : ℕ) (s : List ℕ) → length s ≡ 0 → words_from 0 at s ≡ Ok []
unfolding words_from
words-end at [] e = refl
words-end at (c ∷ cs) e = absurd (omega arith)
