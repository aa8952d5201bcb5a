-- Each word of a UTF-8 text is UTF-8.
use Rattle.std.proofs.Common.{◌≡◌, ℕ, zero, suc, ◌+◌, ◌≤◌, List, [], ◌∷◌, length, take, drop, IsUtf8, Result, Ok, Err, refl, sym, subst, arith}
use Rattle.std.proofs.lemmas.List.{length-drop}
use Rattle.std.proofs.lemmas.Str.{IsUtf8-take, IsUtf8-drop}
use Rattle.rdl_text.specs.Word.{Word, word}
use Rattle.rdl_text.specs.Words.{words, words_from, piece, before}
use Rattle.rdl_text.specs.declared.fault.WordFault.{WordFault}
use Rattle.rdl_text.specs.declared.fault.TextFault.{TextFault}
use Rattle.rdl_text.specs.Piece.{Piece}
use Rattle.rdl_text.specs.Piece.{Gap, Word as Found}
use Rattle.rdl_text.proofs.Ends.{Ends, piece_len, piece_ends}
use Rattle.rdl_text.proofs.Following.{words-gap, words-word, words-fault, words-end}

abbrev pub AreUtf8 : List Word → Type 0
AreUtf8 [] = Unit {0}
AreUtf8 (w ∷ ws) = IsUtf8 w.source × AreUtf8 ws

abbrev IfWords : Result (List Word) TextFault → Type 0
IfWords (Ok ws) = AreUtf8 ws
IfWords (Err f) = Unit {0}

before-kept : (w : Word) (r : Result (List Word) TextFault) → IsUtf8 w.source → IfWords r → IfWords (before w r)
before-kept w (Ok ws) h k = (h, k)
before-kept w (Err f) h k = tt

-- a piece, and what is found behind it
piece-kept : (at : ℕ) (s : List ℕ) (p : Piece) → piece s ≡ Ok p → IsUtf8 s → Ends s (piece_len p) → IfWords (words_from 0 (at + piece_len p) (drop (piece_len p) s)) → IfWords (words_from 0 at s)
piece-kept at s (Gap len) e u ends k = subst IfWords (sym (words-gap at len s e ends.some ends.within)) k
piece-kept at s (Found kind len) e u ends k =
    subst IfWords (sym (words-word at len kind s e ends.some ends.within))
    (before-kept (word kind at (take len s)) (words_from 0 (at + len) (drop len s)) (IsUtf8-take s len u ends.boundary) k)

-- texts of so many bytes at most
from-kept : (n at : ℕ) (s : List ℕ) → length s ≤ n → IsUtf8 s → IfWords (words_from 0 at s)
from-kept zero at [] short u = subst IfWords (sym (words-end at [] refl)) tt
from-kept zero at (c ∷ cs) short u = absurd (omega (arith, short))
from-kept (suc n) at [] short u = subst IfWords (sym (words-end at [] refl)) tt
from-kept (suc n) at (c ∷ cs) short u = by (piece (c ∷ cs)) refl (from-kept n)
  where
    by : (r : Result Piece WordFault) → piece (c ∷ cs) ≡ r → ((place : ℕ) (rest : List ℕ) → length rest ≤ n → IsUtf8 rest → IfWords (words_from 0 place rest)) → IfWords (words_from 0 at (c ∷ cs))
    by (Ok p) e others =
        let ends = piece_ends (c ∷ cs) p u e in
        let len = piece_len p in
        let fewer : length (drop len (c ∷ cs)) ≤ n = omega (arith, length-drop len (c ∷ cs), ends.some, ends.within, short) in
        piece-kept at (c ∷ cs) p e u ends (others (at + len) (drop len (c ∷ cs)) fewer (IsUtf8-drop (c ∷ cs) len u ends.boundary))
    by (Err f) e others = subst IfWords (sym (words-fault at f (c ∷ cs) e (omega arith))) tt

pub words_are_utf8 : (text : List ℕ) (ws : List Word) → words text ≡ Ok ws → IsUtf8 text → AreUtf8 ws
words_are_utf8 text ws e u = subst IfWords e (from-kept (length text) 0 text (omega arith) u)
