-- One turn of the loop that cuts a text: where the next piece begins, and which words are known then.
use Rattle.std.proofs.Common.{◌≡◌, ℕ, ◌+◌, ◌-◌, ◌<◌, ◌≤◌, List, [], ◌∷◌, ◌++◌, length, take, take_all, drop, IsUtf8, Result, Ok, Err, sym, ◌∙◌, ap, arith, append-nil}
use Rattle.std.proofs.lemmas.List.{length-drop, drop-drop}
use Rattle.std.proofs.lemmas.Str.{IsCharBoundary-from_rest, IsUtf8-drop}
use Rattle.std.specs.Str.{IsCharBoundary}
use Rattle.rdl_text.specs.Front.{span_of}
use Rattle.rdl_text.specs.Word.{Word, word}
use Rattle.rdl_text.specs.Words.{words, words_from, piece}
use Rattle.rdl_text.specs.declared.fault.WordFault.{WordFault}
use Rattle.rdl_text.specs.declared.token.TokenKind.{TokenKind}
use Rattle.rdl_text.specs.Piece.{Piece}
use Rattle.rdl_text.specs.Piece.{Gap, Word as Found}
use Rattle.rdl_text.specs.declared.piece.Span.{Span}
use Rattle.rdl_text.specs.declared.piece.Span.TheVariants as spans
use Rattle.rdl_text.proofs.Ends.{piece_len, piece_ends}
use Rattle.rdl_text.proofs.Following.{follow, words-gap, words-word, words-fault, words-end, follow_before}

pub tail : (b text : List ℕ) (at : ℕ) → b ≡ text → take (length b - at) (drop at b) ≡ drop at text
tail b text at e = take_all (length b - at) (drop at b) (omega (arith, length-drop at b)) ∙ ap (drop at) e

-- the place behind a piece
pub record Next (text : List ℕ) (at len : ℕ) : Type 0 where
  pub some : 1 ≤ len
  pub within : at + len ≤ length text
  pub inside : len ≤ length (drop at text)
  pub boundary : IsCharBoundary text (at + len)

pub next : (text : List ℕ) (at : ℕ) (p : Piece) → IsUtf8 text → at ≤ length text → IsCharBoundary text at → piece (drop at text) ≡ Ok p → Next text at (piece_len p)
next text at p u h b e =
    let ends = piece_ends (drop at text) p (IsUtf8-drop text at u b) e in
    let boundary = IsCharBoundary-from_rest text at (piece_len p) h ends.boundary in
    record { some = ends.some; within = boundary.0; inside = ends.within; boundary = boundary }

pub step-gap : (ws : List Word) (text : List ℕ) (at len : ℕ) → piece (drop at text) ≡ Ok (Gap len) → Next text at len
    → follow ws (words_from 0 at (drop at text)) ≡ words text → follow ws (words_from 0 (at + len) (drop (at + len) text)) ≡ words text
step-gap ws text at len e n told =
    let turn = words-gap at len (drop at text) e n.some n.inside in
    let on = ap (words_from 0 (at + len)) (drop-drop len at text) in
    ap (follow ws) (sym (turn ∙ on)) ∙ told

pub step-word : (ws : List Word) (text : List ℕ) (at len : ℕ) (kind : TokenKind) → piece (drop at text) ≡ Ok (Found kind len) → Next text at len
    → follow ws (words_from 0 at (drop at text)) ≡ words text
    → follow (ws ++ (word kind at (take len (drop at text)) ∷ [])) (words_from 0 (at + len) (drop (at + len) text)) ≡ words text
step-word ws text at len kind e n told =
    let w = word kind at (take len (drop at text)) in
    let turn = words-word at len kind (drop at text) e n.some n.inside in
    let on = ap (words_from 0 (at + len)) (drop-drop len at text) in
    ap (follow (ws ++ (w ∷ []))) (sym on) ∙ (sym (follow_before ws w _) ∙ (ap (follow ws) (sym turn) ∙ told))

pub step-fault : (ws : List Word) (text : List ℕ) (at : ℕ) (kind : WordFault) → at < length text → piece (drop at text) ≡ Err kind
    → follow ws (words_from 0 at (drop at text)) ≡ words text → words text ≡ Err (record { kind = kind; offset = at })
step-fault ws text at kind h e told =
    sym told ∙ ap (follow ws) (words-fault at kind (drop at text) e (omega (arith, length-drop at text)))

pub step-end : (ws : List Word) (text : List ℕ) (at : ℕ) → length text ≤ at → follow ws (words_from 0 at (drop at text)) ≡ words text → words text ≡ Ok ws
step-end ws text at h told =
    sym told ∙ (ap (follow ws) (words-end at (drop at text) (omega (arith, length-drop at text))) ∙ ap Ok (append-nil ws))

-- ---- What a piece without the kind of its word says of the piece.

pub span_piece : (b text : List ℕ) (at : ℕ) (r : Result Span WordFault) → b ≡ text → r ≡ span_of (piece (take (length b - at) (drop at b))) → span_of (piece (drop at text)) ≡ r
span_piece b text at r e f = ap (λ (s : List ℕ). span_of (piece s)) (sym (tail b text at e)) ∙ sym f

pub span_gap : (r : Result Piece WordFault) (len : ℕ) → span_of r ≡ Ok (spans.Gap len) → r ≡ Ok (Gap len)
span_gap (Ok (Gap n)) len e = let long : n ≡ len = cc in ap (λ (k : ℕ). Ok (Gap k)) long
span_gap (Ok (Found kind n)) len e = cc
span_gap (Err fault) len e = cc

pub span_word : (r : Result Piece WordFault) (len : ℕ) → span_of r ≡ Ok (spans.Word len) → (kind : TokenKind) × (r ≡ Ok (Found kind len))
span_word (Ok (Gap n)) len e = cc
span_word (Ok (Found kind n)) len e = let long : n ≡ len = cc in (kind, ap (λ (k : ℕ). Ok (Found kind k)) long)
span_word (Err fault) len e = cc

pub span_fault : (r : Result Piece WordFault) (fault : WordFault) → span_of r ≡ Err fault → r ≡ Err fault
span_fault (Ok (Gap n)) fault e = cc
span_fault (Ok (Found kind n)) fault e = cc
span_fault (Err f) fault e = cc
