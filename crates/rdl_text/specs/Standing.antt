-- The word that stands at a place of a text, and where words begin.
-- SystemRDL 2.0, lexical conventions.
use Rattle.std.specs.Prelude.{◌≡◌, ℕ, ◌≤◌, List, [], ◌∷◌, length, take, drop, Option, Some, None, Result, Ok, Err}
use Rattle.std.specs.Str.{IsCharBoundary}
use Rattle.rdl_text.specs.Word.{Word, word}
use Rattle.rdl_text.specs.Words.{piece}
use Rattle.rdl_text.specs.declared.fault.WordFault.{WordFault}
use Rattle.rdl_text.specs.Piece.{Piece}
use Rattle.rdl_text.specs.Piece as pieces
use Rattle.rdl_text.specs.declared.token.Mark.{Mark}
use Rattle.rdl_text.specs.declared.token.TokenKind.{TokenKind}
use Rattle.rdl_text.specs.declared.token.TokenKind.TheVariants as kinds

-- the word that is the piece at a place; a gap or a fault is none, and counts as one without bytes
abbrev pub word_of : (at : ℕ) → (rest : List ℕ) → Result Piece WordFault → Word
word_of at rest (Ok (pieces.Word kind len)) = word kind at (take len rest)
word_of at rest (Ok (pieces.Gap len)) = word kinds.Text at []
word_of at rest (Err fault) = word kinds.Text at []

-- the word at a place
unfoldable pub word_at : (text : List ℕ) → (at : ℕ) → Word
word_at text at = word_of at (drop at text) (piece (drop at text))

-- a word stands at a place, between two characters of the text
pub record Stands (text : List ℕ) (at : ℕ) : Type 0 where
  pub kind : TokenKind
  pub len : ℕ
  pub found : piece (drop at text) ≡ Ok (pieces.Word kind len)
  pub within : at ≤ length text
  pub boundary : IsCharBoundary text at

-- the mark that a word of a kind is
abbrev pub kind_mark : TokenKind → Option Mark
kind_mark kinds.Identifier = None
kind_mark (kinds.Number value) = None
kind_mark kinds.Text = None
kind_mark (kinds.Mark mark) = Some mark

-- the mark that the first of some words is
abbrev pub first_mark : List Word → Option Mark
first_mark [] = None
first_mark (w ∷ ws) = kind_mark w.kind
