-- What a text begins with, as the definition of words has it.
-- SystemRDL 2.0, lexical conventions.
use Rattle.std.specs.Prelude.{ℕ, Result}
use Rattle.rdl_text.specs.declared.fault.WordFault.{WordFault}
use Rattle.rdl_text.specs.declared.token.TokenKind.{TokenKind}

-- a word of so many bytes, and what it is or why it is refused
pub record Candidate : Type 0 where
  pub len : ℕ
  pub kind : Result TokenKind WordFault

pub data Piece : Type 0 where
  -- blanks or a comment, of so many bytes
  Gap : ℕ → Piece
  -- a word of so many bytes
  Word : TokenKind → ℕ → Piece
