-- A word of a text, as a contract sees it. SystemRDL 2.0, lexical conventions.
use Rattle.std.specs.Prelude.{ℕ, List}
use Rattle.rdl_text.specs.declared.token.TokenKind.{TokenKind}

-- its kind, the byte at which it begins, and its spelling
pub record Word : Type 0 where
  pub kind : TokenKind
  pub start : ℕ
  pub source : List ℕ

abbrev pub word : TokenKind → (start : ℕ) → (source : List ℕ) → Word
word kind start source = record { kind = kind; start = start; source = source }
