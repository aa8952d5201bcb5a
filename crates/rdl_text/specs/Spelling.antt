-- What the spelling of a word of each kind is.
-- SystemRDL 2.0, lexical conventions, identifiers and strings.
use Rattle.std.specs.Prelude.{ℕ, ◌≡◌, List, [], ◌∷◌, ◌++◌}
use Rattle.rdl_text.specs.Name.{IsName}
use Rattle.rdl_text.specs.Raw.{IsRaw}
use Rattle.rdl_text.specs.declared.token.TokenKind.{TokenKind}
use Rattle.rdl_text.specs.declared.token.TokenKind.TheVariants.{Identifier, Number, Text, Mark}

-- a string with this inside between its quotes
pub record IsQuoted (source inside : List ℕ) : Type 0 where
  pub quoted : source ≡ 34 ∷ (inside ++ (34 ∷ []))
  pub raw : IsRaw inside

-- identifiers are names, and strings stand between quotes
abbrev pub IsSpelled : TokenKind → List ℕ → Type 0
IsSpelled Identifier source = IsName source
IsSpelled Text source = (inside : List ℕ) × IsQuoted source inside
IsSpelled (Number value) source = Unit {0}
IsSpelled (Mark mark) source = Unit {0}
