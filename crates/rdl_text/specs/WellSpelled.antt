-- Words that are spelled as words of their kind, with numbers that have the bits of a number.
-- SystemRDL 2.0, lexical conventions; the limit of 128 bits is own.
use Rattle.std.specs.Prelude.{◌≡◌, ℕ, ◌<◌, ◌^◌, List, [], ◌∷◌, Ok}
use Rattle.rdl_text.specs.Number.{number_bits}
use Rattle.rdl_text.specs.Spelling.{IsSpelled}
use Rattle.rdl_text.specs.Word.{Word}
use Rattle.rdl_text.specs.Words.{words}
use Rattle.rdl_text.specs.declared.token.TokenKind.{TokenKind}
use Rattle.rdl_text.specs.declared.token.TokenKind.TheVariants.{Identifier, Number, Text, Mark}

abbrev pub IsBounded : TokenKind → Type 0
IsBounded Identifier = Unit {0}
IsBounded (Number value) = value < 2 ^ number_bits
IsBounded Text = Unit {0}
IsBounded (Mark mark) = Unit {0}

abbrev pub AreWellSpelled : List Word → Type 0
AreWellSpelled [] = Unit {0}
AreWellSpelled (w ∷ ws) = (IsSpelled w.kind w.source × IsBounded w.kind) × AreWellSpelled ws

-- so is each word of a text
abbrev pub WordsAreWellSpelled : Type 0
WordsAreWellSpelled = (text : List ℕ) (ws : List Word) → words text ≡ Ok ws → AreWellSpelled ws
