-- How the operands that are cut into words are spelled.
-- Own; the words are those of SystemRDL 2.0.
use Rattle.std.specs.Prelude.{◌≡◌, ℕ, List, [], ◌∷◌, Option, None, Some, codes}
use Rattle.rdl_tree.specs.declared.value.Value.{Value}
use Rattle.rdl_parse.specs.Spelling.{range, sizes_words, brackets_words, value_symbol}
use Rattle.rdl_parse.specs.Symbol.{Symbol, name, number}

abbrev pub SpellsNone : List Symbol → Type 0
SpellsNone ws = ws ≡ name (codes "none") ∷ []

-- no sizes are `none`, and others [number] once or more
abbrev pub SpellsDims : List Symbol → List ℕ → Type 0
SpellsDims ws [] = SpellsNone ws
SpellsDims ws (n ∷ ns) = ws ≡ sizes_words (n ∷ ns) []

abbrev pub SpellsBits : List Symbol → Option (ℕ × ℕ) → Type 0
SpellsBits ws None = SpellsNone ws
SpellsBits ws (Some bits) = ws ≡ brackets_words (range bits.0 bits.1) []

abbrev pub SpellsNumber : List Symbol → Option ℕ → Type 0
SpellsNumber ws None = SpellsNone ws
SpellsNumber ws (Some n) = ws ≡ number n ∷ []

abbrev pub SpellsValue : List Symbol → Value → Type 0
SpellsValue ws value = ws ≡ value_symbol value ∷ []
