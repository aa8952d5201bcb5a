-- A text that says of a map all that a longer one says.
-- own: SystemRDL 2.0 says nothing of texts that spell the same.
use Rattle.std.specs.Prelude.{◌≡◌, ◌≤◌, ℕ, List, length, Ok}
use Rattle.rdl_text.specs.Word.{Word}
use Rattle.rdl_text.specs.Words.{words}
use Rattle.rdl_parse.specs.Faults.{max_text}
use Rattle.rdl_weave.specs.Spelled.{SpellsAs}

-- the text is whole words, blanks and comments
abbrev pub HasOnlyWords : List ℕ → Type 0
HasOnlyWords text = (ws : List Word) × (words text ≡ Ok ws)

-- what a thin text spells, the text spells, too
abbrev pub SaysAll : (thin text : List ℕ) → Type 0
SaysAll thin text = (canonical : List ℕ) → length text ≤ max_text → SpellsAs canonical thin → SpellsAs canonical text
