-- What a woven text is to its source.
-- own: SystemRDL 2.0 has no edits.
use Rattle.std.specs.Prelude.{◌≡◌, ◌⊎◌, ◌+◌, ◌<◌, ℕ, List, length}
use Rattle.rdl_text.specs.Word.{Word}
use Rattle.rdl_tree.specs.Items.{Items}
use Rattle.rdl_parse.specs.Faults.{max_text}
use Rattle.rdl_parse.specs.Parsing.{HasWords, SpellsText}
use Rattle.rdl_parse.specs.Places.{Located}
use Rattle.rdl_source.specs.Laid.{Laid}
use Rattle.rdl_source.specs.LaidOut.{IsLaidOut}
use Rattle.rdl_origin.specs.Traces.{Traces}
use Rattle.rdl_origin.specs.View.{list_of}
use Rattle.rdl_weave.specs.Coarse.{text_of, coarse}
use Rattle.rdl_weave.specs.InTurn.{KeepsOrder}
use Rattle.rdl_weave.specs.Keeping.{Keeps}
use Rattle.rdl_weave.specs.Untouched.{sizes_of}

-- these are the statements of the text, which spells a map
pub record AreStatements (text : List ℕ) (laid : Laid) : Type 0 where
  pub words : List Word
  pub map : Items
  pub places : Located
  pub has_words : HasWords text words
  pub spelled : SpellsText text map places
  pub laid_out : IsLaidOut text words places.places laid

-- The text keeps what no edit touched of the source, of whose map the items became these of the last map; and it keeps the order, or is
-- the text that is put together item by item.
pub record IsWoven (source : List ℕ) (origins : Traces) (last : Items) (text : List ℕ) : Type 0 where
  pub laid : Laid
  pub statements : AreStatements source laid
  pub keeps : Keeps source (sizes_of last) text laid (list_of origins)
  pub order : KeepsOrder source (sizes_of last) text laid (list_of origins) ⊎ (text ≡ text_of source (coarse source (sizes_of last) laid origins last))

-- the text that is put together item by item is longer than a text may be
pub record IsTooLong (source : List ℕ) (origins : Traces) (last : Items) : Type 0 where
  pub laid : Laid
  pub statements : AreStatements source laid
  pub long : max_text < length (text_of source (coarse source (sizes_of last) laid origins last))

-- a text is too long only where this is so, or the source and the canonical text together are longer than a text may be
abbrev pub MayBeTooLong : (source : List ℕ) → (origins : Traces) → (last : Items) → (canonical : List ℕ) → Type 0
MayBeTooLong source origins last canonical = (max_text < length source + length canonical) ⊎ IsTooLong source origins last
