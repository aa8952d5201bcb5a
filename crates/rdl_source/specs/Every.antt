-- Each text that spells a map has statements.
-- own: SystemRDL 2.0 says nothing of what stands around statements.
use Rattle.std.specs.Prelude.{ℕ, List}
use Rattle.std.specs.Str.{IsUtf8}
use Rattle.rdl_text.specs.Word.{Word}
use Rattle.rdl_tree.specs.Items.{Items}
use Rattle.rdl_parse.specs.Parsing.{HasWords, SpellsText}
use Rattle.rdl_parse.specs.Places.{Located}
use Rattle.rdl_source.specs.Laid.{Laid}
use Rattle.rdl_source.specs.LaidOut.{IsLaidOut}

abbrev pub EveryMapIsLaidOut : Type 0
EveryMapIsLaidOut =
    (source : List ℕ) (ws : List Word) (d : Items) (p : Located) → IsUtf8 source → HasWords source ws → SpellsText source d p → (laid : Laid) × IsLaidOut source ws p.places laid
