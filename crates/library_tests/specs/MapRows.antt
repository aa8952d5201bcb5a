-- What a text's map is: its rows under its last address map, or its first fault.
-- own: the definitions of two layers, one behind the other.
use Rattle.std.specs.Prelude.{◌≡◌, ◌⊎◌, ℕ, List, None, Result, Err}
use Rattle.rdl_tree.specs.Items.{Items}
use Rattle.rdl_tree.specs.declared.fault.Fault.{Fault}
use Rattle.rdl_parse.specs.Parsing.{SpellsText}
use Rattle.rdl_parse.specs.Places.{Located}
use Rattle.rdl_scope.specs.ItemFaults.{out_of_memory}
use Rattle.rdl_elab.specs.declared.row.Row.{Row}
use Rattle.rdl_elab.specs.Faults.{elaborated}

-- the text spells a map, and this is what it is, or memory ran out
pub record IsAnswerFor (text : List ℕ) (answer : Result (List Row) Fault) : Type 0 where
  pub description : Items
  pub places : Located
  pub spelled : SpellsText text description places
  pub answered : (elaborated description None ≡ answer) ⊎ (answer ≡ Err out_of_memory)
