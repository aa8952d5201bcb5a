-- Rows that are kept from one `list` to the next, and to the header. Own.
use Rattle.std.specs.Prelude.{◌≡◌, List, Option, None, Some, Ok}
use Rattle.journal_core.specs.History.{IsAt}
use Rattle.rdl_edit.specs.Step.{State}
use Rattle.rdl_elab.specs.Faults.{elaborated}
use Rattle.rdl_elab.specs.declared.row.Row.{Row}
use Rattle.rdl_run.specs.Answers.{History'}

-- if rows are there, they are those of this map
abbrev pub AreOf : State → Option (List Row) → Type 0
AreOf now None = Unit {0}
AreOf now (Some rows) = elaborated now.description now.option ≡ Ok rows

-- if rows are there, they are those of the map at the place
abbrev pub AreAt : History' → Option (List Row) → Type 0
AreAt h rows = (now : State) → IsAt h now → AreOf now rows
