-- The rows of a map or a session that is opened, at its place. Own.
use Rattle.std.specs.Prelude.{◌≡◌, ℕ, List, Option, Ok}
use Rattle.journal_core.specs.History.{IsAt}
use Rattle.rdl_edit.specs.Step.{State}
use Rattle.rdl_elab.specs.Faults.{elaborated}
use Rattle.rdl_elab.specs.declared.row.Row.{Row}
use Rattle.rdl_run.specs.Answers.{History'}
use Rattle.rdl_run.specs.Opening.{OpensHistory}

-- no edit is made of a map of which only the rows are asked
abbrev pub no_edits : ℕ
no_edits = 0

-- the bytes are a map or a session, and these are the rows of the map at its place
pub record OpensRows (top : Option (List ℕ)) (bytes : List ℕ) (rows : List Row) : Type 0 where
  pub first : History'
  pub opens : OpensHistory top no_edits bytes first
  pub now : State
  pub at : IsAt first now
  pub are : elaborated now.description now.option ≡ Ok rows
