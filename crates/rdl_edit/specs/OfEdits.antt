-- Steps that edits left behind: each makes an accepted edit, or takes one back.
-- own: SystemRDL 2.0 has no edits.
use Rattle.std.specs.Prelude.{◌≡◌, ◌⊎◌, false, List}
use Rattle.rdl_tree.specs.Patch.{inverses}
use Rattle.rdl_tree.specs.declared.patch.Patch.{Patch}
use Rattle.rdl_rewrite.specs.Patches.{patches}
use Rattle.rdl_rewrite.specs.declared.edit.Edit.{Edit}
use Rattle.rdl_edit.specs.Backs.{Reversal}
use Rattle.rdl_edit.specs.Step.{State, HasRows, Leads}

-- the patches of an edit that is accepted here
pub record Makes (s : State) (step : List Patch) : Type 0 where
  pub edit : Edit
  pub new : State
  pub led : Leads s edit new
  pub are : step ≡ patches s.description edit

-- what takes an edit back that was accepted and led here
pub record TakesBack (s : State) (step : List Patch) : Type 0 where
  pub edit : Edit
  pub old : State
  pub has_rows : HasRows old
  pub led : Leads old edit s
  pub are : step ≡ inverses (patches old.description edit) old.description

abbrev pub IsOfEdit : State → List Patch → Type 0
IsOfEdit s step = Makes s step ⊎ TakesBack s step

-- what an edit leaves behind: its patches taken back, and no mark
abbrev pub IsLeft : State → Edit → Reversal → Type 0
IsLeft s e back = back ≡ record { patches = inverses (patches s.description e) s.description; read = false }

-- what leads forward again where a step is taken: its patches taken back, and its mark
abbrev pub IsTurned : State → Reversal → Reversal → Type 0
IsTurned s back forward = forward ≡ record { patches = inverses back.patches s.description; read = back.read }

-- what takes a step of the map back
abbrev pub IsOwn : State → Reversal → Type 0
IsOwn s back = IsOfEdit s back.patches
