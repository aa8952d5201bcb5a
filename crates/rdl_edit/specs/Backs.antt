-- What takes a step of the map back: patches, one for each item that the step touched, and a mark of where they are from.
-- own: SystemRDL 2.0 has no edits.
use Rattle.std.specs.Prelude.{◌≡◌, ◌≤◌, ◌+◌, ◌*◌, Bool, true, List, length}
use Rattle.rdl_tree.specs.Items.{Items}
use Rattle.rdl_tree.specs.Patch.{AllFit, image}
use Rattle.rdl_tree.specs.PatchWeight.{patches_weight, taken}
use Rattle.rdl_tree.specs.declared.patch.Patch.{Patch}
use Rattle.rdl_edit.specs.Step.{State, HasRows}

-- a step back: its patches, and whether they were read from a session
pub record Reversal : Type 0 where
  pub patches : List Patch
  pub read : Bool

-- these patches, read from a session
abbrev pub read_back : List Patch → Reversal
read_back patches = record { patches = patches; read = true }

-- the state to which a step back leads
abbrev pub prior : State → Reversal → State
prior s back = record { description = image back.patches s.description; option = s.option }

-- each patch fits where those before it led, and they lead to a map that has rows
pub record Fits (s : State) (back : Reversal) : Type 0 where
  pub applicable : AllFit back.patches s.description
  pub has_rows : HasRows (prior s back)

-- what takes back a step along these patches from a description has as many, and weighs no more than what the step
-- dropped and replaced, and 20 for each item that it touched
pub record IsCheap (step : List Patch) (old : Items) (back : List Patch) : Type 0 where
  pub as_many : length back ≡ length step
  pub light : patches_weight back ≤ taken step old + 20 * length step
