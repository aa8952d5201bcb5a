-- Going on with a map and the steps that lead back from it and on: what is wrong with them, and where.
-- own: SystemRDL 2.0 has no edits.
use Rattle.std.specs.Prelude.{ℕ, suc, Bool, true, ◌&&◌, List, [], ◌∷◌, Option, Some, None, Result, Ok, Err, if◌then◌else◌}
use Rattle.std.specs.Option.{option_or}
use Rattle.rdl_elab.specs.Faults.{elaborated}
use Rattle.rdl_elab.specs.declared.row.Row.{Row}
use Rattle.rdl_tree.specs.Items.{Items}
use Rattle.rdl_tree.specs.Patch.{fits, patched, image}
use Rattle.rdl_tree.specs.declared.fault.Fault.{Fault}
use Rattle.rdl_tree.specs.declared.patch.Patch.{Patch}
use Rattle.rdl_edit.specs.declared.resume_fault.ResumeFault.{ResumeFault}
use Rattle.rdl_edit.specs.declared.resume_fault.ResumeFault.TheVariants.{PatchMisfits, MapFaulty}
use Rattle.rdl_edit.specs.declared.resume_fault.Where.{Where}
use Rattle.rdl_edit.specs.declared.resume_fault.Where.TheVariants as where_
use Rattle.rdl_edit.specs.Backs.{Reversal}

-- whether each patch fits where those before it led
abbrev pub all_fit : List Patch → Items → Bool
all_fit [] d = true
all_fit (p ∷ ps) d = fits p d && all_fit ps (patched p d)

-- what is wrong with the map at a place, by its rows or its fault
abbrev pub judged : Where → Result (List Row) Fault → Option ResumeFault
judged at (Ok rows) = None
judged at (Err fault) = Some (MapFaulty at fault)

abbrev pub place_fault : Where → Option (List ℕ) → Items → Option ResumeFault
place_fault at option d = judged at (elaborated d option)

-- what is wrong with a step to a place, and with the map to which it leads
abbrev pub step_fault : Where → Option (List ℕ) → Items → List Patch → Option ResumeFault
step_fault at option d step = if all_fit step d then place_fault at option (image step d) else Some (PatchMisfits at)

-- the first fault along steps, which have these numbers on
abbrev pub steps_fault : (ℕ → Where) → Option (List ℕ) → ℕ → Items → List (List Patch) → Option ResumeFault
steps_fault at option n d [] = None
steps_fault at option n d (step ∷ steps) = option_or (step_fault (at n) option d step) (steps_fault at option (suc n) (image step d) steps)

-- the map is judged first, then the steps back, one after another, then those on, from the map again
abbrev pub session_fault : Option (List ℕ) → Items → (undo redo : List (List Patch)) → Option ResumeFault
session_fault option d undo redo =
    option_or (place_fault where_.Map option d)
    (option_or (steps_fault where_.Undo option 1 d undo) (steps_fault where_.Redo option 1 d redo))

-- ---- On the way.

-- where steps lead
abbrev pub place_after : Items → List Reversal → Items
place_after d [] = d
place_after d (step ∷ steps) = place_after (image step.patches d) steps
