-- The steps of a session, taken one after another, and what leads home again.
-- own: SystemRDL 2.0 has no edits.
use Rattle.std.specs.Prelude.{◌≡◌, ℕ, Bool, false, List, [], ◌∷◌, if◌then◌else◌}
use Rattle.rdl_tree.specs.Items.{Items}
use Rattle.rdl_tree.specs.Patch.{AllFit, image, inverses}
use Rattle.rdl_edit.specs.declared.resume_fault.Where.TheVariants as where_
use Rattle.rdl_edit.specs.Backs.{Reversal}
use Rattle.rdl_edit.specs.declared.ways.Direction.{Direction}
use Rattle.rdl_edit.specs.declared.ways.Direction.TheVariants as way
use Rattle.rdl_tree.specs.declared.fault.Fault.{Fault}
use Rattle.rdl_edit.specs.declared.resume_fault.ResumeFault.{ResumeFault}
use Rattle.rdl_edit.specs.declared.resume_fault.ResumeFault.TheVariants.{PatchMisfits, MapFaulty, Memory}
use Rattle.rdl_edit.specs.declared.resume_fault.Where.{Where}
use Rattle.rdl_edit.specs.declared.ways.Stop.{Stop}
use Rattle.rdl_edit.specs.declared.ways.Stop.TheVariants as stop
use Rattle.rdl_edit.specs.Faults.{is_memory}

-- patches stop where one doesn't fit, or for want of memory
abbrev pub IsMisfit : (fit : Bool) → Stop → Type 0
IsMisfit fit stop.Misfit = fit ≡ false
IsMisfit fit stop.Memory = Unit {0}

abbrev pub stop_at : Where → Stop → ResumeFault
stop_at at stop.Misfit = PatchMisfits at
stop_at at stop.Memory = Memory

-- a map that has this fault at a place is refused, where memory wasn't wanted
abbrev pub refused : Where → Fault → ResumeFault
refused at fault = if is_memory fault.kind then Memory else MapFaulty at fault

-- ---- Steps, one after another.

abbrev pub place_of : Direction → ℕ → Where
place_of way.Undo n = where_.Undo n
place_of way.Redo n = where_.Redo n

-- the patches of each step fit where those before it led
abbrev pub AllLead : Items → List Reversal → Type 0
AllLead d [] = Unit {0}
AllLead d (step ∷ steps) = AllFit step.patches d × AllLead (image step.patches d) steps

-- what takes a step back has its mark
abbrev pub way_back : Items → Reversal → Reversal
way_back d step = record step { patches = inverses step.patches d }

-- what takes each step back
abbrev pub ways_along : Items → List Reversal → List Reversal
ways_along d [] = []
ways_along d (step ∷ steps) = way_back d step ∷ ways_along (image step.patches d) steps
