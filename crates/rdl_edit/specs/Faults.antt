-- The faults for which there is no map: those of the map, and want of memory. Own.
use Rattle.std.specs.Prelude.{Bool, true, false, if◌then◌else◌}
use Rattle.rdl_tree.specs.declared.fault.Fault.{Fault}
use Rattle.rdl_tree.specs.declared.fault.FaultKind.{FaultKind}
use Rattle.rdl_tree.specs.declared.fault.FaultKind.TheVariants as kind
use Rattle.rdl_edit.specs.declared.refusal.Refusal.{Refusal}
use Rattle.rdl_edit.specs.declared.refusal.Refusal.TheVariants.{Faulty, Memory}

-- E24
abbrev pub is_memory : FaultKind → Bool
is_memory kind.Memory = true
is_memory other = false

-- an edit that makes a map with this fault is refused so
abbrev pub refused : Fault → Refusal
refused fault = if is_memory fault.kind then Memory else Faulty fault
