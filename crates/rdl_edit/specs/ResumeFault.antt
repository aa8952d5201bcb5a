-- The number of each fault of going on with a session.
-- own: SystemRDL 2.0 has no sessions.
use Rattle.std.specs.Prelude.{ℕ}
use Rattle.rdl_edit.specs.declared.resume_fault.ResumeFault.{ResumeFault}
use Rattle.rdl_edit.specs.declared.resume_fault.ResumeFault.TheVariants.{PatchMisfits, MapFaulty, Memory}

abbrev pub resume_fault_number : ResumeFault → ℕ
resume_fault_number (PatchMisfits place) = 2
resume_fault_number (MapFaulty place fault) = 3
resume_fault_number Memory = 5
