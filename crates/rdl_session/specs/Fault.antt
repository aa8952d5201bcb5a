-- The number of each fault of reading a session, and of writing one.
-- own: SystemRDL 2.0 has no sessions.
use Rattle.std.specs.Prelude.{ℕ}
use Rattle.rdl_session.specs.declared.fault.SessionReadFault.{SessionReadFault}
use Rattle.rdl_session.specs.declared.fault.SessionReadFault.TheVariants as reading
use Rattle.rdl_session.specs.declared.fault.SessionWriteFault.{SessionWriteFault}
use Rattle.rdl_session.specs.declared.fault.SessionWriteFault.TheVariants as writing

abbrev pub read_fault_number : SessionReadFault → ℕ
read_fault_number reading.NotASession = 1
read_fault_number reading.Memory = 5

abbrev pub write_fault_number : SessionWriteFault → ℕ
write_fault_number writing.TooLong = 4
write_fault_number writing.Memory = 5
