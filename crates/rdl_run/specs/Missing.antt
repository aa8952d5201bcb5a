-- Which texts a run leaves, by its status. Own.
use Rattle.std.specs.Prelude.{Bool, true, false}
use Rattle.rdl_run.specs.declared.status.Missing.TheVariants.{Header, Session, Both}
use Rattle.rdl_run.specs.declared.status.Status.{Status}
use Rattle.rdl_run.specs.declared.status.Status.TheVariants.{MapRefused, Incomplete}

abbrev pub has_map : Status → Bool
has_map MapRefused = false
has_map status = true

abbrev pub has_header : Status → Bool
has_header MapRefused = false
has_header (Incomplete Header) = false
has_header (Incomplete Both) = false
has_header status = true

abbrev pub has_session : Status → Bool
has_session MapRefused = false
has_session (Incomplete Session) = false
has_session (Incomplete Both) = false
has_session status = true
