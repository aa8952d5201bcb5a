-- A fact of the message of a map that is refused, unless memory was wanting. Own.
use Rattle.std.specs.Prelude.{ℕ, List, string_bytes}
use Rattle.rdl_run.specs.declared.open.OpenFault.{OpenFault}
use Rattle.rdl_run.specs.declared.open.OpenFault.TheVariants.{Refused, Memory}

abbrev pub IfRefusedToOpen : OpenFault → (List ℕ → Type 0) → Type 0
IfRefusedToOpen (Refused text) P = P (string_bytes text)
IfRefusedToOpen Memory P = Unit {0}
