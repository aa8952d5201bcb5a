-- A fact of the fault of a text, unless memory was wanting. Own.
use Rattle.rdl_parse.specs.declared.fault.ParseFault.{ParseFault}
use Rattle.rdl_run.specs.declared.reading.ReadingFault.{ReadingFault}
use Rattle.rdl_run.specs.declared.reading.ReadingFault.TheVariants.{Refused, Memory}

abbrev pub IfRefused : (ParseFault → Type 0) → ReadingFault → Type 0
IfRefused refuses (Refused fault) = refuses fault
IfRefused refuses Memory = Unit {0}
