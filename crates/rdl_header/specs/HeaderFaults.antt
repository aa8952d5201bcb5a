-- Why rows have no header. Own.
use Rattle.std.specs.Prelude.{◌≡◌, List, Err, string_bytes}
use Rattle.rdl_elab.specs.declared.row.Row.{Row}
use Rattle.rdl_header.specs.declared.text.HeaderFault.{HeaderFault}
use Rattle.rdl_header.specs.declared.text.HeaderFault.TheVariants.{Clash, Memory}
use Rattle.rdl_header.specs.HeaderText.{header_of}

-- H1: the name clashes; H2: memory, of which nothing is said
abbrev pub IsFault : List Row → HeaderFault → Type 0
IsFault rows (Clash name) = header_of rows ≡ Err (string_bytes name)
IsFault rows Memory = Unit {0}
