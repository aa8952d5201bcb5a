-- Which fault of words an error of `clap` is, by its kind. Own.
use Rattle.std.specs.Prelude.{◌≡◌, ◌≢◌}
use Rattle.clap.specs.Values.{kind_of}
use Rattle.clap.specs.declared.error.Error.{Error}
use Rattle.clap.specs.declared.error.kind.ErrorKind.TheVariants.{DisplayHelp, DisplayVersion, OutOfMemory}
use Rattle.command_line.specs.declared.fault.WordsFault.{WordsFault}
use Rattle.command_line.specs.declared.fault.WordsFault.TheVariants.{Help, Version, Refused, BadTop, Memory}

abbrev pub SaysKind : Error → WordsFault → Type 0
SaysKind error (Help told) = (told ≡ error) × (kind_of error ≡ DisplayHelp)
SaysKind error (Version told) = (told ≡ error) × (kind_of error ≡ DisplayVersion)
SaysKind error (Refused told) = (told ≡ error) × (kind_of error ≢ DisplayHelp) × (kind_of error ≢ DisplayVersion) × (kind_of error ≢ OutOfMemory)
SaysKind error BadTop = ⊥
SaysKind error Memory = kind_of error ≡ OutOfMemory
