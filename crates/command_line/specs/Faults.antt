-- What a fault of words says of what `clap` tells of them and finds among them. Own; what it tells and finds is of its own
-- definitions.
use Rattle.std.specs.Prelude.{◌≡◌, ◌≢◌, ◌⊎◌, ⊤, List, [], ◌∷◌, Option, codes, IsSomeAnd}
use Rattle.clap.specs.Words.{Kinds, Row, Text, first_of, kind_of}
use Rattle.clap.specs.declared.error.Error.{Error}
use Rattle.clap.specs.declared.error.kind.ErrorKind.TheVariants.{DisplayHelp, DisplayVersion, OutOfMemory}
use Rattle.rdl_text.specs.Name.{IsName}
use Rattle.command_line.specs.declared.fault.WordsFault.{WordsFault}
use Rattle.command_line.specs.declared.fault.WordsFault.TheVariants.{Help, Version, Refused, BadTop, Memory}

-- the value of an argument: what the words give it, else its default
abbrev pub value : Text → List Row → Option Text
value = first_of

-- a top is given that is no identifier
abbrev pub HasBadTop : List Row → Type 0
HasBadTop rows = IsSomeAnd (value (codes "top") rows) (λ name. ¬ (IsName name))

-- the error is what is told, or want of memory
abbrev pub IsTold : Kinds → Error → Type 0
IsTold told error = (kind_of error ≡ OutOfMemory) ⊎ (told ≡ kind_of error ∷ [])

-- what is told and found gives what the fault says
abbrev pub HasFault : Kinds → List Row → WordsFault → Type 0
HasFault told rows (Help error) = (kind_of error ≡ DisplayHelp) × (told ≡ DisplayHelp ∷ [])
HasFault told rows (Version error) = (kind_of error ≡ DisplayVersion) × (told ≡ DisplayVersion ∷ [])
HasFault told rows (Refused error) = (kind_of error ≢ DisplayHelp) × (kind_of error ≢ DisplayVersion) × (told ≡ kind_of error ∷ [])
HasFault told rows BadTop = (told ≡ []) × HasBadTop rows
HasFault told rows Memory = ⊤

-- what a fault behind `clap` says of what is found
abbrev pub RefusesFound : List Row → WordsFault → Type 0
RefusesFound rows BadTop = HasBadTop rows
RefusesFound rows Memory = ⊤
RefusesFound rows (Help error) = ⊥
RefusesFound rows (Version error) = ⊥
RefusesFound rows (Refused error) = ⊥

-- a fault of words that `clap` takes
abbrev pub IsBehindClap : WordsFault → Type 0
IsBehindClap BadTop = ⊤
IsBehindClap Memory = ⊤
IsBehindClap (Help error) = ⊥
IsBehindClap (Version error) = ⊥
IsBehindClap (Refused error) = ⊥
