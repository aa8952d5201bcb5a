-- Of which file a fault tells. Own.
use Rattle.std.specs.Prelude.{◌≡◌, ℕ, List, ⊤, All, Any}
use Rattle.whole_files.specs.declared.output.Output.{Output}
use Rattle.whole_files.specs.declared.output.Waiting.{Waiting}
use Rattle.whole_files.specs.declared.output.OutputFault.{OutputFault}
use Rattle.whole_files.specs.declared.output.OutputFault.TheVariants.{Memory, Unwritten}

-- memory ran out, or the file of this path can't be written
abbrev pub IsAt : List ℕ → OutputFault → Type 0
IsAt at Memory = ⊤
IsAt at (Unwritten path error) = path.now ≡ at

-- memory ran out, or the file of one of these outputs can't be written
abbrev pub IsAtOne : List Output → OutputFault → Type 0
IsAtOne outputs fault = Any (λ (o : Output). IsAt o.path.now fault) outputs

-- it is the path of one of these outputs
abbrev pub IsPathOf : List Output → List ℕ → Type 0
IsPathOf outputs path = Any (λ (o : Output). path ≡ o.path.now) outputs

-- each waits for the file of one of these outputs
abbrev pub AreOf : List Output → List Waiting → Type 0
AreOf outputs waiting = All (λ (w : Waiting). IsPathOf outputs w.path.now) waiting

-- memory ran out, or the file for which one of these waits can't be written
abbrev pub IsAtWaiting : List Waiting → OutputFault → Type 0
IsAtWaiting waiting fault = Any (λ (w : Waiting). IsAt w.path.now fault) waiting
