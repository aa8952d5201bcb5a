-- Messages that wait to be written together. Own.
use Rattle.std.specs.Prelude.{◌≡◌, ℕ, List, ◌++◌, length, Option}
use Rattle.std.specs.Io.KnownBytes.{Appends}
use Rattle.rdl_run.specs.Turns.{HasTaken}
use Rattle.rdl_run.specs.declared.counted.Counts.{Counts}

-- a message comes behind those that wait: some of them are written, and the others wait
pub record Says (before after : Option (List ℕ)) (counted counts : Counts) (waiting message waits : List ℕ) : Type 0 where
  pub written : List ℕ
  pub parts : waiting ++ message ≡ written ++ waits
  pub wrote : Appends before after written
  pub took : HasTaken counted counts (length written)
