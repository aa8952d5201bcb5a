-- A run of which the replies are written and the rest is made, and one that stopped before. Own.
use Rattle.std.specs.Prelude.{ℕ, Bool, List, ◌++◌, length, Option, string_bytes}
use Rattle.std.specs.Io.KnownBytes.{Appends}
use Rattle.rdl_run.specs.Answers.{History'}
use Rattle.rdl_run.specs.ClosingTexts.{texts_of}
use Rattle.rdl_run.specs.Faulted.{Faulted, FaultedFrom}
use Rattle.rdl_run.specs.Known.{Gives}
use Rattle.rdl_run.specs.Output.{AreTexts, Output, Runs, Wrote, outputs}
use Rattle.rdl_run.specs.OwnSteps.{IsOwnSession}
use Rattle.rdl_run.specs.Sources.{without_source}
use Rattle.rdl_run.specs.Turns.{HasTaken}
use Rattle.rdl_run.specs.declared.closing.Closing.{Closing}
use Rattle.rdl_run.specs.declared.counted.Counts.{Counts}
use Rattle.rdl_run.specs.declared.run.Options.{Options}
use Rattle.rdl_run.specs.declared.status.RunFault.{RunFault}

-- an output with these replies before its messages
abbrev pub behind : List ℕ → Output → Output
behind replies out = record { messages = replies ++ out.messages; rdl = out.rdl; header = out.header; session = out.session; status = out.status }

-- a run of a script wrote its replies, and this closes it
pub record ClosesScript (are_own : Type 0) (asked : Bool) (first : History') (script : List ℕ) (old new : Option (List ℕ)) (counted counts : Counts) (closing : Closing) : Type 0 where
  pub replies : List ℕ
  pub runs : Runs asked first script (behind replies (texts_of closing))
  pub texts : AreTexts (behind replies (texts_of closing))
  pub own : are_own → IsOwnSession runs.last (string_bytes closing.session)
  pub said : Appends old new replies
  pub took : HasTaken counted counts (length replies)

-- the same of a whole run, on bytes that are the readers' where those are known
pub record ClosesRun (options : Options) (map script : Option (List ℕ)) (old new : Option (List ℕ)) (counted counts : Counts) (closing : Closing) : Type 0 where
  pub map_bytes : List ℕ
  pub script_bytes : List ℕ
  pub map_given : Gives map map_bytes
  pub script_given : Gives script script_bytes
  pub replies : List ℕ
  pub wrote : Wrote options (without_source map_bytes) script_bytes (behind replies (texts_of closing))
  pub said : Appends old new replies
  pub took : HasTaken counted counts (length replies)

-- a run of a script stopped, and left all but its messages as they are, whatever these are
abbrev pub StopsScript : Bool → History' → (script : List ℕ) → (old new : Option (List ℕ)) → RunFault → Type 0
StopsScript asked first script old new fault = (rdl header session : Option (List ℕ)) → FaultedFrom asked first script (outputs old rdl header session) (outputs new rdl header session) fault

-- the same of a whole run
abbrev pub StopsRun : Options → (map script old new : Option (List ℕ)) → RunFault → Type 0
StopsRun options map script old new fault = (rdl header session : Option (List ℕ)) → Faulted options map script (outputs old rdl header session) (outputs new rdl header session) fault
