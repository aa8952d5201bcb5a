-- The output of a run: messages, the files' texts and the status, from the bytes of the map or session and of the script. Own.
use Rattle.std.specs.Prelude.{◌≡◌, ◌⊎◌, ℕ, Bool, List, [], ◌++◌, length, Option, IsUtf8}
use Rattle.std.proofs.Common.{inl, inr}
use Rattle.std.specs.Io.KnownBytes.{Appends}
use Rattle.rdl_run.specs.Answers.{History', Serves}
use Rattle.rdl_script.specs.Commands.{lines_of}
use Rattle.rdl_run.specs.Closing.{Closes}
use Rattle.rdl_run.specs.Known.{Gives}
use Rattle.rdl_run.specs.Opening.{OpensHistory, RefusesToOpen}
use Rattle.rdl_run.specs.OwnSteps.{IsOwnSession, OpensOwn}
use Rattle.rdl_run.specs.Sources.{without_source}
use Rattle.rdl_run.specs.Turns.{HasTaken, Tallies}
use Rattle.rdl_run.specs.declared.run.Options.{Options}
use Rattle.rdl_run.specs.declared.status.Status.{Status}
use Rattle.rdl_run.specs.declared.status.Status.TheVariants.{MapRefused}

pub record Output : Type 0 where
  pub messages : List ℕ
  pub rdl : List ℕ
  pub header : List ℕ
  pub session : List ℕ
  pub status : Status

-- the map or session is refused: one message, and nothing in the files
pub record RefusesMapOf (option : Option (List ℕ)) (map : List ℕ) (out : Output) : Type 0 where
  pub refused : RefusesToOpen option map out.messages
  pub rdl : out.rdl ≡ []
  pub header : out.header ≡ []
  pub session : out.session ≡ []
  pub status : out.status ≡ MapRefused

-- the lines of the script lead from a history to a place; the run closes with the map there, and what that says stands behind
-- the replies
pub record Runs (asked : Bool) (first : History') (script : List ℕ) (out : Output) : Type 0 where
  pub last : History'
  pub refuses : Bool
  pub replies : List ℕ
  pub serves : Serves first (lines_of script) replies refuses last
  pub message : List ℕ
  pub closes : Closes asked last refuses message out.rdl out.header out.session out.status
  pub messages : out.messages ≡ replies ++ message

-- the map or session is opened, and the script run
pub record RunsScript (options : Options) (map script : List ℕ) (out : Output) : Type 0 where
  pub first : History'
  pub opens : OpensHistory options.top options.history map first
  pub runs : Runs options.session first script out

abbrev pub IsOutput : Options → List ℕ → List ℕ → Output → Type 0
IsOutput options map script out = RefusesMapOf options.top map out ⊎ RunsScript options map script out

-- the same map and the same header
abbrev pub SameFiles : Output → Output → Type 0
SameFiles out other = (out.rdl ≡ other.rdl) × (out.header ≡ other.header)

-- ---- What a run leaves in its outputs.

-- what is known of the four outputs
pub record Outputs : Type 0 where
  pub messages : Option (List ℕ)
  pub rdl : Option (List ℕ)
  pub header : Option (List ℕ)
  pub session : Option (List ℕ)

abbrev pub outputs : (messages rdl header session : Option (List ℕ)) → Outputs
outputs messages rdl header session = record { messages = messages; rdl = rdl; header = header; session = session }

-- what is known of the bytes of such writers
abbrev pub Contents : Type 0 → Type 0
Contents W = W → Option (List ℕ)

-- this is so of what is known of these four outputs before and after: messages, map, header and session
abbrev pub AtOutputs : {E R H Z A : Type 0} → Contents E → Contents R → Contents H → Contents Z → (Outputs → Outputs → A → Type 0) → E → R → H → Z → E → R → H → Z → A → Type 0
AtOutputs of_messages of_rdl of_header of_session IsSo messages rdl header session messages' rdl' header' session' =
    IsSo (outputs (of_messages messages) (of_rdl rdl) (of_header header) (of_session session))
    (outputs (of_messages messages') (of_rdl rdl') (of_header header') (of_session session'))

-- all of an output was written, and nothing else
pub record Holds (old new : Outputs) (status : Status) (out : Output) : Type 0 where
  pub messages : Appends old.messages new.messages out.messages
  pub rdl : Appends old.rdl new.rdl out.rdl
  pub header : Appends old.header new.header out.header
  pub session : Appends old.session new.session out.session
  pub answer : status ≡ out.status

-- what was written to the files is UTF-8
pub record AreTexts (out : Output) : Type 0 where
  pub rdl : IsUtf8 out.rdl
  pub header : IsUtf8 out.header
  pub session : IsUtf8 out.session

-- each output took as many bytes as its text has, as far as they are counted
pub record HaveTaken (old new : Tallies) (out : Output) : Type 0 where
  pub messages : HasTaken old.messages new.messages (length out.messages)
  pub rdl : HasTaken old.rdl new.rdl (length out.rdl)
  pub header : HasTaken old.header new.header (length out.header)
  pub session : HasTaken old.session new.session (length out.session)

-- where the steps of the history that was opened are of edits, so are those of its session
abbrev pub LeavesOwn : {options : Options} {map script : List ℕ} {out : Output} → IsOutput options map script out → Type 0
LeavesOwn (inl refused) = Unit {0}
LeavesOwn {options} {map} {script} {out} (inr ran) = OpensOwn ran.opens → IsOwnSession ran.runs.last out.session

-- what a run of these bytes writes
pub record Wrote (options : Options) (map script : List ℕ) (out : Output) : Type 0 where
  pub is_output : IsOutput options map script out
  pub texts : AreTexts out
  pub own : LeavesOwn is_output

-- a whole run, on bytes that are the readers' where those are known
pub record Ran (options : Options) (map script : Option (List ℕ)) (old new : Outputs) (status : Status) : Type 0 where
  pub map_bytes : List ℕ
  pub script_bytes : List ℕ
  pub map_given : Gives map map_bytes
  pub script_given : Gives script script_bytes
  pub out : Output
  pub wrote : Wrote options (without_source map_bytes) script_bytes out
  pub holds : Holds old new status out

-- the same, with what the outputs took
pub record RanCounted (options : Options) (map script : Option (List ℕ)) (old new : Outputs) (counted counts : Tallies) (status : Status) : Type 0 where
  pub ran : Ran options map script old new status
  pub took : HaveTaken counted counts ran.out
