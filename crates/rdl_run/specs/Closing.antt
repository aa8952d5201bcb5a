-- How a run closes whose map was not refused: what it says behind the replies, its texts, and its status. Own.
use Rattle.std.specs.Prelude.{◌≡◌, ℕ, Bool, true, false, List, [], ◌++◌, Result, Ok, Err, if◌then◌else◌}
use Rattle.journal_core.specs.History.{IsAt}
use Rattle.rdl_edit.specs.Step.{State, HasRows}
use Rattle.rdl_header.specs.HeaderText.{header_of}
use Rattle.rdl_write.specs.MapText.{map_text}
use Rattle.rdl_run.specs.Answers.{History'}
use Rattle.rdl_run.specs.Messages.{clash_line}
use Rattle.rdl_run.specs.Sessions.{SavesIf}
use Rattle.rdl_run.specs.declared.status.Missing.TheVariants.{Header, Session, Both}
use Rattle.rdl_run.specs.declared.status.Status.{Status}
use Rattle.rdl_run.specs.declared.status.Status.TheVariants.{Accepted, LineRefused, Incomplete}

-- the header, or what is said in its place, and no header
abbrev pub IsHeaded : Result (List ℕ) (List ℕ) → (message header : List ℕ) → (left_out : Bool) → Type 0
IsHeaded (Ok text) message header left_out = (message ≡ []) × (header ≡ text) × (left_out ≡ false)
IsHeaded (Err name) message header left_out = (message ≡ clash_line name) × (header ≡ []) × (left_out ≡ true)

-- that of a map
pub record Heads (now : State) (message header : List ℕ) (left_out : Bool) : Type 0 where
  pub laid_out : HasRows now
  pub headed : IsHeaded (header_of laid_out.rows) message header left_out

-- a text that is left out counts more than a refused line
abbrev pub status_of : (refuses no_header no_session : Bool) → Status
status_of refuses true true = Incomplete Both
status_of refuses true false = Incomplete Header
status_of refuses false true = Incomplete Session
status_of refuses false false = if refuses then LineRefused else Accepted

-- the texts are of the map at the place to which the script led, and the session of the history there, if it is asked for
pub record Closes (asked : Bool) (last : History') (refuses : Bool) (message rdl header session : List ℕ) (status : Status) : Type 0 where
  pub now : State
  pub at : IsAt last now
  pub rdl_is : rdl ≡ map_text now.description
  pub of_header : List ℕ
  pub no_header : Bool
  pub heads : Heads now of_header header no_header
  pub of_session : List ℕ
  pub no_session : Bool
  pub saves : SavesIf asked last of_session session no_session
  pub message_is : message ≡ of_header ++ of_session
  pub status_is : status ≡ status_of refuses no_header no_session
