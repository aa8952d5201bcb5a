-- Sessions: which bytes are one, the history that it opens, and the session of a history at its place. Own.
use Rattle.std.specs.Prelude.{◌≡◌, ◌⊎◌, ◌≤◌, ◌<◌, ◌+◌, ◌-◌, ℕ, Bool, true, false, ◌||◌, List, [], ◌++◌, length, map, take, slice_get, Option, Some, None, bytes_eq, codes, IsUtf8}
use Rattle.journal_core.specs.Along.{led_through}
use Rattle.journal_core.specs.History.{IsAt, resumed}
use Rattle.rdl_tree.specs.Items.{Items}
use Rattle.rdl_tree.specs.Patch.{AllFit, image}
use Rattle.rdl_tree.specs.declared.patch.Patch.{Patch}
use Rattle.rdl_edit.specs.Backs.{prior, read_back}
use Rattle.rdl_edit.specs.OfEdits.{IsOfEdit}
use Rattle.rdl_edit.specs.Resuming.{session_fault}
use Rattle.rdl_edit.specs.Step.{State}
use Rattle.rdl_edit.specs.declared.resume_fault.ResumeFault.{ResumeFault}
use Rattle.rdl_write.specs.Texts.{newline}
use Rattle.rdl_session.specs.Text.{session_text, max_session}
use Rattle.rdl_session.specs.Spelling.{SpellsSession}
use Rattle.rdl_session.specs.Written.{session_lines}
use Rattle.rdl_session.specs.declared.fault.SessionReadFault.TheVariants.{NotASession}
use Rattle.rdl_session.specs.declared.fault.SessionWriteFault.TheVariants.{TooLong}
use Rattle.rdl_run.specs.Answers.{History'}
use Rattle.rdl_run.specs.Messages.{session_line, unread_text, unresumed_text, unwritten_text}

-- ---- Which bytes are taken for a session.

-- the line with which each session begins, and no map
abbrev pub session_head : List ℕ
session_head = codes "regedit session 1" ++ newline

-- and the one with which each begins that keeps its source text
abbrev pub source_head : List ℕ
source_head = codes "regedit session 2" ++ newline

abbrev pub begins : (head bytes : List ℕ) → Bool
begins head bytes = bytes_eq head (take (length head) bytes)

abbrev pub is_session : List ℕ → Bool
is_session bytes = begins session_head bytes || begins source_head bytes

-- ---- Opening.

-- the history at a map, with the places to which these steps lead, back and on
abbrev pub history_of : (limit : ℕ) → State → (undo redo : List (List Patch)) → History'
history_of limit s undo redo = resumed limit (led_through prior s (map read_back undo)) s (led_through prior s (map read_back redo))

-- the bytes are a text that spells this session
pub record ReadsSession (bytes : List ℕ) (d : Items) (undo redo : List (List Patch)) : Type 0 where
  pub text : IsUtf8 bytes
  pub spelled : SpellsSession bytes d undo redo

-- they spell a session of which every place elaborates
pub record OpensSession (option : Option (List ℕ)) (limit : ℕ) (bytes : List ℕ) (h : History') : Type 0 where
  pub named : is_session bytes ≡ true
  pub description : Items
  pub undo : List (List Patch)
  pub redo : List (List Patch)
  pub read : ReadsSession bytes description undo redo
  pub faultless : session_fault option description undo redo ≡ None
  pub opened : h ≡ history_of limit (record { description = description; option = option }) undo redo

-- they spell one of which a step or a place has a fault
pub record FaultySession (option : Option (List ℕ)) (bytes : List ℕ) (message : List ℕ) : Type 0 where
  pub description : Items
  pub undo : List (List Patch)
  pub redo : List (List Patch)
  pub read : ReadsSession bytes description undo redo
  pub fault : ResumeFault
  pub first : session_fault option description undo redo ≡ Some fault
  pub is : message ≡ session_line (unresumed_text fault)

-- they spell none
pub record IsNoSession (bytes : List ℕ) (message : List ℕ) : Type 0 where
  pub none : (d : Items) (undo redo : List (List Patch)) → ReadsSession bytes d undo redo → ⊥
  pub is : message ≡ session_line (unread_text NotASession)

pub record RefusedSession (option : Option (List ℕ)) (bytes : List ℕ) (message : List ℕ) : Type 0 where
  pub named : is_session bytes ≡ true
  pub refused : IsNoSession bytes message ⊎ FaultySession option bytes message

-- ---- The session of a history.

-- patches lead from the map at one place of a list to the map at another; where the steps of a history are its own, an edit
-- left them behind
pub record LeadsAlong (own : Bool) (states : List State) (from to : ℕ) (step : List Patch) : Type 0 where
  pub start : State
  pub stood : slice_get states from ≡ Some start
  pub fit : AllFit step start.description
  pub end : State
  pub reached : slice_get states to ≡ Some end
  pub led : end.description ≡ image step start.description
  pub of_edit : own ≡ true → IsOfEdit start step

-- steps that lead back from the place to the first one, each by one place
pub record LeadBack (h : History') (steps : List (List Patch)) : Type 0 where
  pub as_many : length steps ≡ h.place
  pub each : (i : ℕ) (step : List Patch) → slice_get steps i ≡ Some step → LeadsAlong h.own h.states (h.place - i) (h.place - i - 1) step

-- steps that lead on from the place to the last one
pub record LeadOn (h : History') (steps : List (List Patch)) : Type 0 where
  pub as_many : h.place + length steps + 1 ≡ length h.states
  pub each : (i : ℕ) (step : List Patch) → slice_get steps i ≡ Some step → LeadsAlong h.own h.states (h.place + i) (h.place + i + 1) step

-- the text, or what is said in its place where it is too long, and no session
abbrev pub IsSaved : (text message session : List ℕ) → (left_out : Bool) → Type 0
IsSaved text message session false = (length text ≤ max_session) × (message ≡ []) × (session ≡ text)
IsSaved text message session true = (max_session < length text) × (message ≡ session_line (unwritten_text TooLong)) × (session ≡ [])

-- the session of the map at the place, with steps that lead back from it and on
pub record Saves (h : History') (message session : List ℕ) (left_out : Bool) : Type 0 where
  pub now : State
  pub at : IsAt h now
  pub undo : List (List Patch)
  pub redo : List (List Patch)
  pub back : LeadBack h undo
  pub on : LeadOn h redo
  pub saved : IsSaved (session_text (session_lines now.description undo redo)) message session left_out

-- where none is asked for there is none, and nothing is said of it
abbrev pub SavesIf : (asked : Bool) → History' → (message session : List ℕ) → (left_out : Bool) → Type 0
SavesIf true h message session left_out = Saves h message session left_out
SavesIf false h message session left_out = (message ≡ []) × (session ≡ []) × (left_out ≡ false)
