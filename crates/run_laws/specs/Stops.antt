-- Which history a session spells, and runs that stop and go on.
-- own: SystemRDL 2.0 has no sessions.
use Rattle.std.specs.Prelude.{◌≡◌, ◌≢◌, ℕ, true, false, List, [], ◌∷◌, ◌++◌, Option, IsUtf8}
use Rattle.std.proofs.Common.{inr}
use Rattle.journal_core.specs.History.{History}
use Rattle.rdl_tree.specs.declared.patch.Patch.{Patch}
use Rattle.rdl_edit.specs.Step.{State}
use Rattle.rdl_run.specs.Opening.{OpensHistory}
use Rattle.rdl_run.specs.Output.{Output, RunsScript, IsOutput, SameFiles, Wrote}
use Rattle.rdl_run.specs.Sessions.{LeadBack, LeadOn, is_session}
use Rattle.rdl_run.specs.declared.run.Options.{Options}
use Rattle.rdl_write.specs.Texts.{newline}
use Rattle.rdl_session.specs.Spelling.{SpellsSession}

-- ---- The session of a history.

-- the bytes spell this map, with steps that lead back from it and on, through all other maps of the history
pub record SpellsHistory (bytes : List ℕ) (now : State) (h : History State) : Type 0 where
  pub undo : List (List Patch)
  pub redo : List (List Patch)
  pub back : LeadBack h undo
  pub on : LeadOn h redo
  pub spelled : SpellsSession bytes now.description undo redo

-- the bytes open the same list of maps at the same place, whatever limit they are opened with
abbrev pub OpensAgain : Option (List ℕ) → List ℕ → History State → Type 0
OpensAgain option bytes h = (limit : ℕ) → OpensHistory option limit bytes (record { limit = limit; states = h.states; place = h.place; own = false })

-- a run of a map left its session: it is asked for, isn't too long, and is UTF-8
pub record SavesSession (options : Options) (map script : List ℕ) (out : Output) : Type 0 where
  pub ran : RunsScript options map script out
  pub unnamed : is_session map ≡ false
  pub asked : options.session ≡ true
  pub kept : ran.runs.closes.no_session ≡ false
  pub utf8 : IsUtf8 out.session

-- ---- Runs that stop and go on.

-- a run of a map or session that leaves a session
pub record LeavesSession (options : Options) (map script session : List ℕ) : Type 0 where
  pub out : Output
  pub wrote : Wrote options map script out
  pub session_is : out.session ≡ session
  pub some : session ≢ []

-- what the next run reads where a map was run with these scripts, the last one first: the map, or the session that the run before
-- left, which read the map or a session likewise
abbrev pub GoesOnFrom : Options → (map : List ℕ) → (scripts : List (List ℕ)) → (bytes : List ℕ) → Type 0
GoesOnFrom options map [] bytes = bytes ≡ map
GoesOnFrom options map (script ∷ scripts) bytes = (before : List ℕ) × GoesOnFrom options map scripts before × LeavesSession options before script bytes

-- these scripts, the last one first, and one more behind them, as one
abbrev pub joined : (scripts : List (List ℕ)) → (more : List ℕ) → List ℕ
joined [] more = more
joined (script ∷ scripts) more = joined scripts (script ++ newline ++ more)

-- the same where the first run was of a map
pub record GoesOnFromMap (options : Options) (map : List ℕ) (scripts : List (List ℕ)) (bytes : List ℕ) : Type 0 where
  pub unnamed : is_session map ≡ false
  pub from : GoesOnFrom options map scripts bytes

-- a run that went on after any number of stops left a session
pub record SavesAfterStops (options : Options) (map : List ℕ) (scripts : List (List ℕ)) (bytes script : List ℕ) (out : Output) : Type 0 where
  pub from : GoesOnFromMap options map scripts bytes
  pub wrote : Wrote options bytes script out
  pub ran : RunsScript options bytes script out
  pub is_run : wrote.is_output ≡ inr ran
  pub some : out.session ≢ []

-- the run that goes on has the same top and the same history
pub record GoesOnAlike (options again : Options) : Type 0 where
  pub top : again.top ≡ options.top
  pub history : again.history ≡ options.history

-- a run of these bytes and of this script leaves the map and the header that a run of the map and of the whole script leaves
abbrev pub LeavesSameFiles : Options → (bytes script map whole : List ℕ) → Type 0
LeavesSameFiles options bytes script map whole =
    (out other : Output) → IsOutput options bytes script out → IsOutput options map whole other → SameFiles out other
