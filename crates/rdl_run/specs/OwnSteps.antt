-- Histories all of whose steps make accepted edits or take such edits back, and the sessions of such histories. Own.
use Rattle.std.specs.Prelude.{◌≡◌, ◌⊎◌, ℕ, true, List, [], map, Option}
use Rattle.std.proofs.Common.{inl, inr}
use Rattle.journal_core.specs.Along.{FitInTurn}
use Rattle.journal_core.specs.History.{AllAre, IsAt, Kept}
use Rattle.rdl_tree.specs.declared.patch.Patch.{Patch}
use Rattle.rdl_session.specs.Text.{session_text}
use Rattle.rdl_session.specs.Written.{session_lines}
use Rattle.rdl_edit.specs.Backs.{Reversal, prior, read_back}
use Rattle.rdl_edit.specs.OfEdits.{IsOwn}
use Rattle.rdl_edit.specs.Step.{State}
use Rattle.rdl_run.specs.Answers.{History'}
use Rattle.rdl_run.specs.Opening.{OpensHistory}
use Rattle.rdl_run.specs.Sessions.{LeadBack, LeadOn}

-- each step that is kept makes an accepted edit where those before it lead, or takes one back
abbrev pub AllOwn : Kept State Reversal → Type 0
AllOwn k = AllAre prior IsOwn k

-- a history, with its steps taken for its own
abbrev pub owned : History' → History'
owned h = record { limit = h.limit; states = h.states; place = h.place; own = true }

-- the session of the map at the place, with steps back and on that edits left behind
pub record SavesOwn (h : History') (session : List ℕ) : Type 0 where
  pub now : State
  pub at : IsAt h now
  pub undo : List (List Patch)
  pub redo : List (List Patch)
  pub back : LeadBack (owned h) undo
  pub on : LeadOn (owned h) redo
  pub is : session ≡ session_text (session_lines now.description undo redo)

-- or none
abbrev pub IsOwnSession : History' → List ℕ → Type 0
IsOwnSession h session = (session ≡ []) ⊎ SavesOwn h session

-- ---- Opening and running.

-- the steps with which a history is opened are of edits: a map has none
abbrev pub OpensOwn : {option : Option (List ℕ)} {limit : ℕ} {bytes : List ℕ} {h : History'} → OpensHistory option limit bytes h → Type 0
OpensOwn (inl m) = Unit {0}
OpensOwn {option} (inr o) =
    let s : State = record { description = o.description; option = option } in
    FitInTurn prior IsOwn s (map read_back o.undo) × FitInTurn prior IsOwn s (map read_back o.redo)

-- what is opened, with its steps
pub record OpensKept (option : Option (List ℕ)) (limit : ℕ) (bytes : List ℕ) (k : Kept State Reversal) : Type 0 where
  pub opens : OpensHistory option limit bytes k.history
  pub own : OpensOwn opens → AllOwn k
