-- A list of states, a place in it, and how far edits may bring the place. It may begin at any place of a list, so the place
-- may be past the limit. Own.
use Rattle.std.specs.Prelude.{◌≡◌, Bool, false, ℕ, slice_get, Some, zero, suc, ◌+◌, ◌-◌, ◌<◌, nat_lt, if◌then◌else◌, List, [], ◌∷◌, ◌++◌, length, take, Some, slice_get}
use mathlib.Core.List.{reverse}
use Rattle.journal_core.specs.Along.{FitInTurn}

pub record History (S : Type 0) : Type 0 where
  pub limit : ℕ
  pub states : List S
  pub place : ℕ
  -- each of its steps was left behind by a change made in it, or takes such a step back; none was handed over to it
  pub own : Bool

-- a history, with the steps that it keeps: those that lead back, and those that lead on, each list with the next one to be
-- taken first
pub record Kept (S B : Type 0) : Type 0 where
  pub history : History S
  pub undo : List B
  pub redo : List B

-- at the state that is now, between those behind it and those ahead of it, each with the nearest first
abbrev pub resumed : {S : Type 0} → (limit : ℕ) → (behind : List S) → (now : S) → (ahead : List S) → History S
resumed limit behind now ahead = record { limit = limit; states = reverse behind ++ now ∷ ahead; place = length behind; own = false }

-- what was after the place goes, and the state comes there
abbrev pub after_edit : {S : Type 0} → History S → S → History S
after_edit h s = record { limit = h.limit; states = take (h.place + 1) h.states ++ s ∷ []; place = h.place + 1; own = h.own }

-- one place back; at the first there is none
abbrev pub after_undo : {S : Type 0} → History S → History S
after_undo h = record { limit = h.limit; states = h.states; place = h.place - 1; own = h.own }

-- one place on; at the last there is none
abbrev pub after_redo : {S : Type 0} → History S → History S
after_redo h = record { limit = h.limit; states = h.states; place = if nat_lt (h.place + 1) (length h.states) then h.place + 1 else h.place; own = h.own }

-- the place is in the list
abbrev pub IsHistory : {S : Type 0} → History S → Type 0
IsHistory h = h.place < length h.states

-- edits that lead to these states, one after another
abbrev pub after_edits : {S : Type 0} → History S → List S → History S
after_edits h [] = h
after_edits h (s ∷ ss) = after_edits (after_edit h s) ss

abbrev pub after_undos : {S : Type 0} → ℕ → History S → History S
after_undos zero h = h
after_undos (suc n) h = after_undos n (after_undo h)

abbrev pub after_redos : {S : Type 0} → ℕ → History S → History S
after_redos zero h = h
after_redos (suc n) h = after_redos n (after_redo h)

-- this is the state at the place
abbrev pub IsAt : {S : Type 0} → History S → S → Type 0
IsAt h s = slice_get h.states h.place ≡ Some s

-- a step leads from one place of a list to another, and fits there
pub record LeadsBetween {S B : Type 0} (prior : S → B → S) (fits : S → B → Type 0) (states : List S) (from to : ℕ) (step : B) : Type 0 where
  pub state : S
  pub stood : slice_get states from ≡ Some state
  pub fitted : fits state step
  pub led : slice_get states to ≡ Some (prior state step)

-- a change leads from the state at the place to a new one, which comes after it
pub record Edits {S C : Type 0} (leads : S → C → S → Type 0) (change : C) (old new : History S) : Type 0 where
  pub from : S
  pub to : S
  pub stood : IsAt old from
  pub led : leads from change to
  pub edited : new ≡ after_edit old to

-- a change leaves a step behind at the place, which is the next one back, and nothing can be redone
pub record Adds {S C B : Type 0} (leaves : S → C → B → Type 0) (change : C) (old new : Kept S B) : Type 0 where
  pub step : B
  pub from : S
  pub stood : IsAt old.history from
  pub left : leaves from change step
  pub undo : new.undo ≡ step ∷ old.undo
  pub redo : new.redo ≡ []

-- the first step of one list is taken at the place, and what leads there again comes first in the other
pub record Moves {S B : Type 0} (turns : S → B → B → Type 0) (old : History S) (from from' to to' : List B) : Type 0 where
  pub step : B
  pub again : B
  pub at : S
  pub stood : IsAt old at
  pub turned : turns at step again
  pub taken : from ≡ step ∷ from'
  pub put : to' ≡ again ∷ to

-- each step that is kept is of this sort where the steps before it lead
pub record AllAre {S B : Type 0} (prior : S → B → S) (sort : S → B → Type 0) (k : Kept S B) : Type 0 where
  pub now : S
  pub at : IsAt k.history now
  pub undo : FitInTurn prior sort now k.undo
  pub redo : FitInTurn prior sort now k.redo

-- a change is refused at the place
pub record Refuses {S C R : Type 0} (refuses : S → C → R → Type 0) (change : C) (old : History S) (refusal : R) : Type 0 where
  pub at : S
  pub stood : IsAt old at
  pub refused : refuses at change refusal
