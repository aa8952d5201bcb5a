-- A comparison of two maps or sessions: from their bytes to the text that is written, and the status. Own.
use Rattle.std.specs.Prelude.{◌≡◌, ◌⊎◌, ℕ, List, [], ◌∷◌, Option, Ok, codes}
use Rattle.std.specs.Io.KnownBytes.{Appends}
use Rattle.std.specs.List.{flat_map}
use Rattle.rdl_edit.specs.Step.{State}
use Rattle.rdl_elab.specs.Faults.{elaborated}
use Rattle.rdl_elab.specs.declared.row.Row.{Row}
use Rattle.rdl_diff.specs.Written.{diff_text, diff_texts}
use Rattle.rdl_run.specs.Known.{Gives, AppendsFront, AppendsSome}
use Rattle.rdl_run.specs.OpenedRows.{OpensRows}
use Rattle.rdl_run.specs.Opening.{RefusesToOpen}
use Rattle.rdl_run.specs.Sources.{without_source}
use Rattle.rdl_run.specs.declared.status.RunFault.{RunFault}
use Rattle.rdl_run.specs.declared.status.RunFault.TheVariants.{Write, Memory}
use Rattle.rdl_run.specs.Fronts.{with_front}
use Rattle.rdl_diff.specs.Endings.{status_of}
use Rattle.rdl_diff.specs.declared.choice.Choice.{Choice}
use Rattle.rdl_diff.specs.declared.status.Status.{Status}
use Rattle.rdl_diff.specs.declared.status.Status.TheVariants.{MapRefused}

-- what is written, and how the comparison ends
pub record Output : Type 0 where
  pub text : List ℕ
  pub status : Status

-- the rows for which bytes stand in a comparison: those of the map or session; no bytes are a map without rows
abbrev pub StandsFor : (top : Option (List ℕ)) → (bytes : List ℕ) → List Row → Type 0
StandsFor top [] rows = rows ≡ []
StandsFor top (b ∷ bytes) rows = OpensRows top (b ∷ bytes) rows

-- and the message with which they are refused
abbrev pub RefusesToCompare : (top : Option (List ℕ)) → (bytes message : List ℕ) → Type 0
RefusesToCompare top [] message = ⊥
RefusesToCompare top (b ∷ bytes) message = RefusesToOpen top (b ∷ bytes) message

-- the bytes are no map or session that is accepted, and this is said of it
pub record Refuses (word : List ℕ) (top : Option (List ℕ)) (bytes text : List ℕ) : Type 0 where
  pub message : List ℕ
  pub refused : RefusesToCompare top bytes message
  pub is : text ≡ with_front word message

-- both maps are accepted: what differs is written
pub record Compares (top : Option (List ℕ)) (c : Choice) (old new : List ℕ) (out : Output) : Type 0 where
  pub old_rows : List Row
  pub new_rows : List Row
  pub of_old : StandsFor top old old_rows
  pub of_new : StandsFor top new new_rows
  pub text : out.text ≡ diff_text c old_rows new_rows
  pub status : out.status ≡ status_of out.text

-- the first is refused
pub record RefusesOld (top : Option (List ℕ)) (old new : List ℕ) (out : Output) : Type 0 where
  pub refused : Refuses (codes "old") top old out.text
  pub status : out.status ≡ MapRefused

-- the second is, and the first is not
pub record RefusesNew (top : Option (List ℕ)) (old new : List ℕ) (out : Output) : Type 0 where
  pub rows : List Row
  pub accepted : StandsFor top old rows
  pub refused : Refuses (codes "new") top new out.text
  pub status : out.status ≡ MapRefused

abbrev pub IsOutput : (top : Option (List ℕ)) → Choice → (old new : List ℕ) → Output → Type 0
IsOutput top c old new out = RefusesOld top old new out ⊎ (RefusesNew top old new out ⊎ Compares top c old new out)

-- nothing is said of the two maps, where both elaborate
abbrev pub HaveNoLines : (old new : State) → Type 0
HaveNoLines old new =
    (c : Choice) (old_rows new_rows : List Row) → elaborated old.description old.option ≡ Ok old_rows → elaborated new.description new.option ≡ Ok new_rows
    → diff_text c old_rows new_rows ≡ []

-- ---- What a comparison leaves in its output.

-- all was written, on bytes that are the readers' where those are known
pub record Ran (top : Option (List ℕ)) (c : Choice) (old new : Option (List ℕ)) (before after : Option (List ℕ)) (status : Status) : Type 0 where
  pub old_bytes : List ℕ
  pub new_bytes : List ℕ
  pub old_given : Gives old old_bytes
  pub new_given : Gives new new_bytes
  pub out : Output
  pub is_output : IsOutput top c (without_source old_bytes) (without_source new_bytes) out
  pub wrote : Appends before after out.text
  pub answer : status ≡ out.status

-- a front of it was
pub record Fronts (top : Option (List ℕ)) (c : Choice) (old new : Option (List ℕ)) (before after : Option (List ℕ)) : Type 0 where
  pub old_bytes : List ℕ
  pub new_bytes : List ℕ
  pub old_given : Gives old old_bytes
  pub new_given : Gives new new_bytes
  pub out : Output
  pub is_output : IsOutput top c (without_source old_bytes) (without_source new_bytes) out
  pub wrote : AppendsFront before after out.text

-- the first of the texts were, whole ones
pub record FirstLines (top : Option (List ℕ)) (c : Choice) (old new : Option (List ℕ)) (before after : Option (List ℕ)) : Type 0 where
  pub old_bytes : List ℕ
  pub new_bytes : List ℕ
  pub old_given : Gives old old_bytes
  pub new_given : Gives new new_bytes
  pub old_rows : List Row
  pub new_rows : List Row
  pub of_old : StandsFor top (without_source old_bytes) old_rows
  pub of_new : StandsFor top (without_source new_bytes) new_rows
  pub wrote : AppendsSome before after (diff_texts c old_rows new_rows)

-- nothing is written before both maps are read and judged; want of memory may come between two texts, or before the first
abbrev pub Stopped : (top : Option (List ℕ)) → Choice → (old new : Option (List ℕ)) → (before after : Option (List ℕ)) → RunFault → Type 0
Stopped top c old new before after Write = Fronts top c old new before after
Stopped top c old new before after Memory = (after ≡ before) ⊎ FirstLines top c old new before after
Stopped top c old new before after fault = after ≡ before

-- ---- The texts of the lines of two maps.

-- all are written, and the status says whether there is one
pub record WritesLines (ts : List (List ℕ)) (before after : Option (List ℕ)) (status : Status) : Type 0 where
  pub wrote : Appends before after (flat_map (λ t. t) ts)
  pub answer : status ≡ status_of (flat_map (λ t. t) ts)

-- a write that fails leaves a front of them; want of memory comes between two
abbrev pub StopsLines : (texts : List (List ℕ)) → (before after : Option (List ℕ)) → RunFault → Type 0
StopsLines ts before after Write = AppendsFront before after (flat_map (λ t. t) ts)
StopsLines ts before after Memory = AppendsSome before after ts
StopsLines ts before after fault = ⊥
