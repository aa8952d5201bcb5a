-- The edited text: that of MAP with only the edits woven in. Own.
use Rattle.std.specs.Prelude.{◌≡◌, ◌≢◌, ◌⊎◌, ◌&&◌, ⊤, Result, Ok, Err, ℕ, List, [], ◌∷◌, Bool, true, false, Option, Some, None, IsUtf8, String, string_bytes, slice_get}
use Rattle.journal_core.specs.History.{IsAt}
use Rattle.rdl_edit.specs.Step.{State}
use Rattle.rdl_origin.specs.Back.{all_gone_back, are_placed}
use Rattle.rdl_origin.specs.Numbered.{origins_of}
use Rattle.rdl_origin.specs.Traces.{Traces}
use Rattle.rdl_parse.specs.Parsing.{SpellsText}
use Rattle.rdl_parse.specs.Places.{Located}
use Rattle.rdl_round.specs.Writable.{IsWritable}
use Rattle.rdl_script.specs.Commands.{lines_of}
use Rattle.rdl_tree.specs.Limits.{IsWithinLimits}
use Rattle.rdl_tree.specs.declared.patch.Patch.{Patch}
use Rattle.rdl_write.specs.MapText.{map_text}
use Rattle.std.specs.declared.alloc.Global.{Global}
use Rattle.rdl_weave.specs.Spelled.{SpellsAs}
use Rattle.rdl_weave.specs.Weaving.{IsWoven}
use Rattle.rdl_weave.specs.declared.fault.WeaveFault.{WeaveFault}
use Rattle.rdl_weave.specs.declared.fault.WeaveFault.TheVariants as weave
use Rattle.rdl_run.specs.Answers.{History', Serves}
use Rattle.rdl_run.specs.Sessions.{LeadBack}
use Rattle.rdl_run.specs.declared.edited.Edited.{Edited}
use Rattle.rdl_run.specs.declared.edited.Edited.TheVariants.{NotAsked, Woven, Missing}
use Rattle.rdl_run.specs.declared.edited.Unwoven.{Unwoven}
use Rattle.rdl_run.specs.declared.edited.Unwoven.TheVariants.{TooLong, NotWoven, NoSource}

-- what became of items, from the last map back to where the steps lead
abbrev pub all_led_back : List (List Patch) → Traces → Traces
all_led_back [] t = t
all_led_back (step ∷ steps) t = all_led_back steps (all_gone_back step t)

-- each step has a place where those before it led
abbrev pub are_all_placed : List (List Patch) → Traces → Bool
are_all_placed [] t = true
are_all_placed (step ∷ steps) t = are_placed step t && are_all_placed steps (all_gone_back step t)

-- the text keeps of the source what no edit touched, as the steps say that lead from the place of a history back to its first map
pub record KeepsUntouched (h : History') (source text : List ℕ) : Type 0 where
  pub now : State
  pub at : IsAt h now
  pub steps : List (List Patch)
  pub back : LeadBack h steps
  pub woven : IsWoven source (all_led_back steps (origins_of now.description)) now.description text

-- the source is a text of the first map of a history
pub record SpellsFirst (h : History') (source : List ℕ) : Type 0 where
  pub is_text : IsUtf8 source
  pub first : State
  pub at : slice_get h.states 0 ≡ Some first
  pub places : Located
  pub spelled : SpellsText source first.description places
  pub within : IsWithinLimits first.description

-- a text is found where the source is so, and the map at the place of the history can be written, with this canonical text
abbrev pub IsMissing : History' → (source canonical : List ℕ) → Unwoven → Type 0
IsMissing h source canonical NotWoven = (now : State) → IsAt h now → IsWritable now.description → map_text now.description ≡ canonical → SpellsFirst h source → ⊥
IsMissing h source canonical TooLong = ⊤
IsMissing h source canonical NoSource = ⊥

-- what is woven is read as a map with this canonical text, and is the source or keeps what no edit touched of it
abbrev pub IsMade : History' → (source canonical : List ℕ) → Edited → Type 0
IsMade h source canonical NotAsked = ⊥
IsMade h source canonical (Woven text) = SpellsAs canonical (string_bytes text) × ((string_bytes text ≡ source) ⊎ KeepsUntouched h source (string_bytes text))
IsMade h source canonical (Missing why) = IsMissing h source canonical why

-- what is said in place of a text that can't be woven
abbrev pub IsLeft : WeaveFault → Edited → Type 0
IsLeft weave.Memory edited = ⊥
IsLeft weave.TooLong edited = edited ≡ Missing TooLong
IsLeft weave.NotWoven edited = edited ≡ Missing NotWoven

-- of what was woven a text is taken: any where all steps led back, else the source alone; one that can't be taken is missing
abbrev pub IsTaken : (whole : Bool) → (source : List ℕ) → Result (String Global) WeaveFault → Edited → Type 0
IsTaken whole source (Ok text) NotAsked = ⊥
IsTaken whole source (Ok text) (Woven taken) = (taken ≡ text) × ((whole ≡ true) ⊎ (string_bytes text ≡ source))
IsTaken whole source (Ok text) (Missing why) = (why ≡ NotWoven) × (whole ≡ false) × (string_bytes text ≢ source)
IsTaken whole source (Err fault) edited = IsLeft fault edited

-- the text is there, and is the source
abbrev pub IsSource : (source : List ℕ) → Edited → Type 0
IsSource source NotAsked = ⊥
IsSource source (Woven text) = string_bytes text ≡ source
IsSource source (Missing why) = ⊥

-- where the source is read as a map with this canonical text, it is the edited text: no net change, the same bytes
abbrev pub IsSame : (source canonical : List ℕ) → Edited → Type 0
IsSame source canonical edited = SpellsAs canonical source → IsSource source edited

-- of what is asked for, without a source there is none
abbrev pub IsAsked : History' → (source : Option (List ℕ)) → (canonical : List ℕ) → Edited → Type 0
IsAsked h None canonical edited = edited ≡ Missing NoSource
IsAsked h (Some source) canonical edited = IsMade h source canonical edited × (IsUtf8 source → IsSame source canonical edited)

-- the edited text at the place of a history whose first map has this source, and whose map there this canonical text
abbrev pub IsEdited : (asked : Bool) → History' → (source : Option (List ℕ)) → (canonical : List ℕ) → Edited → Type 0
IsEdited false h source canonical edited = edited ≡ NotAsked
IsEdited true h source canonical edited = IsAsked h source canonical edited

-- the same where the lines of a script lead, with the canonical text of the map there
pub record EditsScript (asked : Bool) (first : History') (script : List ℕ) (source : Option (List ℕ)) (canonical : List ℕ) (edited : Edited) : Type 0 where
  pub last : History'
  pub replies : List ℕ
  pub refuses : Bool
  pub serves : Serves first (lines_of script) replies refuses last
  pub now : State
  pub at : IsAt last now
  pub spelled : map_text now.description ≡ canonical
  pub is : IsEdited asked last source canonical edited
