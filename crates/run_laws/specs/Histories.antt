-- What accepted edits, undos and redos make of a history, one after another.
-- own: SystemRDL 2.0 has no edits.
use Rattle.std.specs.Prelude.{◌≡◌, ℕ, Bool, true, List, [], ◌∷◌, Option, All}
use Rattle.journal_core.specs.History.{History, Edits, after_undo, after_redo}
use Rattle.rdl_rewrite.specs.declared.edit.Edit.{Edit}
use Rattle.rdl_parse.specs.Parsing.{SpellsText}
use Rattle.rdl_parse.specs.Places.{Located}
use Rattle.rdl_edit.specs.Step.{State, HasRows, Leads}
use Rattle.rdl_script.specs.Commands.{lines_of}
use Rattle.rdl_run.specs.Answers.{Serves}
use Rattle.rdl_run.specs.Opening.{OpensHistory}
use Rattle.rdl_round.specs.Writable.{ReadsBack, IsWritable}
use Rattle.run_laws.specs.NewParts.{IsEditOfWords, IsEditSpellable}

pub data Action : Type 0 where
  edit : Edit → Action
  undo : Action
  redo : Action

-- an edit that is accepted, or a step of the place back or on
abbrev pub Acts : History State → Action → History State → Type 0
Acts old (edit e) new = Edits Leads e old new
Acts old undo new = new ≡ after_undo old
Acts old redo new = new ≡ after_redo old

-- one after another
abbrev pub Follows : History State → List Action → History State → Type 0
Follows old [] new = new ≡ old
Follows old (action ∷ actions) new = (next : History State) × Acts old action next × Follows next actions new

-- what the edits bring is made of words, and a text can spell the items that they add
abbrev pub BringWords : List Action → Type 0
BringWords [] = Unit {0}
BringWords (edit e ∷ actions) = IsEditOfWords e × IsEditSpellable e × BringWords actions
BringWords (undo ∷ actions) = BringWords actions
BringWords (redo ∷ actions) = BringWords actions

-- a history that begins with this state
abbrev pub begun : ℕ → State → History State
begun limit s = record { limit = limit; states = s ∷ []; place = 0; own = true }

-- edits that bring only words, undos and redos made this history of a map with rows that the text spells
pub record BeganWith (text : List ℕ) (limit : ℕ) (h : History State) : Type 0 where
  pub start : State
  pub places : Located
  pub spelled : SpellsText text start.description places
  pub whole : HasRows start
  pub actions : List Action
  pub bring : BringWords actions
  pub follows : Follows (begun limit start) actions h

-- the lines of the script lead to this history from the one that the map or session opens
pub record ScriptLeads (option : Option (List ℕ)) (limit : ℕ) (bytes script : List ℕ) (last : History State) : Type 0 where
  pub first : History State
  pub opens : OpensHistory option limit bytes first
  pub replies : List ℕ
  pub refuses : Bool
  pub serves : Serves first (lines_of script) replies refuses last

-- ---- The maps of a history.

-- each reads back
abbrev pub AllReadBack : History State → Type 0
AllReadBack h = All (λ s. ReadsBack s.description) h.states

-- each can be written and read back
abbrev pub AllWritable : History State → Type 0
AllWritable h = All (λ s. IsWritable s.description) h.states

-- each has this option
abbrev pub AllHaveOption : Option (List ℕ) → History State → Type 0
AllHaveOption option h = All (λ s. s.option ≡ option) h.states
