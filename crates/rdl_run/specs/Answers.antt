-- What each line of a script does to the history, and the run of a whole script. Own.
use Rattle.std.specs.Prelude.{◌≡◌, ◌≢◌, ℕ, ◌+◌, ◌<◌, ◌≤◌, Bool, true, false, List, [], ◌∷◌, length}
use Rattle.std.specs.List.{list_any}
use Rattle.journal_core.specs.History.{History, IsAt, Edits, after_undo, after_redo}
use Rattle.rdl_script.specs.Commands.{Command, nothing, undo, redo, list, edit, add, refused, command_of}
use Rattle.rdl_edit.specs.Step.{State, HasRows, Leads}
use Rattle.rdl_edit.specs.Step as edits
use Rattle.rdl_edit.specs.declared.refusal.Refusal.{Refusal}
use Rattle.rdl_edit.specs.declared.refusal.Refusal.TheVariants.{Memory}
use Rattle.rdl_list.specs.ListText.{list_lines}
use Rattle.rdl_rewrite.specs.declared.edit.Edit.{Edit}
use Rattle.rdl_rewrite.specs.declared.edit.Edit.TheVariants.{Add}
use Rattle.rdl_rewrite.specs.declared.place.Place.{Place}
use Rattle.rdl_tree.specs.View.{items_of}
use Rattle.rdl_tree.specs.declared.description.Item.{Item}
use Rattle.rdl_tree.specs.declared.path.Segment.{Segment}
use Rattle.rdl_run.specs.Known.{concat}
use Rattle.rdl_run.specs.Messages.{reply_text}
use Rattle.rdl_run.specs.Readings.{ReadsItems, RefusesItems}
use Rattle.rdl_run.specs.Replies.{Said, done, listed, not_done}
use Rattle.rdl_run.specs.declared.reply.LineRefusal.TheVariants.{Command as OfCommand, Text, Edit as OfEdit, HistoryFull, NothingToUndo, NothingToRedo}
use Rattle.journal_core.specs.History as history

abbrev pub History' : Type 0
History' = History State

-- the edit is made, where there is room; what could be redone is dropped
pub record Made (old : History') (e : Edit) (new : History') : Type 0 where
  pub room : old.place < old.limit
  pub made : Edits Leads e old new

-- it is refused at the place, not for want of memory
pub record NotMade (old : History') (e : Edit) (refusal : Refusal) : Type 0 where
  pub room : old.place < old.limit
  pub refused : history.Refuses edits.Refuses e old refusal
  pub real : refusal ≢ Memory

-- an edit: a full history is judged before the map
abbrev pub AnswersEdit : History' → Edit → Said → History' → Type 0
AnswersEdit old e done new = Made old e new
AnswersEdit old e (not_done HistoryFull) new = (old.limit ≤ old.place) × (new ≡ old)
AnswersEdit old e (not_done (OfEdit refusal)) new = NotMade old e refusal × (new ≡ old)
AnswersEdit old e r new = ⊥

-- an `add`: the text is judged before the edit
pub record AnswersItems (old : History') (path : List Segment) (place : Place) (text : List ℕ) (reply : Said) (new : History') : Type 0 where
  pub items : List Item
  pub read : ReadsItems text items
  pub answers : AnswersEdit old (Add path place (items_of items)) reply new

abbrev pub AnswersAdd : History' → List Segment → Place → List ℕ → Said → History' → Type 0
AnswersAdd old path place text (not_done (Text fault)) new = RefusesItems text fault × (new ≡ old)
AnswersAdd old path place text reply new = AnswersItems old path place text reply new

-- the lines of the rows of a map
pub record ListsRows (now : State) (text : List ℕ) : Type 0 where
  pub laid_out : HasRows now
  pub lines : text ≡ list_lines laid_out.rows

abbrev pub IsListOf : State → Said → Type 0
IsListOf now (listed text) = ListsRows now text
IsListOf now r = ⊥

-- those of the map at the place
pub record Lists (old : History') (text : List ℕ) : Type 0 where
  pub now : State
  pub at : IsAt old now
  pub rows : ListsRows now text

-- one line: a command, its reply, and the history before and after it; whatever is refused moves nothing
abbrev pub Answers : History' → Command → Said → History' → Type 0
Answers old nothing done new = new ≡ old
Answers old undo done new = (old.place ≢ 0) × (new ≡ after_undo old)
Answers old undo (not_done NothingToUndo) new = (old.place ≡ 0) × (new ≡ old)
Answers old redo done new = (old.place + 1 ≢ length old.states) × (new ≡ after_redo old)
Answers old redo (not_done NothingToRedo) new = (old.place + 1 ≡ length old.states) × (new ≡ old)
Answers old list (listed text) new = Lists old text × (new ≡ old)
Answers old (edit e) reply new = AnswersEdit old e reply new
Answers old (add path place text) reply new = AnswersAdd old path place text reply new
Answers old (refused fault) (not_done (OfCommand given)) new = (given ≡ fault) × (new ≡ old)
Answers old c r new = ⊥

-- the lines one after another
abbrev pub Run : History' → List (List ℕ) → List Said → History' → Type 0
Run old [] [] new = new ≡ old
Run old (line ∷ lines) (reply ∷ replies) new = (mid : History') × Answers old (command_of line) reply mid × Run mid lines replies new
Run old lines replies new = ⊥

abbrev pub is_refused : Said → Bool
is_refused done = false
is_refused (listed text) = false
is_refused (not_done refusal) = true

-- the messages, of lines that count from this number
abbrev pub messages_from : ℕ → List Said → List (List ℕ)
messages_from number [] = []
messages_from number (reply ∷ replies) = reply_text number reply ∷ messages_from (number + 1) replies

-- one line, which has this number: its message, and whether it is refused
pub record Replied (old : History') (line : List ℕ) (number : ℕ) (text : List ℕ) (refuses : Bool) (new : History') : Type 0 where
  pub reply : Said
  pub answers : Answers old (command_of line) reply new
  pub text_is : text ≡ reply_text number reply
  pub refuses_is : refuses ≡ is_refused reply

-- these lines: their messages in a row, and whether one is refused
pub record Serves (old : History') (lines : List (List ℕ)) (text : List ℕ) (refuses : Bool) (new : History') : Type 0 where
  pub replies : List Said
  pub ran : Run old lines replies new
  pub text_is : text ≡ concat (messages_from 1 replies)
  pub refuses_is : refuses ≡ list_any is_refused replies
