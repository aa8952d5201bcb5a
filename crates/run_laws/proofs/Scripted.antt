-- The lines of a script do nothing to a history but accepted edits, undos and redos, and what the edits bring is made of words.
use Rattle.std.proofs.Common.{◌≡◌, ℕ, Bool, List, [], ◌∷◌, length, ◌≤◌, Option, Ok, All, ◌⊎◌, inl, inr, arith, sym, subst}
use Rattle.journal_core.specs.History.{History, IsAt, Edits, after_undo, after_redo}
use Rattle.rdl_tree.specs.declared.path.Segment.{Segment}
use Rattle.rdl_tree.specs.View.{items_of}
use Rattle.rdl_parse.specs.Faults.{max_text}
use Rattle.rdl_parse.specs.FirstFault.{parse_reading}
use Rattle.rdl_parse.specs.Places.{Located}
use Rattle.rdl_rewrite.specs.declared.edit.Edit.{Edit}
use Rattle.rdl_rewrite.specs.declared.edit.Edit.TheVariants as edits
use Rattle.rdl_rewrite.specs.declared.place.Place.{Place}
use Rattle.rdl_edit.specs.Step.{State, Leads}
use Rattle.rdl_script.specs.Commands as commands
use Rattle.rdl_script.specs.Commands.{Command, command_of, lines_of}
use Rattle.rdl_script.specs.declared.request.CommandFault.{CommandFault}
use Rattle.rdl_run.specs.Answers.{AnswersEdit, AnswersItems, AnswersAdd, Answers, Run, Serves}
use Rattle.rdl_run.specs.Opening.{OpensHistory}
use Rattle.rdl_run.specs.Output.{Output, RunsScript}
use Rattle.rdl_run.specs.declared.run.Options.{Options}
use Rattle.rdl_round.specs.Writable.{ReadsBack, IsWritable}
use Rattle.run_laws.specs.Histories.{Action, edit, undo, redo, Follows, BringWords}
use Rattle.run_laws.proofs.Brought.{IsGood, BringsGood, line-good, read-good}
use Rattle.rdl_round.proofs.FewSizes.{text-fits}
use Rattle.run_laws.proofs.Opened.{opened-sound}
use Rattle.run_laws.proofs.Stepped.{IsSound, followed, followed-sound, all-sound-read-back, at-place}

abbrev pub BringsOnly : History State → History State → Type 0
BringsOnly old new = (actions : List Action) × BringWords actions × Follows old actions new

-- ---- One line, before the others.

still : (old mid new : History State) → mid ≡ old → BringsOnly mid new → BringsOnly old new
still old mid new same rest = subst (λ h. BringsOnly h new) same rest

edited : (old mid new : History State) (e : Edit) → IsGood e → Edits Leads e old mid → BringsOnly mid new → BringsOnly old new
edited old mid new e good made rest = (edit e ∷ rest.0, (good.0, good.1, rest.1), (mid, made, rest.2))

-- what each command may do, whatever the reply
edit-does : (old : History State) (e : Edit) (reply : _) (mid : History State) → AnswersEdit old e reply mid → (mid ≡ old) ⊎ Edits Leads e old mid
edit-does old e reply mid h = grind arith

add-does : (old : History State) (path : List Segment) (place : Place) (text : List ℕ) (reply : _) (mid : History State)
    → AnswersAdd old path place text reply mid → (mid ≡ old) ⊎ AnswersItems old path place text reply mid
add-does old path place text reply mid h = grind arith

undo-does : (old : History State) (reply : _) (mid : History State) → Answers old commands.undo reply mid → (mid ≡ old) ⊎ (mid ≡ after_undo old)
undo-does old reply mid h = grind arith

redo-does : (old : History State) (reply : _) (mid : History State) → Answers old commands.redo reply mid → (mid ≡ old) ⊎ (mid ≡ after_redo old)
redo-does old reply mid h = grind arith

nothing-does : (old : History State) (reply : _) (mid : History State) → Answers old commands.nothing reply mid → mid ≡ old
nothing-does old reply mid h = grind arith

list-does : (old : History State) (reply : _) (mid : History State) → Answers old commands.list reply mid → mid ≡ old
list-does old reply mid h = grind arith

refused-does : (old : History State) (fault : CommandFault) (reply : _) (mid : History State) → Answers old (commands.refused fault) reply mid → mid ≡ old
refused-does old fault reply mid h = grind arith

either : {A B C : Type 0} → (A → C) → (B → C) → A ⊎ B → C
either f g (inl a) = f a
either f g (inr b) = g b

answered-edit : (old : History State) (e : Edit) (reply : _) (mid new : History State) → IsGood e → AnswersEdit old e reply mid → BringsOnly mid new → BringsOnly old new
answered-edit old e reply mid new good h rest =
    either (λ same. still old mid new same rest) (λ made. edited old mid new e good made rest) (edit-does old e reply mid h)

answered-items : (old : History State) (path : List Segment) (place : Place) (text : List ℕ) (reply : _) (mid new : History State)
    → AnswersItems old path place text reply mid → BringsOnly mid new → BringsOnly old new
answered-items old path place text reply mid new h rest =
    answered-edit old (edits.Add path place (items_of h.items)) reply mid new (read-good path place text h.items h.read) h.answers rest

answered : (old : History State) (c : Command) (reply : _) (mid new : History State) → BringsGood c → Answers old c reply mid → BringsOnly mid new → BringsOnly old new
answered old (commands.edit e) reply mid new good h rest = answered-edit old e reply mid new good h rest
answered old (commands.add path place text) reply mid new good h rest =
    either (λ same. still old mid new same rest) (λ items. answered-items old path place text reply mid new items rest) (add-does old path place text reply mid h)
answered old commands.undo reply mid new good h rest =
    either (λ same. still old mid new same rest) (λ e. (undo ∷ rest.0, rest.1, (mid, e, rest.2))) (undo-does old reply mid h)
answered old commands.redo reply mid new good h rest =
    either (λ same. still old mid new same rest) (λ e. (redo ∷ rest.0, rest.1, (mid, e, rest.2))) (redo-does old reply mid h)
answered old commands.nothing reply mid new good h rest = still old mid new (nothing-does old reply mid h) rest
answered old commands.list reply mid new good h rest = still old mid new (list-does old reply mid h) rest
answered old (commands.refused fault) reply mid new good h rest = still old mid new (refused-does old fault reply mid h) rest

-- ---- A whole script.

ran : (old : History State) (lines : List (List ℕ)) (replies : List _) (new : History State) → Run old lines replies new → BringsOnly old new
ran old [] [] new h = ([], tt, h)
ran old [] (reply ∷ replies) new h = absurd h
ran old (line ∷ lines) [] new h = absurd h
ran old (line ∷ lines) (reply ∷ replies) new h =
    answered old (command_of line) reply h.0 new (line-good line) h.1 (ran h.0 lines replies new h.2)

pub served : (old new : History State) (lines : List (List ℕ)) (text : List ℕ) (refuses : Bool) → Serves old lines text refuses new → BringsOnly old new
served old new lines text refuses serves = ran old lines serves.replies new serves.ran

pub served-writable : (old new : History State) (lines : List (List ℕ)) (text : List ℕ) (refuses : Bool) → All (λ s. IsWritable s.description) old.states
    → Serves old lines text refuses new → All (λ s. IsWritable s.description) new.states
served-writable old new lines text refuses all serves =
    let only = served old new lines text refuses serves in
    followed old new only.0 all only.1 only.2

-- ---- From a map or a session that was opened.

-- each map to which a script leads can be written and has no fault
run-sound : (option : Option (List ℕ)) (limit : ℕ) (bytes : List ℕ) (first : History State) (script replies : List ℕ) (refuses : Bool) (last : History State)
    → OpensHistory option limit bytes first → Serves first (lines_of script) replies refuses last → All IsSound last.states
run-sound option limit bytes first script replies refuses last opens serves =
    let only = served first last (lines_of script) replies refuses serves in
    followed-sound first last only.0 (opened-sound option limit bytes first opens) only.1 only.2

pub run-reads-back : (option : Option (List ℕ)) (limit : ℕ) (bytes : List ℕ) (first : History State) (script replies : List ℕ) (refuses : Bool) (last : History State)
    → OpensHistory option limit bytes first → Serves first (lines_of script) replies refuses last → All (λ s. ReadsBack s.description) last.states
run-reads-back option limit bytes first script replies refuses last opens serves =
    all-sound-read-back last (run-sound option limit bytes first script replies refuses last opens serves)

pub place-of-run-reads-back : (option : Option (List ℕ)) (limit : ℕ) (bytes : List ℕ) (first : History State) (script replies : List ℕ) (refuses : Bool) (last : History State) (now : State)
    → OpensHistory option limit bytes first → Serves first (lines_of script) replies refuses last → IsAt last now → ReadsBack now.description
place-of-run-reads-back option limit bytes first script replies refuses last now opens serves at =
    at-place (λ (s : State). ReadsBack s.description) last.states last.place now (run-reads-back option limit bytes first script replies refuses last opens serves) at

-- the map's text that a run leaves is read as the map to which the script led
pub output-reads-back : (options : Options) (map script : List ℕ) (out : Output) (ran : RunsScript options map script out)
    → (p : Located) × (parse_reading out.rdl ≡ Ok (ran.runs.closes.now.description, p))
output-reads-back options map script out ran =
    let r = ran.runs in
    let now = r.closes.now in
    subst (λ text. (p : Located) × (parse_reading text ≡ Ok (now.description, p))) (sym r.closes.rdl_is)
    (place-of-run-reads-back options.top options.history map ran.first script r.replies r.refuses r.last now ran.opens r.serves r.closes.at)

-- and it isn't too long
pub output-short : (options : Options) (map script : List ℕ) (out : Output) → RunsScript options map script out → length out.rdl ≤ max_text
output-short options map script out ran =
    let r = ran.runs in
    let d = r.closes.now.description in
    let sound = at-place IsSound r.last.states r.last.place r.closes.now (run-sound options.top options.history map ran.first script r.replies r.refuses r.last ran.opens r.serves) r.closes.at in
    subst (λ text. length text ≤ max_text) (sym r.closes.rdl_is) (text-fits d sound.0.of_words sound.1)
