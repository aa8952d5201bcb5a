-- An accepted edit leads from a map that can be written and read back to another, and so do all actions of a history.
use Rattle.std.proofs.Common.{◌≡◌, ℕ, zero, suc, ◌+◌, ◌≤◌, List, [], ◌∷◌, length, take, Option, Some, None, Result, Ok, Err, IfOk, All, slice_get, refl, sym, subst}
use Rattle.std.proofs.lemmas.List.Elements.{All-nil, All-cons, All-head, All-tail, All-push, All-take, All-weaker}
use Rattle.std.proofs.lemmas.Option.{none-some, same_Some}
use Rattle.journal_core.specs.History.{History, IsAt}
use Rattle.rdl_tree.specs.Items.{Items}
use Rattle.rdl_tree.specs.Limits.{IsWithinLimits}
use Rattle.rdl_tree.specs.declared.fault.Fault.{Fault}
use Rattle.rdl_parse.specs.Faults.{max_text}
use Rattle.rdl_parse.specs.Parsing.{SpellsText}
use Rattle.rdl_parse.specs.Places.{Located}
use Rattle.rdl_scope.specs.ItemFaults.{fault_of}
use Rattle.rdl_elab.specs.Faults.{elaborated}
use Rattle.rdl_elab.specs.declared.row.Row.{Row}
use Rattle.rdl_rewrite.specs.Rewritten.{rewritten}
use Rattle.rdl_rewrite.specs.declared.edit.Edit.{Edit}
use Rattle.rdl_rewrite.specs.declared.edit.PatchRefusal.{PatchRefusal}
use Rattle.rdl_write.specs.MapText.{map_text}
use Rattle.rdl_edit.specs.Step.{State, HasRows, judged, judged_anew, step}
use Rattle.rdl_round.specs.Writable.{ReadsBack, IsWritable}
use Rattle.run_laws.specs.Histories.{Action, edit, undo, redo, Acts, Follows, BringWords, begun}
use Rattle.run_laws.specs.NewParts.{IsEditOfWords, IsEditSpellable}
use Rattle.rdl_round.specs.OfWords.{IsOfWords}
use Rattle.rdl_round.specs.Spellable.{IsSpellable}
use Rattle.rdl_round.proofs.Faultless.{fitting, spellable}
use Rattle.run_laws.proofs.WithRows.{without-fault}
use Rattle.rdl_round.proofs.FewSizes.{text-fits}
use Rattle.rdl_round.proofs.FreeNames.{AreNamesFree}
use Rattle.run_laws.proofs.KeptNames.{kept-free}
use Rattle.rdl_round.proofs.MadeOfWords.{spelled-made}
use Rattle.run_laws.proofs.NewWords.{kept-words}
use Rattle.rdl_round.proofs.Parsed.{faultless-parses, faultless-parses-again}
use Rattle.rdl_round.proofs.Spelled.{spelled-spellable}

pub rows-within : (d : Items) (option : Option (List ℕ)) (rows : List Row) → elaborated d option ≡ Ok rows → IsWithinLimits d
rows-within d option rows e = fitting d (without-fault d option rows e)

pub rows-short : (text : List ℕ) (d : Items) (p : Located) (option : Option (List ℕ)) (rows : List Row) → SpellsText text d p → elaborated d option ≡ Ok rows → length (map_text d) ≤ max_text
rows-short text d p option rows s e = text-fits d (spelled-made text s.ws d s.spots s.has_words.cut s.spelled) (without-fault d option rows e)

pub rows-read-back : (text : List ℕ) (d : Items) (p : Located) (option : Option (List ℕ)) (rows : List Row) → SpellsText text d p → elaborated d option ≡ Ok rows → ReadsBack d
rows-read-back text d p option rows s e = faultless-parses-again text d p s (without-fault d option rows e)

-- ---- One edit.

-- what holds of the edited description holds of an accepted one, which has no fault besides
accepted : (P : Items → Type 0) (option : Option (List ℕ)) (made : Result Items PatchRefusal) → IfOk made P → IfOk (judged_anew option made) (λ s. P s.description × (fault_of s.description ≡ None))
accepted P option (Err refusal) h = tt
accepted P option (Ok d) h = by (elaborated d option) refl
  where
    by : (r : Result (List Row) Fault) → elaborated d option ≡ r → IfOk (judged (record { description = d; option = option }) r) (λ s. P s.description × (fault_of s.description ≡ None))
    by (Ok rows) e = (h, without-fault d option rows e)
    by (Err fault) e = tt

stepped : (P : Items → Type 0) (old : State) (e : Edit) (new : State) → step old e ≡ Ok new → IfOk (rewritten old.description e) P → P new.description × (fault_of new.description ≡ None)
stepped P old e new led h = subst (λ r. IfOk r (λ s. P s.description × (fault_of s.description ≡ None))) led (accepted P old.option (rewritten old.description e) h)

pub step-spellable : (old : State) (e : Edit) (new : State) → step old e ≡ Ok new → IsSpellable old.description → IsEditSpellable e → IsSpellable new.description
step-spellable old e new led h brings =
    let free = stepped AreNamesFree old e new led (kept-free old.description e brings h) in
    spellable new.description free.1 free.0

pub step-of-words : (old : State) (e : Edit) (new : State) → step old e ≡ Ok new → IsOfWords old.description → IsEditOfWords e → IsOfWords new.description
step-of-words old e new led h brings = (stepped IsOfWords old e new led (kept-words old.description e brings h)).0

step-faultless : (old : State) (e : Edit) (new : State) → step old e ≡ Ok new → IsOfWords old.description → IsEditOfWords e → fault_of new.description ≡ None
step-faultless old e new led h brings = (stepped IsOfWords old e new led (kept-words old.description e brings h)).1

pub step-writable : (old : State) (e : Edit) (new : State) → step old e ≡ Ok new → IsEditOfWords e → IsEditSpellable e → IsWritable old.description → IsWritable new.description
step-writable old e new led words spells w =
    record { of_words = step-of-words old e new led w.of_words words; spellable = step-spellable old e new led w.spellable spells; within = fitting new.description (step-faultless old e new led w.of_words words) }

pub reads-back : (d : Items) → IsWritable d → fault_of d ≡ None → ReadsBack d
reads-back d w clear = faultless-parses d w.of_words w.spellable clear

pub edited-reads-back : (text : List ℕ) (old new : State) (p : Located) (e : Edit) → SpellsText text old.description p → IsEditOfWords e → IsEditSpellable e → step old e ≡ Ok new → ReadsBack new.description
edited-reads-back text old new p e s words spells led =
    let of_words = spelled-made text s.ws old.description s.spots s.has_words.cut s.spelled in
    let spelled = spelled-spellable s.ws old.description s.spots s.spelled in
    faultless-parses new.description (step-of-words old e new led of_words words) (step-spellable old e new led spelled spells) (step-faultless old e new led of_words words)

-- ---- A history.

abbrev IsStateWritable : State → Type 0
IsStateWritable s = IsWritable s.description

abbrev pub AreWritable : History State → Type 0
AreWritable h = All IsStateWritable h.states

-- it can be written and has no fault, so its text isn't too long
abbrev pub IsSound : State → Type 0
IsSound s = IsWritable s.description × (fault_of s.description ≡ None)

step-sound : (old : State) (e : Edit) (new : State) → step old e ≡ Ok new → IsEditOfWords e → IsEditSpellable e → IsSound old → IsSound new
step-sound old e new led words spells w = (step-writable old e new led words spells w.0, step-faultless old e new led w.0.of_words words)

pub at-place : (P : State → Type 0) (xs : List State) (n : ℕ) (s : State) → All P xs → slice_get xs n ≡ Some s → P s
at-place P [] n s all e = absurd (none-some s e)
at-place P (x ∷ xs) zero s all e = subst P (same_Some x s e) (All-head P x xs all)
at-place P (x ∷ xs) (suc n) s all e = at-place P xs n s (All-tail P x xs all) e

-- what an accepted edit keeps of a map is kept of all maps of a history
module _ (P : State → Type 0) (keeps : (old : State) (e : Edit) (new : State) → step old e ≡ Ok new → IsEditOfWords e → IsEditSpellable e → P old → P new) where
  acted : (old : History State) (action : Action) (actions : List Action) (new : History State) → Acts old action new → BringWords (action ∷ actions) → All P old.states → All P new.states × BringWords actions
  acted old (edit e) actions new acts brings all =
      let from = at-place P old.states old.place acts.from all acts.stood in
      let to = keeps acts.from e acts.to acts.led brings.0 brings.1 from in
      (subst (λ (h : History State). All P h.states) (sym acts.edited) (All-push P (take (old.place + 1) old.states) acts.to (All-take P (old.place + 1) old.states all) to), brings.2)
  acted old undo actions new acts brings all = (subst (λ (h : History State). All P h.states) (sym acts) all, brings)
  acted old redo actions new acts brings all = (subst (λ (h : History State). All P h.states) (sym acts) all, brings)

  along : (old new : History State) (actions : List Action) → All P old.states → BringWords actions → Follows old actions new → All P new.states
  along old new [] all brings follows = subst (λ (h : History State). All P h.states) (sym follows) all
  along old new (action ∷ actions) all brings follows =
      let next = acted old action actions follows.0 follows.1 brings all in
      along follows.0 new actions next.0 next.1 follows.2

pub followed : (old new : History State) (actions : List Action) → AreWritable old → BringWords actions → Follows old actions new → AreWritable new
followed = along IsStateWritable step-writable

pub followed-sound : (old new : History State) (actions : List Action) → All IsSound old.states → BringWords actions → Follows old actions new → All IsSound new.states
followed-sound = along IsSound step-sound

pub all-sound-read-back : (h : History State) → All IsSound h.states → All (λ s. ReadsBack s.description) h.states
all-sound-read-back h all = All-weaker IsSound (λ (s : State). ReadsBack s.description) (λ s w. reads-back s.description w.0 w.1) h.states all

pub begun-writable : (text : List ℕ) (start : State) (p : Located) (limit : ℕ) → SpellsText text start.description p → HasRows start → AreWritable (begun limit start)
begun-writable text start p limit s has =
    let d = start.description in
    let writable : IsWritable d = record {
      of_words = spelled-made text s.ws d s.spots s.has_words.cut s.spelled;
      spellable = spelled-spellable s.ws d s.spots s.spelled;
      within = rows-within d start.option has.rows has.are;
    } in
    All-cons IsStateWritable start [] writable (All-nil IsStateWritable)

begun-sound : (text : List ℕ) (start : State) (p : Located) (limit : ℕ) → SpellsText text start.description p → HasRows start → All IsSound (begun limit start).states
begun-sound text start p limit s has =
    let writable = All-head IsStateWritable start [] (begun-writable text start p limit s has) in
    All-cons IsSound start [] (writable, without-fault start.description start.option has.rows has.are) (All-nil IsSound)

pub all-read-back : (text : List ℕ) (start : State) (p : Located) (limit : ℕ) (actions : List Action) (h : History State)
    → SpellsText text start.description p → HasRows start → BringWords actions → Follows (begun limit start) actions h → All (λ s. ReadsBack s.description) h.states
all-read-back text start p limit actions h s has brings follows =
    all-sound-read-back h (followed-sound (begun limit start) h actions (begun-sound text start p limit s has) brings follows)

pub place-reads-back : (text : List ℕ) (start : State) (p : Located) (limit : ℕ) (actions : List Action) (h : History State) (now : State)
    → SpellsText text start.description p → HasRows start → BringWords actions → Follows (begun limit start) actions h → IsAt h now → ReadsBack now.description
place-reads-back text start p limit actions h now s has brings follows at =
    at-place (λ (z : State). ReadsBack z.description) h.states h.place now (all-read-back text start p limit actions h s has brings follows) at
