-- The first map of a history stays the first one, whatever actions follow.
use Rattle.std.proofs.Common.{◌≡◌, ℕ, zero, suc, ◌+◌, Bool, true, false, cond, List, [], ◌∷◌, ◌++◌, take, Option, Some, None, All, inl, inr, ◌⊎◌, Result, Ok, refl, ap, sym, ◌∙◌, subst, arith}
use Rattle.std.specs.Prelude.{slice_get, String, string_bytes}
use Rattle.std.specs.declared.alloc.Global.{Global}
use Rattle.std.specs.Option.{option_map_or}
use Rattle.std.proofs.lemmas.Bool.{false≢true}
use Rattle.std.proofs.lemmas.List.Elements.{All-head, All-tail}
use Rattle.journal_core.specs.History.{History, IsAt}
use Rattle.rdl_text.specs.Word.{Word}
use Rattle.rdl_text.specs.declared.fault.TextFault.{TextFault}
use Rattle.rdl_tree.specs.Items.{Items}
use Rattle.rdl_parse.specs.Parsing.{SpellsText}
use Rattle.rdl_parse.specs.Places.{Located}
use Rattle.rdl_parse.specs.Spelling.{Spells}
use Rattle.rdl_parse.specs.Symbol.{symbols}
use Rattle.rdl_parse.proofs.Exact.{one-spelled}
use Rattle.rdl_edit.specs.Step.{State}
use Rattle.rdl_origin.specs.Numbered.{origins_of}
use Rattle.rdl_origin.specs.Values.{AreValues}
use Rattle.rdl_origin.specs.View.{list_of}
use Rattle.rdl_script.specs.Commands.{lines_of}
use Rattle.rdl_session.specs.Reading.{source_in}
use Rattle.rdl_round.specs.Writable.{IsWritable}
use Rattle.rdl_weave.specs.InTurn.{KeepsOrder}
use Rattle.rdl_weave.specs.Untouched.{sizes_of}
use Rattle.rdl_weave.proofs.Fitting.{keeps_order_of}
use Rattle.rdl_run.specs.Answers.{Serves}
use Rattle.rdl_run.specs.Beside.{EditsOpened}
use Rattle.rdl_run.specs.Edited.{IsEdited, IsMade, KeepsUntouched, SpellsFirst, all_led_back}
use Rattle.rdl_run.specs.Opening.{OpensHistory, OpensMap}
use Rattle.rdl_run.specs.Sessions.{OpensSession, is_session}
use Rattle.rdl_run.specs.Sources.{source_of, without_source}
use Rattle.rdl_run.specs.declared.edited.Edited.{Edited}
use Rattle.rdl_run.specs.declared.edited.Edited.TheVariants.{Missing, Woven}
use Rattle.rdl_run.specs.declared.edited.Unwoven.TheVariants.{NotWoven}
use Rattle.rdl_run.specs.declared.run.Options.{Options}
use Rattle.rdl_run.proofs.LedBack.{led_from}
use Rattle.run_laws.specs.Found.{KeepsOrderOf}
use Rattle.run_laws.specs.Histories.{Action, edit, undo, redo, Acts, Follows, AllWritable}
use Rattle.run_laws.proofs.Opened.{opened-writable}
use Rattle.run_laws.proofs.Scripted.{served, served-writable}

first_taken : (ss more : List State) (p : ℕ) (s : State) → slice_get ss 0 ≡ Some s → slice_get (take (p + 1) ss ++ more) 0 ≡ Some s
first_taken [] more p s e = cc
first_taken (t ∷ ss) more p s e = let next : p + 1 ≡ suc p = omega arith in ap (λ n. slice_get (take n (t ∷ ss) ++ more) 0) next ∙ e

one_action : (old : History State) (a : Action) (new : History State) (s : State) → Acts old a new → slice_get old.states 0 ≡ Some s → slice_get new.states 0 ≡ Some s
one_action old (edit e) new s h f = ap (λ (q : History State). slice_get q.states 0) h.edited ∙ first_taken old.states (h.to ∷ []) old.place s f
one_action old undo new s h f = ap (λ (q : History State). slice_get q.states 0) h ∙ f
one_action old redo new s h f = ap (λ (q : History State). slice_get q.states 0) h ∙ f

first-stays : (old : History State) (actions : List Action) (new : History State) (s : State) → Follows old actions new → slice_get old.states 0 ≡ Some s → slice_get new.states 0 ≡ Some s
first-stays old [] new s h f = ap (λ (q : History State). slice_get q.states 0) h ∙ f
first-stays old (a ∷ actions) new s h f = first-stays h.0 actions new s h.2 (one_action old a h.0 s h.1 f)

pub stays_first : (option : Option (List ℕ)) (limit : ℕ) (bytes : List ℕ) (first : History State) (lines : List (List ℕ)) (text : List ℕ) (refuses : Bool) (last : History State) → is_session bytes ≡ false → OpensHistory option limit bytes first
    → Serves first lines text refuses last → SpellsFirst last bytes
stays_first option limit bytes first lines text refuses last plain (inl m) serves =
    let begin : slice_get first.states 0 ≡ Some m.first = ap (λ (q : History State). slice_get q.states 0) m.opened in
    let actions = served first last lines text refuses serves in
    record {
      is_text = m.opens.read.text;
      first = m.first;
      at = first-stays first actions.0 last m.first actions.2 begin;
      places = m.opens.places;
      spelled = m.opens.read.spelled;
      within = m.opens.read.is_within;
    }
stays_first option limit bytes first lines text refuses last plain (inr o) serves = absurd (false≢true (sym plain ∙ o.named))

writable_at : (ss : List State) (i : ℕ) (s : State) → All (λ (t : State). IsWritable t.description) ss → slice_get ss i ≡ Some s → IsWritable s.description
writable_at [] i s h e = cc
writable_at (t ∷ ss) zero s h e = let same : t ≡ s = cc in subst (λ (q : State). IsWritable q.description) same (All-head (λ (q : State). IsWritable q.description) t ss h)
writable_at (t ∷ ss) (suc i) s h e = writable_at ss i s (All-tail (λ (q : State). IsWritable q.description) t ss h) e

-- ---- What a run on a map makes.

-- what is known of it
record Made (options : Options) (map script canonical : List ℕ) (edited : Edited) (e : EditsOpened options map script canonical edited) : Type 0 where
  spells : SpellsFirst e.edits.last map
  writable : (s : State) → IsAt e.edits.last s → IsWritable s.description
  is_made : IsMade e.edits.last map canonical edited

made_of : (options : Options) (map script canonical : List ℕ) (edited : Edited) (e : EditsOpened options map script canonical edited) → source_in map ≡ None → is_session map ≡ false → options.edited ≡ true
    → Made options map script canonical edited e
made_of options map script canonical edited e none plain asked =
    let bare : without_source map ≡ map = ap (λ o. option_map_or (λ p. p.1) o map) none in
    let source : source_of map ≡ Some map = ap (λ o. option_map_or (λ p. Some p.0) o (cond (is_session map) None (Some map))) none ∙ ap (λ b. cond b None (Some map)) plain in
    let opens = subst (λ b. OpensHistory options.top options.history b e.first) bare e.opens in
    let last = e.edits.last in
    let writable = served-writable e.first last (lines_of script) e.edits.replies e.edits.refuses (opened-writable options.top options.history map e.first opens) e.edits.serves in
    let is = subst (λ o. IsEdited true last o canonical edited) source (subst (λ b. IsEdited b last (source_of map) canonical edited) asked e.edits.is) in
    record {
      spells = stays_first options.top options.history map e.first (lines_of script) e.edits.replies e.edits.refuses last plain opens e.edits.serves;
      writable = λ s at. writable_at last.states last.place s writable at;
      is_made = is.0;
    }

pub found : (options : Options) (map script canonical : List ℕ) (edited : Edited) → EditsOpened options map script canonical edited → source_in map ≡ None → is_session map ≡ false → options.edited ≡ true
    → edited ≡ Missing NotWoven → ⊥
found options map script canonical edited e none plain asked missing =
    let m = made_of options map script canonical edited e none plain asked in
    let made = subst (IsMade e.edits.last map canonical) missing m.is_made in
    made e.edits.now e.edits.at (m.writable e.edits.now e.edits.at) e.edits.spelled m.spells

-- ---- The order.

same_words : (vs ws : List Word) → ◌≡◌ {A = Result (List Word) TextFault} (Ok vs) (Ok ws) → vs ≡ ws
same_words vs ws e = cc

-- a text spells one map
same_map : (text : List ℕ) (d e : Items) (p q : Located) → SpellsText text d p → SpellsText text e q → d ≡ e
same_map text d e p q a b =
    let words = same_words a.ws b.ws (sym a.has_words.cut ∙ b.has_words.cut) in
    (one-spelled (symbols b.ws) d e a.spots b.spots (subst (λ ws. Spells (symbols ws) d a.spots) words a.spelled) b.spelled).0

same_state : (a b : State) → ◌≡◌ {A = Option State} (Some a) (Some b) → a ≡ b
same_state a b e = cc

ordered : (last : History State) (map text : List ℕ) → SpellsFirst last map → ((s : State) → IsAt last s → IsWritable s.description) → KeepsUntouched last map text → KeepsOrderOf last map text
ordered last map text spells writable k =
    let d = k.now.description in
    let w = writable k.now k.at in
    let t = all_led_back k.steps (origins_of d) in
    let l = led_from last k.now k.steps k.at k.back (omega (arith, w.within.many)) in
    let first : l.first ≡ spells.first = same_state l.first spells.first (sym l.at ∙ spells.at) in
    let s = k.woven.statements in
    let read : spells.first.description ≡ s.map = same_map map spells.first.description s.map spells.places s.places spells.spelled s.spelled in
    let values : AreValues 0 d t s.map = subst (AreValues 0 d t) (ap (λ (q : State). q.description) first ∙ read) l.of.values in
    let coarse_order = keeps_order_of map k.woven.laid t d s spells.is_text w values l.of.once l.of.order in
    record {
      laid = k.woven.laid;
      statements = s;
      now = k.now;
      at = k.at;
      steps = k.steps;
      back = k.back;
      order = by k.woven.order (λ e. subst (λ b. KeepsOrder map (sizes_of d) b k.woven.laid (list_of t)) (sym e) coarse_order);
    }
  where
    by : {A B : Type 0} → A ⊎ B → (B → A) → A
    by (inl h) f = h
    by (inr e) f = f e

pub in_order : (options : Options) (map script canonical : List ℕ) (text : String Global) (e : EditsOpened options map script canonical (Woven text)) → source_in map ≡ None → is_session map ≡ false → options.edited ≡ true
    → (string_bytes text ≡ map) ⊎ KeepsOrderOf e.edits.last map (string_bytes text)
in_order options map script canonical text e none plain asked =
    let m = made_of options map script canonical (Woven text) e none plain asked in by m.is_made.1 (ordered e.edits.last map (string_bytes text) m.spells m.writable)
  where
    by : {A B C : Type 0} → A ⊎ B → (B → C) → A ⊎ C
    by (inl h) f = inl h
    by (inr h) f = inr (f h)
