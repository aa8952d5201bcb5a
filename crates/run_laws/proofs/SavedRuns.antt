-- The session that a run of a map leaves spells the history to which its script led.
use Rattle.std.proofs.Common.{◌≡◌, ◌≤◌, inl, inr, ℕ, suc, Bool, true, false, List, [], ◌∷◌, Option, Some, All, IsUtf8, length, slice_get, refl, sym, ap, ◌∙◌, subst, arith}
use Rattle.std.specs.Prelude.{◌≢◌}
use Rattle.std.proofs.lemmas.List.Elements.{All-nil, All-cons}
use Rattle.std.proofs.lemmas.Option.{same_Some}
use Rattle.journal_core.specs.History.{History, IsAt}
use Rattle.rdl_tree.specs.Patch.{image}
use Rattle.rdl_tree.specs.declared.patch.Patch.{Patch}
use Rattle.rdl_script.specs.Commands.{lines_of}
use Rattle.rdl_edit.specs.OfEdits.{IsOfEdit}
use Rattle.rdl_edit.specs.Step.{State, HasRows}
use Rattle.rdl_edit.proofs.EditsLead.{edit-leads}
use Rattle.rdl_edit.proofs.OwnSteps.{back-there}
use Rattle.rdl_run.specs.Opening.{AllHaveRows, EachElaborates, OpensHistory}
use Rattle.rdl_run.specs.Output.{Output, RunsScript, IsOutput, LeavesOwn, Wrote}
use Rattle.rdl_run.specs.OwnSteps.{IsOwnSession, OpensOwn, SavesOwn, owned}
use Rattle.rdl_run.specs.Sessions.{LeadsAlong, Saves, SavesIf, is_session}
use Rattle.rdl_run.specs.declared.run.Options.{Options}
use Rattle.rdl_run.proofs.Continued.{good-run}
use Rattle.rdl_run.proofs.Openings.{opened-elaborates}
use Rattle.rdl_round.specs.Writable.{IsWritable}
use Rattle.rdl_session.specs.Text.{session_text, max_session}
use Rattle.rdl_session.specs.Spelling.{SpellsSession}
use Rattle.rdl_session.specs.Written.{session_lines}
use Rattle.rdl_session.specs.Writable.{IsWritablePatch, AreWritable}
use Rattle.rdl_session.proofs.Saved.{session-spells}
use Rattle.run_laws.specs.Stops.{SpellsHistory}
use Rattle.run_laws.proofs.Opened.{opened-writable}
use Rattle.run_laws.proofs.OpenedAgain.{rows-at, opened-again, back-by-any, on-by-any, opens-of-edits}
use Rattle.run_laws.proofs.SameOption.{opened-options, served-options}
use Rattle.run_laws.proofs.Scripted.{served, served-writable}
use Rattle.run_laws.proofs.Standing.{step-patches-between}
use Rattle.run_laws.proofs.Staying.{own-stays}
use Rattle.run_laws.proofs.Stepped.{at-place}

abbrev IsStateWritable : State → Type 0
IsStateWritable s = IsWritable s.description

-- ---- The steps of a history are its own, if they were at its beginning.

opened-own : (option : Option (List ℕ)) (limit : ℕ) (bytes : List ℕ) (h : History State) → is_session bytes ≡ false → OpensHistory option limit bytes h → h.own ≡ true
opened-own option limit bytes h unnamed (inl m) = ap (λ (k : History State). k.own) m.opened
opened-own option limit bytes h unnamed (inr o) = absurd (let w : true ≡ false = sym o.named ∙ unnamed in cc)

-- ---- They can be written.

-- a step that an edit left behind, between maps that can be written
left-writable : (start end : State) (step : List Patch) → HasRows start → IsStateWritable start → IsStateWritable end → end.description ≡ image step start.description → IsOfEdit start step → All IsWritablePatch step
left-writable start end step rows from to led (inl m) =
    let there : m.new.description ≡ end.description =
    ap (λ (s : State). s.description) (edit-leads start m.edit m.new rows m.led) ∙ ap (λ ps. image ps start.description) (sym m.are) ∙ sym led in
    subst (All IsWritablePatch) (sym m.are) (step-patches-between start m.edit m.new m.led from (subst IsWritable (sym there) to)).0
left-writable start end step rows from to led (inr t) =
    let there : end.description ≡ t.old.description =
    led ∙ ap (λ ps. image ps start.description) t.are ∙ ap (λ (s : State). s.description) (back-there t.old t.edit start t.has_rows t.led) in
    subst (All IsWritablePatch) (sym t.are) (step-patches-between t.old t.edit start t.led (subst IsWritable there to) from).1

along-writable : (own : Bool) (states : List State) (from to : ℕ) (step : List Patch) → own ≡ true → AllHaveRows states → All IsStateWritable states → LeadsAlong own states from to step → All IsWritablePatch step
along-writable own states from to step is_own rows all a =
    left-writable a.start a.end step (rows-at states from a.start rows a.stood) (at-place IsStateWritable states from a.start all a.stood) (at-place IsStateWritable states to a.end all a.reached) a.led (a.of_edit is_own)

all-each : {X : Type 0} (P : X → Type 0) (xs : List X) → ((i : ℕ) (x : X) → slice_get xs i ≡ Some x → P x) → All P xs
all-each P [] h = All-nil P
all-each P (x ∷ xs) h = All-cons P x xs (h 0 x refl) (all-each P xs (λ i. h (suc i)))

-- ---- The session of a run.

-- what is saved of a history whose steps are its own, between maps that can be written
saved-spells : (h : History State) (now : State) (message session : List ℕ) → h.own ≡ true → AllHaveRows h.states → All IsStateWritable h.states → IsAt h now → IsUtf8 session
    → Saves h message session false → SpellsHistory session now h
saved-spells h now message session own rows all at utf8 s =
    let same : s.now ≡ now = same_Some s.now now (sym s.at ∙ at) in
    let text = session_text (session_lines s.now.description s.undo s.redo) in
    let back : AreWritable s.undo = all-each (All IsWritablePatch) s.undo (λ i step e. along-writable h.own h.states _ _ step own rows all (s.back.each i step e)) in
    let on : AreWritable s.redo = all-each (All IsWritablePatch) s.redo (λ i step e. along-writable h.own h.states _ _ step own rows all (s.on.each i step e)) in
    let here : IsWritable s.now.description = at-place IsStateWritable h.states h.place s.now all s.at in
    let is : session ≡ text = s.saved.2 in
    let spelled : SpellsSession text s.now.description s.undo s.redo =
    session-spells s.now.description s.undo s.redo here back on (record { utf8 = subst IsUtf8 is utf8; short = s.saved.0 }) in
    record {
      undo = s.undo;
      redo = s.redo;
      back = s.back;
      on = s.on;
      spelled = subst (λ (t : State). SpellsSession session t.description s.undo s.redo) same (subst (λ t. SpellsSession t s.now.description s.undo s.redo) (sym is) spelled);
    }

saves-whole : (asked left_out : Bool) (h : History State) (message session : List ℕ) → asked ≡ true → left_out ≡ false → SavesIf asked h message session left_out → Saves h message session false
saves-whole true false h message session a l s = s
saves-whole true true h message session a l s = absurd (let w : true ≡ false = l in cc)
saves-whole false left_out h message session a l s = absurd (let w : false ≡ true = a in cc)

module _ (options : Options) (map script : List ℕ) (out : Output) (ran : RunsScript options map script out) where
  -- each place to which the script led elaborates
  pub run-elaborates : EachElaborates ran.runs.last
  run-elaborates =
      let s = ran.runs.serves in
      good-run ran.first ran.runs.last (lines_of script) s.replies s.ran (opened-elaborates options.top options.history map ran.first ran.opens)

  pub saved-session : is_session map ≡ false → options.session ≡ true → ran.runs.closes.no_session ≡ false → IsUtf8 out.session → SpellsHistory out.session ran.runs.closes.now ran.runs.last
  saved-session unnamed asked whole utf8 =
      let r = ran.runs in
      let does = served ran.first r.last (lines_of script) r.replies r.refuses r.serves in
      let own : r.last.own ≡ true = own-stays ran.first r.last does.0 does.2 ∙ opened-own options.top options.history map ran.first unnamed ran.opens in
      let all = served-writable ran.first r.last (lines_of script) r.replies r.refuses (opened-writable options.top options.history map ran.first ran.opens) r.serves in
      saved-spells r.last r.closes.now r.closes.of_session out.session own run-elaborates.rows all r.closes.at utf8
      (saves-whole options.session r.closes.no_session r.last r.closes.of_session out.session asked whole r.closes.saves)

  pub saved-opens : is_session map ≡ false → options.session ≡ true → ran.runs.closes.no_session ≡ false → IsUtf8 out.session
      → (limit : ℕ) → OpensHistory options.top limit out.session (record { limit = limit; states = ran.runs.last.states; place = ran.runs.last.place; own = false })
  saved-opens unnamed asked whole utf8 limit =
      let r = ran.runs in
      let same = served-options options.top ran.first r.last (lines_of script) r.replies r.refuses r.serves (opened-options options.top options.history map ran.first ran.opens) in
      opened-again options.top limit out.session r.closes.now r.last run-elaborates same r.closes.at utf8 (saved-session unnamed asked whole utf8)

-- ---- The session of any run that begins with steps of edits.

-- however the bytes are opened, with steps that edits left behind
abbrev pub StartsOwn : Option (List ℕ) → List ℕ → Type 0
StartsOwn option bytes = (limit : ℕ) (h : History State) (o : OpensHistory option limit bytes h) → OpensOwn o

pub map-starts : (option : Option (List ℕ)) (bytes : List ℕ) → is_session bytes ≡ false → StartsOwn option bytes
map-starts option bytes unnamed limit h (inl m) = tt
map-starts option bytes unnamed limit h (inr o) = absurd (let w : true ≡ false = sym o.named ∙ unnamed in cc)

own-spells : (h : History State) (now : State) (session : List ℕ) → AllHaveRows h.states → All IsStateWritable h.states → IsAt h now → IsUtf8 session → length session ≤ max_session
    → SavesOwn h session → SpellsHistory session now (owned h)
own-spells h now session rows all at utf8 short s =
    saved-spells (owned h) now [] session refl rows all at utf8
    (record { now = s.now; at = s.at; undo = s.undo; redo = s.redo; back = s.back; on = s.on; saved = (subst (λ t. length t ≤ max_session) s.is short, refl, s.is) })

session-short : (asked left_out : Bool) (h : History State) (message session : List ℕ) → SavesIf asked h message session left_out → length session ≤ max_session
session-short true false h message session s = subst (λ t. length t ≤ max_session) (sym s.saved.2) s.saved.0
session-short true true h message session s = subst (λ t. length t ≤ max_session) (sym s.saved.2) (omega arith)
session-short false left_out h message session s = subst (λ t. length t ≤ max_session) (sym s.1) (omega arith)

module _ (options : Options) (map script : List ℕ) (out : Output) (starts : StartsOwn options.top map) (wrote : Wrote options map script out) (ran : RunsScript options map script out)
    (is : wrote.is_output ≡ inr ran) (some : out.session ≢ []) where
  saves-own : SavesOwn ran.runs.last out.session
  saves-own = by (subst (λ (o : IsOutput options map script out). LeavesOwn o) is wrote.own (starts options.history ran.first ran.opens))
    where
      by : IsOwnSession ran.runs.last out.session → SavesOwn ran.runs.last out.session
      by (inl e) = absurd (some e)
      by (inr s) = s

  with-own-steps : SpellsHistory out.session ran.runs.closes.now (owned ran.runs.last)
  with-own-steps =
      let r = ran.runs in
      let all = served-writable ran.first r.last (lines_of script) r.replies r.refuses (opened-writable options.top options.history map ran.first ran.opens) r.serves in
      own-spells r.last r.closes.now out.session (run-elaborates options map script out ran).rows all r.closes.at wrote.texts.session
      (session-short options.session r.closes.no_session r.last r.closes.of_session out.session r.closes.saves) saves-own

  pub session-spelled : SpellsHistory out.session ran.runs.closes.now ran.runs.last
  session-spelled =
      let s = with-own-steps in
      record { undo = s.undo; redo = s.redo; back = back-by-any ran.runs.last s.undo s.back; on = on-by-any ran.runs.last s.redo s.on; spelled = s.spelled }

  same-options : All (λ s. s.option ≡ options.top) ran.runs.last.states
  same-options =
      let r = ran.runs in
      served-options options.top ran.first r.last (lines_of script) r.replies r.refuses r.serves (opened-options options.top options.history map ran.first ran.opens)

  pub session-opens : (limit : ℕ) → OpensHistory options.top limit out.session (record { limit = limit; states = ran.runs.last.states; place = ran.runs.last.place; own = false })
  session-opens limit =
      opened-again options.top limit out.session ran.runs.closes.now ran.runs.last (run-elaborates options map script out ran) same-options ran.runs.closes.at wrote.texts.session session-spelled

  -- and again with steps of edits
  pub session-starts : StartsOwn options.top out.session
  session-starts = opens-of-edits options.top ran.runs.last (run-elaborates options map script out ran) same-options ran.runs.closes.now ran.runs.closes.at out.session with-own-steps
