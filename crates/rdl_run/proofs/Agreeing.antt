-- Two histories with the same maps and the same place answer each line alike. So the files of a run are a matter of its inputs alone.
use Rattle.std.proofs.Common.{◌≡◌, ◌≢◌, ◌⊎◌, inl, inr, ℕ, ◌+◌, ◌-◌, Bool, true, false, List, [], ◌∷◌, ◌++◌, length, take, Result, Ok, Err, refl, sym, ap, ◌∙◌, subst, arith}
use Rattle.std.specs.Prelude.{slice_get, nat_lt, if◌then◌else◌, ◌||◌}
use Rattle.std.specs.List.{list_any}
use Rattle.std.proofs.lemmas.Option.{same_Some}
use Rattle.journal_core.specs.History.{IsAt, after_edit, after_undo, after_redo}
use Rattle.rdl_tree.specs.View.{items_of}
use Rattle.rdl_tree.specs.declared.description.Item.{Item}
use Rattle.rdl_tree.specs.declared.path.Segment.{Segment}
use Rattle.rdl_elab.specs.Faults.{elaborated}
use Rattle.rdl_elab.specs.declared.row.Row.{Row}
use Rattle.rdl_header.specs.HeaderText.{header_of}
use Rattle.rdl_write.specs.MapText.{map_text}
use Rattle.rdl_rewrite.specs.declared.edit.Edit.{Edit}
use Rattle.rdl_rewrite.specs.declared.edit.Edit.TheVariants.{Add}
use Rattle.rdl_rewrite.specs.declared.place.Place.{Place}
use Rattle.rdl_edit.specs.Step.{State, step}
use Rattle.rdl_edit.specs.Step as edits
use Rattle.rdl_edit.specs.declared.refusal.Refusal.{Refusal}
use Rattle.rdl_edit.specs.declared.refusal.Refusal.TheVariants.{Memory}
use Rattle.rdl_script.specs.Commands.{Command, nothing, undo, redo, list, edit, add, refused, command_of, lines_of}
use Rattle.rdl_script.specs.declared.request.CommandFault.{CommandFault}
use Rattle.rdl_run.specs.Answers.{History', Made, NotMade, AnswersEdit, AnswersAdd, Answers, Run, is_refused}
use Rattle.rdl_run.specs.Closing.{IsHeaded, Heads, Closes, status_of}
use Rattle.rdl_run.specs.Output.{Output, Runs, IsOutput}
use Rattle.rdl_run.specs.Readings.{ReadsItems}
use Rattle.rdl_run.specs.Replies.{Said, done, listed, not_done}
use Rattle.rdl_run.specs.Sessions.{SavesIf}
use Rattle.rdl_run.specs.declared.reply.LineRefusal.TheVariants.{Command as OfCommand, Text, Edit as OfEdit, HistoryFull, NothingToUndo, NothingToRedo}
use Rattle.rdl_run.specs.declared.run.Options.{Options}
use Rattle.rdl_run.specs.declared.status.Status.{Status}
use Rattle.rdl_run.proofs.OpenedOnce.{ok-once, ok-or-err, true-or-false, statement-once, statement-or-fault, opened-agree, opened-or-not}

-- ---- Histories that are alike.

-- two histories with the same maps and the same place, whether or not their steps are their own
pub record AreAlike (h k : History') : Type 0 where
  pub limit : h.limit ≡ k.limit
  pub states : h.states ≡ k.states
  pub place : h.place ≡ k.place

pub alike-self : (h : History') → AreAlike h h
alike-self h = record { limit = refl; states = refl; place = refl }

pub alike-back : (h k : History') → AreAlike h k → AreAlike k h
alike-back h k a = record { limit = sym a.limit; states = sym a.states; place = sym a.place }

alike-moved : (h k new other : History') → AreAlike h k → new ≡ h → other ≡ k → AreAlike new other
alike-moved h k new other a e f = subst (λ n. AreAlike n other) (sym e) (subst (AreAlike h) (sym f) a)

-- what stands at the place of the one stands at the place of the other
stands-too : (h k : History') (s : State) → AreAlike h k → IsAt h s → IsAt k s
stands-too h k s a at = sym (λ i. slice_get (a.states i) (a.place i)) ∙ at

stands-once : (h : History') (s t : State) → IsAt h s → IsAt h t → s ≡ t
stands-once h s t at there = same_Some s t (sym at ∙ there)

alike-edit : (h k : History') (s t : State) → AreAlike h k → s ≡ t → AreAlike (after_edit h s) (after_edit k t)
alike-edit h k s t a e = record { limit = a.limit; states = λ i. take (a.place i + 1) (a.states i) ++ e i ∷ []; place = ap (λ n. n + 1) a.place }

alike-undo : (h k : History') → AreAlike h k → AreAlike (after_undo h) (after_undo k)
alike-undo h k a = record { limit = a.limit; states = a.states; place = ap (λ n. n - 1) a.place }

alike-redo : (h k : History') → AreAlike h k → AreAlike (after_redo h) (after_redo k)
alike-redo h k a = record { limit = a.limit; states = a.states; place = λ i. if nat_lt (a.place i + 1) (length (a.states i)) then a.place i + 1 else a.place i }

-- ---- One line.

-- it is done, or it can't be, and is refused and moves nothing
abbrev Turn : (History' → Type 0) → (old new : History') → (refuses : Bool) → Type 0
Turn does old new refuses = (does new × (refuses ≡ false)) ⊎ (((n : History') → does n → ⊥) × (new ≡ old) × (refuses ≡ true))

-- what can be done in one history can be done in one that is alike, and they stay alike
module _ (does : History' → History' → Type 0) (can-too : (h k m : History') → AreAlike h k → does h m → (n : History') × does k n)
    (stay-alike : (h k m n : History') → AreAlike h k → does h m → does k n → AreAlike m n) (h k new other : History') (b c : Bool) where
  turns-alike : AreAlike h k → Turn (does h) h new b → Turn (does k) k other c → AreAlike new other × (b ≡ c)
  turns-alike a (inl p) (inl q) = (stay-alike h k new other a p.0 q.0, p.1 ∙ sym q.1)
  turns-alike a (inl p) (inr q) = absurd (let n = can-too h k new a p.0 in q.0 n.0 n.1)
  turns-alike a (inr p) (inl q) = absurd (let m = can-too k h other (alike-back h k a) q.0 in p.0 m.0 m.1)
  turns-alike a (inr p) (inr q) = (alike-moved h k new other a p.1 q.1, p.2 ∙ sym q.2)

-- a line that moves nothing
abbrev Still : (told : Bool) → (old new : History') → (refuses : Bool) → Type 0
Still told old new refuses = (new ≡ old) × (refuses ≡ told)

still-alike : (told : Bool) (h k new other : History') (b c : Bool) → AreAlike h k → Still told h new b → Still told k other c → AreAlike new other × (b ≡ c)
still-alike told h k new other b c a p q = (alike-moved h k new other a p.0 q.0, p.1 ∙ sym q.1)

-- ---- An edit.

-- what is made in one history can be made in one that is alike
made-too : (e : Edit) (h k m : History') → AreAlike h k → Made h e m → (n : History') × Made k e n
made-too e h k m a made =
    let r = made.made in (
      after_edit k r.to,
      record {
        room = omega (arith, made.room, a.place, a.limit);
        made = record { from = r.from; to = r.to; stood = stands-too h k r.from a r.stood; led = r.led; edited = refl };
      },
    )

-- and both lead to histories that are alike
made-alike : (e : Edit) (h k m n : History') → AreAlike h k → Made h e m → Made k e n → AreAlike m n
made-alike e h k m n a made also =
    let r = made.made in
    let q = also.made in
    let from : r.from ≡ q.from = stands-once k r.from q.from (stands-too h k r.from a r.stood) q.stood in
    let to : r.to ≡ q.to = ok-once (step q.from e) r.to q.to (subst (λ s. step s e ≡ Ok r.to) from r.led) q.led in
    alike-moved (after_edit h r.to) (after_edit k q.to) m n (alike-edit h k r.to q.to a to) r.edited q.edited

-- each refusal but want of memory is that of the step
step-fails : (s : State) (e : Edit) (refusal : Refusal) → refusal ≢ Memory → edits.Refuses s e refusal → step s e ≡ Err refusal
step-fails s e Memory real h = absurd (real refl)
step-fails s e refusal real h = h

-- an edit that is refused isn't made
made-or-not : (h : History') (e : Edit) (refusal : Refusal) → NotMade h e refusal → (n : History') → Made h e n → ⊥
made-or-not h e refusal f n made =
    let r = made.made in
    let q = f.refused in
    let same : r.from ≡ q.at = stands-once h r.from q.at r.stood q.stood in
    ok-or-err (step q.at e) r.to refusal (subst (λ s. step s e ≡ Ok r.to) same r.led) (step-fails q.at e refusal f.real q.refused)

edit-turn : (h new : History') (e : Edit) (r : Said) → AnswersEdit h e r new → Turn (Made h e) h new (is_refused r)
edit-turn h new e done a = inl (a, refl)
edit-turn h new e (not_done HistoryFull) a = inr ((λ n made. omega (arith, made.room, a.0)), a.1, refl)
edit-turn h new e (not_done (OfEdit refusal)) a = inr (made-or-not h e refusal a.0, a.1, refl)
edit-turn h new e r a = absurd a

-- ---- An `add`.

record Added (path : List Segment) (place : Place) (text : List ℕ) (old new : History') : Type 0 where
  items : List Item
  read : ReadsItems text items
  made : Made old (Add path place (items_of items)) new

module _ (path : List Segment) (place : Place) (text : List ℕ) where
  abbrev adding : List Item → Edit
  adding items = Add path place (items_of items)

  added-too : (h k m : History') → AreAlike h k → Added path place text h m → (n : History') × Added path place text k n
  added-too h k m a d =
      let n = made-too (adding d.items) h k m a d.made in
      (n.0, record { items = d.items; read = d.read; made = n.1 })

  added-alike : (h k m n : History') → AreAlike h k → Added path place text h m → Added path place text k n → AreAlike m n
  added-alike h k m n a d b =
      let same = statement-once text d.items b.items d.read b.read in
      made-alike (adding b.items) h k m n a (subst (λ xs. Made h (adding xs) m) same d.made) b.made

  items-turn : (h new : History') (items : List Item) (b : Bool) → ReadsItems text items → Turn (Made h (adding items)) h new b → Turn (Added path place text h) h new b
  items-turn h new items b read (inl p) = inl (record { items = items; read = read; made = p.0 }, p.1)
  items-turn h new items b read (inr p) =
      inr ((λ n d. p.0 n (subst (λ xs. Made h (adding xs) n) (statement-once text d.items items d.read read) d.made)), p.1, p.2)

  add-turn : (h new : History') (r : Said) → AnswersAdd h path place text r new → Turn (Added path place text h) h new (is_refused r)
  add-turn h new (not_done (Text fault)) a = inr ((λ n d. statement-or-fault text d.items fault d.read a.0), a.1, refl)
  add-turn h new r a = items-turn h new a.items (is_refused r) a.read (edit-turn h new (adding a.items) r a.answers)

-- ---- Undo and redo.

abbrev Undone : (old new : History') → Type 0
Undone old new = (old.place ≢ 0) × (new ≡ after_undo old)

undone-too : (h k m : History') → AreAlike h k → Undone h m → (n : History') × Undone k n
undone-too h k m a u = (after_undo k, ((λ e. u.0 (a.place ∙ e)), refl))

undone-alike : (h k m n : History') → AreAlike h k → Undone h m → Undone k n → AreAlike m n
undone-alike h k m n a u v = alike-moved (after_undo h) (after_undo k) m n (alike-undo h k a) u.1 v.1

undo-turn : (h new : History') (r : Said) → Answers h undo r new → Turn (Undone h) h new (is_refused r)
undo-turn h new done a = inl (a, refl)
undo-turn h new (not_done NothingToUndo) a = inr ((λ n u. u.0 a.0), a.1, refl)
undo-turn h new r a = absurd a

abbrev Redone : (old new : History') → Type 0
Redone old new = (old.place + 1 ≢ length old.states) × (new ≡ after_redo old)

redone-too : (h k m : History') → AreAlike h k → Redone h m → (n : History') × Redone k n
redone-too h k m a u = (after_redo k, ((λ e. u.0 (ap (λ n. n + 1) a.place ∙ e ∙ sym (ap length a.states))), refl))

redone-alike : (h k m n : History') → AreAlike h k → Redone h m → Redone k n → AreAlike m n
redone-alike h k m n a u v = alike-moved (after_redo h) (after_redo k) m n (alike-redo h k a) u.1 v.1

redo-turn : (h new : History') (r : Said) → Answers h redo r new → Turn (Redone h) h new (is_refused r)
redo-turn h new done a = inl (a, refl)
redo-turn h new (not_done NothingToRedo) a = inr ((λ n u. u.0 a.0), a.1, refl)
redo-turn h new r a = absurd a

-- ---- Each command.

nothing-still : (h new : History') (r : Said) → Answers h nothing r new → Still false h new (is_refused r)
nothing-still h new done a = (a, refl)
nothing-still h new r a = absurd a

list-still : (h new : History') (r : Said) → Answers h list r new → Still false h new (is_refused r)
list-still h new (listed text) a = (a.1, refl)
list-still h new r a = absurd a

refused-still : (h new : History') (fault : CommandFault) (r : Said) → Answers h (refused fault) r new → Still true h new (is_refused r)
refused-still h new fault (not_done (OfCommand given)) a = (a.1, refl)
refused-still h new fault r a = absurd a

pub line-alike : (h k new other : History') (c : Command) (r q : Said) → AreAlike h k → Answers h c r new → Answers k c q other → AreAlike new other × (is_refused r ≡ is_refused q)
line-alike h k new other nothing r q a m n = still-alike false h k new other (is_refused r) (is_refused q) a (nothing-still h new r m) (nothing-still k other q n)
line-alike h k new other list r q a m n = still-alike false h k new other (is_refused r) (is_refused q) a (list-still h new r m) (list-still k other q n)
line-alike h k new other (refused fault) r q a m n =
    still-alike true h k new other (is_refused r) (is_refused q) a (refused-still h new fault r m) (refused-still k other fault q n)
line-alike h k new other undo r q a m n =
    turns-alike Undone undone-too undone-alike h k new other (is_refused r) (is_refused q) a (undo-turn h new r m) (undo-turn k other q n)
line-alike h k new other redo r q a m n =
    turns-alike Redone redone-too redone-alike h k new other (is_refused r) (is_refused q) a (redo-turn h new r m) (redo-turn k other q n)
line-alike h k new other (edit e) r q a m n =
    turns-alike (λ old. Made old e) (made-too e) (made-alike e) h k new other (is_refused r) (is_refused q) a (edit-turn h new e r m) (edit-turn k other e q n)
line-alike h k new other (add path place text) r q a m n =
    turns-alike (Added path place text) (added-too path place text) (added-alike path place text) h k new other (is_refused r) (is_refused q) a
    (add-turn path place text h new r m) (add-turn path place text k other q n)

-- ---- The lines one after another.

-- alike histories stay alike, and refuse a line both or neither
pub run-alike : (h k new other : History') (lines : List (List ℕ)) (rs qs : List Said) → AreAlike h k → Run h lines rs new → Run k lines qs other
    → AreAlike new other × (list_any is_refused rs ≡ list_any is_refused qs)
run-alike h k new other [] [] [] a m n = (alike-moved h k new other a m n, refl)
run-alike h k new other [] (r ∷ rs) qs a m n = absurd m
run-alike h k new other [] [] (q ∷ qs) a m n = absurd n
run-alike h k new other (line ∷ lines) [] qs a m n = absurd m
run-alike h k new other (line ∷ lines) (r ∷ rs) [] a m n = absurd n
run-alike h k new other (line ∷ lines) (r ∷ rs) (q ∷ qs) a m n =
    let first = line-alike h k m.0 n.0 (command_of line) r q a m.1 n.1 in
    let rest = run-alike m.0 n.0 new other lines rs qs first.0 m.2 n.2 in
    (rest.0, λ i. (first.1 i || rest.1 i))

-- ---- How a run closes.

headed-once : (r : Result (List ℕ) (List ℕ)) (message header said macros : List ℕ) (b c : Bool) → IsHeaded r message header b → IsHeaded r said macros c → (header ≡ macros) × (b ≡ c)
headed-once (Ok text) message header said macros b c h k = (h.1 ∙ sym k.1, h.2 ∙ sym k.2)
headed-once (Err name) message header said macros b c h k = (h.1 ∙ sym k.1, h.2 ∙ sym k.2)

-- a map has one header, or a clash
heads-once : (s : State) (message header said macros : List ℕ) (b c : Bool) → Heads s message header b → Heads s said macros c → (header ≡ macros) × (b ≡ c)
heads-once s message header said macros b c h k =
    let rows = ok-once (elaborated s.description s.option) h.laid_out.rows k.laid_out.rows h.laid_out.are k.laid_out.are in
    headed-once (header_of k.laid_out.rows) message header said macros b c (subst (λ (rs : List Row). IsHeaded (header_of rs) message header b) rows h.headed) k.headed

-- none is left out where none is asked for
none-left-out : (asked : Bool) (h : History') (message session : List ℕ) (left_out : Bool) → asked ≡ false → SavesIf asked h message session left_out → left_out ≡ false
none-left-out true h message session left_out e s = absurd (true-or-false true refl e)
none-left-out false h message session left_out e s = s.2

-- runs of alike histories close with the same map and header, and, where neither is asked for a session, with the same status
pub closes-alike : (asked also : Bool) (h k : History') (refuses : Bool) (message rdl header session : List ℕ) (status : Status)
    (said text macros saved : List ℕ) (answer : Status) → AreAlike h k → Closes asked h refuses message rdl header session status → Closes also k refuses said text macros saved answer
    → (rdl ≡ text) × (header ≡ macros) × (asked ≡ false → also ≡ false → status ≡ answer)
closes-alike asked also h k refuses message rdl header session status said text macros saved answer a c d =
    let now : c.now ≡ d.now = stands-once k c.now d.now (stands-too h k c.now a c.at) d.at in
    let heads : Heads d.now c.of_header header c.no_header = subst (λ s. Heads s c.of_header header c.no_header) now c.heads in
    let head = heads-once d.now c.of_header header d.of_header macros c.no_header d.no_header heads d.heads in (
      c.rdl_is ∙ ap (λ (s : State). map_text s.description) now ∙ sym d.rdl_is,
      head.0,
      λ e f.
          let whole = none-left-out asked h c.of_session session c.no_session e c.saves in
          let also_whole = none-left-out also k d.of_session saved d.no_session f d.saves in
          c.status_is ∙ (λ i. status_of refuses (head.1 i) ((whole ∙ sym also_whole) i)) ∙ sym d.status_is,
    )

-- ---- Whole runs.

-- two outputs have the same map and header, and, where this holds, the same status
abbrev pub AgreeWhere : (silent : Type 0) → Output → Output → Type 0
AgreeWhere silent out other = (out.rdl ≡ other.rdl) × (out.header ≡ other.header) × (silent → out.status ≡ other.status)

-- runs of one script from alike histories
pub runs-alike : (asked also : Bool) (h k : History') (script : List ℕ) (out other : Output) → AreAlike h k → Runs asked h script out → Runs also k script other
    → AgreeWhere ((asked ≡ false) × (also ≡ false)) out other
runs-alike asked also h k script out other a r q =
    let ran = run-alike h k r.last q.last (lines_of script) r.serves.replies q.serves.replies a r.serves.ran q.serves.ran in
    let same : r.refuses ≡ q.refuses = r.serves.refuses_is ∙ ran.1 ∙ sym q.serves.refuses_is in
    let closes : Closes asked r.last q.refuses r.message out.rdl out.header out.session out.status =
    subst (λ b. Closes asked r.last b r.message out.rdl out.header out.session out.status) same r.closes in
    let end = closes-alike asked also r.last q.last q.refuses r.message out.rdl out.header out.session out.status q.message other.rdl other.header other.session other.status
    ran.0 closes q.closes in
    (end.0, end.1, λ e. end.2 e.0 e.1)

-- runs of the same inputs
pub outputs-agree : (options : Options) (map script : List ℕ) (out other : Output) → IsOutput options map script out → IsOutput options map script other
    → AgreeWhere (options.session ≡ false) out other
outputs-agree options map script out other (inl r) (inl q) = (r.rdl ∙ sym q.rdl, r.header ∙ sym q.header, λ e. r.status ∙ sym q.status)
outputs-agree options map script out other (inl r) (inr q) = absurd (opened-or-not options.top options.history map q.first out.messages q.opens r.refused)
outputs-agree options map script out other (inr r) (inl q) = absurd (opened-or-not options.top options.history map r.first other.messages r.opens q.refused)
outputs-agree options map script out other (inr r) (inr q) =
    let same = opened-agree options.top options.history map r.first q.first r.opens q.opens in
    let end = runs-alike options.session options.session r.first q.first script out other (subst (AreAlike r.first) same (alike-self r.first)) r.runs q.runs in
    (end.0, end.1, λ e. end.2 (e, e))
