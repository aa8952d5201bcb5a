-- A session that spells a history opens it again: the same list of maps, at the same place.
use Rattle.std.proofs.Common.{◌≡◌, ℕ, zero, suc, ◌+◌, ◌-◌, ◌<◌, Bool, true, false, List, [], ◌∷◌, ◌++◌, length, Option, Some, None, All, IsUtf8, inl, inr, refl, sym, ap, ◌∙◌, subst, arith, slice_get, length-append}
use mathlib.Core.List.{reverse}
use Rattle.std.proofs.lemmas.List.{length-reverse, reverse-reverse}
use Rattle.std.proofs.lemmas.Option.{none-some, same_Some, slice_get_within}
use Rattle.std.specs.Option.{option_or}
use Rattle.std.specs.Prelude.{map}
use Rattle.journal_core.specs.Along.{FitInTurn, led_through}
use Rattle.journal_core.specs.History.{History, IsAt}
use Rattle.journal_core.proofs.Ways.{get-reverse, from-the-end}
use Rattle.rdl_tree.specs.Patch.{AllFit, image}
use Rattle.rdl_tree.specs.declared.patch.Patch.{Patch}
use Rattle.rdl_session.specs.Text.{SessionLines, session_text}
use Rattle.rdl_session.proofs.Meant.{one-session}
use Rattle.rdl_edit.specs.declared.resume_fault.ResumeFault.{ResumeFault}
use Rattle.rdl_edit.specs.declared.resume_fault.Where.{Where}
use Rattle.rdl_edit.specs.declared.resume_fault.Where.TheVariants as where_
use Rattle.rdl_edit.specs.Backs.{prior, read_back}
use Rattle.rdl_edit.specs.OfEdits.{IsOfEdit, IsOwn}
use Rattle.rdl_edit.specs.Resuming.{judged, place_fault, steps_fault}
use Rattle.rdl_edit.specs.Step.{State, HasRows}
use Rattle.rdl_edit.proofs.Walking.{step-judged}
use Rattle.rdl_run.specs.Opening.{OpensHistory, AllHaveRows, EachElaborates}
use Rattle.rdl_run.specs.OwnSteps.{OpensOwn, owned}
use Rattle.rdl_run.specs.Sessions.{LeadBack, LeadOn, LeadsAlong, history_of, is_session}
use Rattle.run_laws.specs.Stops.{SpellsHistory}
use Rattle.run_laws.proofs.Stepped.{at-place}

-- ---- A list at one of its places.

-- what is before the place, and what is behind it
record Parted {X : Type 0} (xs : List X) (n : ℕ) (x : X) : Type 0 where
  before : List X
  after : List X
  as_many : length before ≡ n
  whole : xs ≡ before ++ x ∷ after

parted : {X : Type 0} (xs : List X) (n : ℕ) (x : X) → slice_get xs n ≡ Some x → Parted xs n x
parted [] n x e = absurd (none-some x e)
parted {X} (y ∷ ys) zero x e = record { before = []; after = ys; as_many = refl; whole = ap (λ (z : X). z ∷ ys) (same_Some y x e) }
parted {X} (y ∷ ys) (suc n) x e =
    let more = parted ys n x e in
    record { before = y ∷ more.before; after = more.after; as_many = ap suc more.as_many; whole = ap (λ (zs : List X). y ∷ zs) more.whole }

-- so many places past the front
get-past : {X : Type 0} (xs ys : List X) (i n : ℕ) → n ≡ length xs + i → slice_get (xs ++ ys) n ≡ slice_get ys i
get-past [] ys i n e = let same : n ≡ i = omega (arith, e) in ap (slice_get ys) same
get-past (x ∷ xs) ys i zero e = absurd (omega (arith, e))
get-past (x ∷ xs) ys i (suc n) e = get-past xs ys i n (omega (arith, e))

-- so many places before an element
get-before : {X : Type 0} (before after : List X) (x : X) (i n : ℕ) → n + i ≡ length before → slice_get (before ++ x ∷ after) n ≡ slice_get (x ∷ reverse before) i
get-before {X} before after x i n e =
    let back = reverse after ++ x ∷ reverse before in
    let long : n + (length after + i) + 1 ≡ length back = omega (arith, e, length-append (reverse after) (x ∷ reverse before), length-reverse after, length-reverse before) in
    ap (λ (l : List X). slice_get (before ++ x ∷ l) n) (sym (reverse-reverse after))
    ∙ ap (λ (l : List X). slice_get l n) (from-the-end before (reverse after) x)
    ∙ get-reverse back n (length after + i) long
    ∙ get-past (reverse after) (x ∷ reverse before) i (length after + i) (omega (arith, length-reverse after))

-- ---- Steps that lead along a list of maps.

-- the step leads from one map to the other, which elaborates
record Leads (option : Option (List ℕ)) (from to : Option State) (step : List Patch) : Type 0 where
  start : State
  next : State
  stood : from ≡ Some start
  reached : to ≡ Some next
  fit : AllFit step start.description
  led : next ≡ prior start (read_back step)
  faultless : (at : Where) → place_fault at option next.description ≡ None

-- so does each step, from the map with its number to the one after it
abbrev EachLeads : Option (List ℕ) → List State → List (List Patch) → Type 0
EachLeads option states steps = (i : ℕ) (step : List Patch) → slice_get steps i ≡ Some step → Leads option (slice_get states i) (slice_get states (suc i)) step

-- the steps lead through these maps, and no place on the way has a fault
record LeadsThrough (option : Option (List ℕ)) (s : State) (steps : List (List Patch)) (states : List State) : Type 0 where
  through : led_through prior s (map read_back steps) ≡ states
  faultless : (at : ℕ → Where) (n : ℕ) → steps_fault at option n s.description steps ≡ None

first-leads : (option : Option (List ℕ)) (s next : State) (step : List Patch) (steps : List (List Patch)) (states : List State) → Leads option (Some s) (Some next) step
    → LeadsThrough option next steps states → LeadsThrough option s (step ∷ steps) (next ∷ states)
first-leads option s next step steps states first rest =
    let here : s ≡ first.start = same_Some s first.start first.stood in
    let there : next ≡ first.next = same_Some next first.next first.reached in
    let led : next ≡ prior s (read_back step) = there ∙ first.led ∙ ap (λ (t : State). prior t (read_back step)) (sym here) in
    let made : next.description ≡ image step s.description = ap (λ (t : State). t.description) led in
    let fit : AllFit step s.description = subst (λ (t : State). AllFit step t.description) (sym here) first.fit in
    record {
      through =
          ap (λ (t : State). t ∷ led_through prior t (map read_back steps)) (sym led)
          ∙ ap (λ (ts : List State). next ∷ ts) rest.through;
      faultless = λ at n.
          ap (λ (o : Option ResumeFault). option_or o (steps_fault at option (suc n) (image step s.description) steps))
          (step-judged (at n) option step s.description next.description fit made
          ∙ ap (λ (t : State). place_fault (at n) option t.description) there ∙ first.faultless (at n))
          ∙ ap (λ d. steps_fault at option (suc n) d steps) (sym made)
          ∙ rest.faultless at (suc n);
    }

leads-through : (option : Option (List ℕ)) (s : State) (steps : List (List Patch)) (states : List State) → length steps ≡ length states → EachLeads option (s ∷ states) steps
    → LeadsThrough option s steps states
leads-through option s [] [] same each = record { through = refl; faultless = λ at n. refl }
leads-through option s [] (next ∷ states) same each = absurd (omega (arith, same))
leads-through option s (step ∷ steps) [] same each = absurd (omega (arith, same))
leads-through option s (step ∷ steps) (next ∷ states) same each =
    first-leads option s next step steps states (each zero step refl)
    (leads-through option next steps states (omega (arith, same)) (λ i x e. each (suc i) x e))

-- ---- The maps of a history.

pub rows-at : (states : List State) (n : ℕ) (s : State) → AllHaveRows states → slice_get states n ≡ Some s → HasRows s
rows-at [] n s rows e = absurd (none-some s e)
rows-at (t ∷ states) zero s rows e = subst HasRows (same_Some t s e) rows.0
rows-at (t ∷ states) (suc n) s rows e = rows-at states n s rows.1 e

without-fault : (at : Where) (option : Option (List ℕ)) (s : State) → s.option ≡ option → HasRows s → place_fault at option s.description ≡ None
without-fault at option s same h = ap (λ o. place_fault at o s.description) (sym same) ∙ ap (judged at) h.are

same-state : (s t : State) → s.description ≡ t.description → s.option ≡ t.option → s ≡ t
same-state s t d o = λ i. record { description = d i; option = o i }

module _ (option : Option (List ℕ)) (h : History State) (g : EachElaborates h) (same : All (λ s. s.option ≡ option) h.states) where
  option-at : (n : ℕ) (s : State) → slice_get h.states n ≡ Some s → s.option ≡ option
  option-at n s e = at-place (λ (t : State). t.option ≡ option) h.states n s same e

  leads : (from to : ℕ) (a b : Option State) (step : List Patch) (start next : State) → slice_get h.states from ≡ a → slice_get h.states to ≡ b
      → slice_get h.states from ≡ Some start → slice_get h.states to ≡ Some next → AllFit step start.description → next.description ≡ image step start.description → Leads option a b step
  leads from to a b step start next here there stood reached fit led = record {
    start = start;
    next = next;
    stood = sym here ∙ stood;
    reached = sym there ∙ reached;
    fit = fit;
    led = same-state next (prior start (read_back step)) led (option-at to next reached ∙ sym (option-at from start stood));
    faultless = λ at. without-fault at option next (option-at to next reached) (rows-at h.states to next g.rows reached);
  }

  module _ (now : State) (p : Parted h.states h.place now) where
    back-leads : (undo : List (List Patch)) → LeadBack h undo → EachLeads option (now ∷ reverse p.before) undo
    back-leads undo l i step e =
        let inside : i < length undo = slice_get_within undo i step e in
        let along = l.each i step e in
        let from = h.place - i in
        let to = h.place - i - 1 in
        let here : slice_get h.states from ≡ slice_get (now ∷ reverse p.before) i =
        ap (λ (ss : List State). slice_get ss from) p.whole ∙ get-before p.before p.after now i from (omega (arith, p.as_many, l.as_many, inside)) in
        let there : slice_get h.states to ≡ slice_get (now ∷ reverse p.before) (suc i) =
        ap (λ (ss : List State). slice_get ss to) p.whole ∙ get-before p.before p.after now (suc i) to (omega (arith, p.as_many, l.as_many, inside)) in
        leads from to (slice_get (now ∷ reverse p.before) i) (slice_get (now ∷ reverse p.before) (suc i)) step along.start along.end here there along.stood along.reached along.fit along.led

    on-leads : (redo : List (List Patch)) → LeadOn h redo → EachLeads option (now ∷ p.after) redo
    on-leads redo l i step e =
        let along = l.each i step e in
        let from = h.place + i in
        let to = h.place + i + 1 in
        let here : slice_get h.states from ≡ slice_get (now ∷ p.after) i =
        ap (λ (ss : List State). slice_get ss from) p.whole ∙ get-past p.before (now ∷ p.after) i from (omega (arith, p.as_many)) in
        let there : slice_get h.states to ≡ slice_get (now ∷ p.after) (suc i) =
        ap (λ (ss : List State). slice_get ss to) p.whole ∙ get-past p.before (now ∷ p.after) (suc i) to (omega (arith, p.as_many)) in
        leads from to (slice_get (now ∷ p.after) i) (slice_get (now ∷ p.after) (suc i)) step along.start along.end here there along.stood along.reached along.fit along.led

    back-through : (undo : List (List Patch)) → LeadBack h undo → LeadsThrough option now undo (reverse p.before)
    back-through undo l =
        let long : length undo ≡ length (reverse p.before) = omega (arith, l.as_many, p.as_many, length-reverse p.before) in
        leads-through option now undo (reverse p.before) long (back-leads undo l)

    on-through : (redo : List (List Patch)) → LeadOn h redo → LeadsThrough option now redo p.after
    on-through redo l =
        let all : length h.states ≡ length (p.before ++ now ∷ p.after) = ap length p.whole in
        let long : length redo ≡ length p.after = omega (arith, l.as_many, p.as_many, all, length-append p.before (now ∷ p.after)) in
        leads-through option now redo p.after long (on-leads redo l)

    now-faultless : (at : Where) → IsAt h now → place_fault at option now.description ≡ None
    now-faultless at stood = without-fault at option now (option-at h.place now stood) (rows-at h.states h.place now g.rows stood)

-- ---- The session.

-- the text of a session begins with the head of one
begins : (lines : SessionLines) → is_session (session_text lines) ≡ true
unfolding session_text
begins lines = refl

none-of : (a b c : Option ResumeFault) → a ≡ None → b ≡ None → c ≡ None → option_or a (option_or b c) ≡ None
none-of a b c p q r = ap (λ (o : Option ResumeFault). option_or o (option_or b c)) p ∙ ap (λ (o : Option ResumeFault). option_or o c) q ∙ r

-- what was led through is the list again
same-history : (limit : ℕ) (h : History State) (now : State) (undo redo : List (List Patch)) (p : Parted h.states h.place now)
    → led_through prior now (map read_back undo) ≡ reverse p.before → led_through prior now (map read_back redo) ≡ p.after
    → ◌≡◌ {A = History State} (record { limit = limit; states = h.states; place = h.place; own = false }) (history_of limit now undo redo)
same-history limit h now undo redo p back on =
    let behind = led_through prior now (map read_back undo) in
    let ahead = led_through prior now (map read_back redo) in
    let states : h.states ≡ reverse behind ++ now ∷ ahead =
    p.whole ∙ ap (λ (ss : List State). ss ++ now ∷ p.after) (sym (reverse-reverse p.before))
    ∙ ap (λ (ss : List State). reverse ss ++ now ∷ p.after) (sym back) ∙ ap (λ (ss : List State). reverse behind ++ now ∷ ss) (sym on) in
    let place : h.place ≡ length behind = sym p.as_many ∙ sym (length-reverse p.before) ∙ ap length (sym back) in
    λ i. record { limit = limit; states = states i; place = place i; own = false }

-- with the option of the map at the place
opens-own : (limit : ℕ) (bytes : List ℕ) (now : State) (h : History State) → EachElaborates h → All (λ s. s.option ≡ now.option) h.states → IsAt h now
    → IsUtf8 bytes → SpellsHistory bytes now h → OpensHistory now.option limit bytes (record { limit = limit; states = h.states; place = h.place; own = false })
opens-own limit bytes now h g same at utf8 spells =
    let option = now.option in
    let d = now.description in
    let undo = spells.undo in
    let redo = spells.redo in
    let p = parted h.states h.place now at in
    let back = back-through option h g same now p undo spells.back in
    let on = on-through option h g same now p redo spells.on in
    inr (record {
      named = ap is_session spells.spelled.text_is ∙ begins spells.spelled.lines;
      description = d;
      undo = undo;
      redo = redo;
      read = record { text = utf8; spelled = spells.spelled };
      faultless =
          none-of (place_fault where_.Map option d) (steps_fault where_.Undo option 1 d undo) (steps_fault where_.Redo option 1 d redo)
          (now-faultless option h g same now p where_.Map at) (back.faultless where_.Undo 1) (on.faultless where_.Redo 1);
      opened = same-history limit h now undo redo p back.through on.through;
    })

pub opened-again : (option : Option (List ℕ)) (limit : ℕ) (bytes : List ℕ) (now : State) (h : History State) → EachElaborates h → All (λ s. s.option ≡ option) h.states → IsAt h now
    → IsUtf8 bytes → SpellsHistory bytes now h → OpensHistory option limit bytes (record { limit = limit; states = h.states; place = h.place; own = false })
opened-again option limit bytes now h g same at utf8 spells =
    let own : now.option ≡ option = at-place (λ (s : State). s.option ≡ option) h.states h.place now same at in
    subst (λ o. OpensHistory o limit bytes (record { limit = limit; states = h.states; place = h.place; own = false })) own
    (opens-own limit bytes now h g (subst (λ o. All (λ (s : State). s.option ≡ o) h.states) (sym own) same) at utf8 spells)

-- ---- Steps that edits left behind.

led-by-any : (own : Bool) (states : List State) (from to : ℕ) (step : List Patch) → LeadsAlong true states from to step → LeadsAlong own states from to step
led-by-any own states from to step a =
    record { start = a.start; stood = a.stood; fit = a.fit; end = a.end; reached = a.reached; led = a.led; of_edit = λ is_own. a.of_edit refl }

pub back-by-any : (h : History State) (steps : List (List Patch)) → LeadBack (owned h) steps → LeadBack h steps
back-by-any h steps l = record { as_many = l.as_many; each = λ i step e. led-by-any h.own h.states (h.place - i) (h.place - i - 1) step (l.each i step e) }

pub on-by-any : (h : History State) (steps : List (List Patch)) → LeadOn (owned h) steps → LeadOn h steps
on-by-any h steps l = record { as_many = l.as_many; each = λ i step e. led-by-any h.own h.states (h.place + i) (h.place + i + 1) step (l.each i step e) }

-- each step is of an edit at the map with its number
abbrev AreOfEdits : List State → List (List Patch) → Type 0
AreOfEdits states steps = (i : ℕ) (step : List Patch) (start : State) → slice_get steps i ≡ Some step → slice_get states i ≡ Some start → IsOfEdit start step

of-edits-in-turn : (s : State) (steps : List (List Patch)) → AreOfEdits (s ∷ led_through prior s (map read_back steps)) steps → FitInTurn prior IsOwn s (map read_back steps)
of-edits-in-turn s [] each = tt
of-edits-in-turn s (step ∷ steps) each =
    (each zero step s refl refl, of-edits-in-turn (prior s (read_back step)) steps (λ i later start e stood. each (suc i) later start e stood))

module _ (option : Option (List ℕ)) (h : History State) (g : EachElaborates h) (same : All (λ s. s.option ≡ option) h.states) (now : State) (at : IsAt h now) where
  own-back : (undo : List (List Patch)) → LeadBack (owned h) undo → FitInTurn prior IsOwn now (map read_back undo)
  own-back undo l =
      let p = parted h.states h.place now at in
      let through = (back-through option h g same now p undo (back-by-any h undo l)).through in
      of-edits-in-turn now undo (λ i step start e stood.
      let inside : i < length undo = slice_get_within undo i step e in
      let along = l.each i step e in
      let from = h.place - i in
      let here : slice_get h.states from ≡ slice_get (now ∷ reverse p.before) i =
      ap (λ (ss : List State). slice_get ss from) p.whole ∙ get-before p.before p.after now i from (omega (arith, p.as_many, l.as_many, inside)) in
      let there : slice_get (now ∷ led_through prior now (map read_back undo)) i ≡ slice_get (now ∷ reverse p.before) i =
      ap (λ (ss : List State). slice_get (now ∷ ss) i) through in
      let one : along.start ≡ start = same_Some along.start start (sym along.stood ∙ here ∙ sym there ∙ stood) in
      subst (λ s. IsOfEdit s step) one (along.of_edit refl))

  own-on : (redo : List (List Patch)) → LeadOn (owned h) redo → FitInTurn prior IsOwn now (map read_back redo)
  own-on redo l =
      let p = parted h.states h.place now at in
      let through = (on-through option h g same now p redo (on-by-any h redo l)).through in
      of-edits-in-turn now redo (λ i step start e stood.
      let along = l.each i step e in
      let from = h.place + i in
      let here : slice_get h.states from ≡ slice_get (now ∷ p.after) i =
      ap (λ (ss : List State). slice_get ss from) p.whole ∙ get-past p.before (now ∷ p.after) i from (omega (arith, p.as_many)) in
      let there : slice_get (now ∷ led_through prior now (map read_back redo)) i ≡ slice_get (now ∷ p.after) i =
      ap (λ (ss : List State). slice_get (now ∷ ss) i) through in
      let one : along.start ≡ start = same_Some along.start start (sym along.stood ∙ here ∙ sym there ∙ stood) in
      subst (λ s. IsOfEdit s step) one (along.of_edit refl))

  -- what spells the history with such steps opens with such steps
  pub opens-of-edits : (bytes : List ℕ) → SpellsHistory bytes now (owned h) → (limit : ℕ) (k : History State) (o : OpensHistory option limit bytes k) → OpensOwn o
  opens-of-edits bytes spells limit k (inl m) = tt
  opens-of-edits bytes spells limit k (inr o) =
      let s : State = record { description = o.description; option = option } in
      let one = one-session bytes now.description o.description spells.undo spells.redo o.undo o.redo spells.spelled o.read.spelled in
      let here : now ≡ s = same-state now s one.0 (at-place (λ (t : State). t.option ≡ option) h.states h.place now same at) in (
        subst (λ t. FitInTurn prior IsOwn t (map read_back o.undo)) here
            (subst (λ steps. FitInTurn prior IsOwn now (map read_back steps)) one.1 (own-back spells.undo spells.back)),
        subst (λ t. FitInTurn prior IsOwn t (map read_back o.redo)) here
            (subst (λ steps. FitInTurn prior IsOwn now (map read_back steps)) one.2 (own-on spells.redo spells.on)),
      )
