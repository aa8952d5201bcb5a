-- Each map of a history that was opened can be written, be it opened by a map or by a session.
use Rattle.std.proofs.Common.{ℕ, List, [], ◌∷◌, Option, All, inl, inr, sym, subst}
use mathlib.Core.List.{reverse}
use Rattle.std.proofs.lemmas.List.Elements.{All-nil, All-cons, All-head, All-tail, All-append}
use Rattle.std.specs.Prelude.{map}
use Rattle.journal_core.specs.Along.{led_through}
use Rattle.journal_core.specs.History.{History}
use Rattle.journal_core.proofs.Ways.{reverse-first}
use Rattle.rdl_tree.specs.declared.patch.Patch.{Patch}
use Rattle.rdl_edit.specs.Backs.{prior, read_back}
use Rattle.rdl_edit.specs.Step.{State}
use Rattle.rdl_run.specs.Opening.{OpensHistory, AllHaveRows}
use Rattle.rdl_run.specs.Sessions.{history_of, OpensSession}
use Rattle.rdl_run.proofs.Openings.{opened-elaborates}
use Rattle.rdl_round.specs.Writable.{IsWritable}
use Rattle.rdl_session.specs.Writable.{IsWritablePatch, AreWritable}
use Rattle.rdl_session.proofs.Inverted.{IsGood, map-good, of-words, spellable, image-good}
use Rattle.rdl_session.proofs.SpelledSessions.{map-writable, steps-writable, all-spelled}
use Rattle.run_laws.proofs.WithRows.{without-fault}
use Rattle.run_laws.proofs.Stepped.{IsSound, rows-within, begun-writable}

abbrev IsGoodState : State → Type 0
IsGoodState s = IsGood s.description

abbrev IsStateWritable : State → Type 0
IsStateWritable s = IsWritable s.description

-- ---- The places of a session.

led-good : (s : State) (steps : List (List Patch)) → IsGoodState s → AreWritable steps → All IsGoodState (led_through prior s (map read_back steps))
led-good s [] g h = All-nil IsGoodState
led-good s (step ∷ steps) g h =
    let next = prior s (read_back step) in
    let there = image-good step s.description (All-head (All IsWritablePatch) step steps h) g in
    All-cons IsGoodState next (led_through prior next (map read_back steps)) there (led-good next steps there (All-tail (All IsWritablePatch) step steps h))

pub all-reverse : {X : Type 0} (P : X → Type 0) (xs : List X) → All P xs → All P (reverse xs)
all-reverse P [] h = All-nil P
all-reverse P (x ∷ xs) h =
    subst (All P) (sym (reverse-first x xs))
    (All-append P (reverse xs) (x ∷ []) (all-reverse P xs (All-tail P x xs h)) (All-cons P x [] (All-head P x xs h) (All-nil P)))

places-good : (limit : ℕ) (s : State) (undo redo : List (List Patch)) → IsGoodState s → AreWritable undo → AreWritable redo → All IsGoodState (history_of limit s undo redo).states
places-good limit s undo redo g u r =
    let behind = led_through prior s (map read_back undo) in
    let ahead = led_through prior s (map read_back redo) in
    All-append IsGoodState (reverse behind) (s ∷ ahead) (all-reverse IsGoodState behind (led-good s undo g u)) (All-cons IsGoodState s ahead g (led-good s redo g r))

-- a map that has rows is within the limits
with-rows : (states : List State) → All IsGoodState states → AllHaveRows states → All IsStateWritable states
with-rows [] g h = All-nil IsStateWritable
with-rows (s ∷ ss) g h =
    let here = All-head IsGoodState s ss g in
    let writable : IsStateWritable s = record { of_words = of-words s.description here; spellable = spellable s.description here; within = rows-within s.description s.option h.0.rows h.0.are } in
    All-cons IsStateWritable s ss writable (with-rows ss (All-tail IsGoodState s ss g) h.1)

session-good : (option : Option (List ℕ)) (limit : ℕ) (bytes : List ℕ) (h : History State) → OpensSession option limit bytes h → All IsGoodState h.states
session-good option limit bytes h o =
    let t = o.read.spelled in
    let d = o.description in
    subst (λ (k : History State). All IsGoodState k.states) (sym o.opened)
    (places-good limit (record { description = d; option = option }) o.undo o.redo (map-good d (map-writable d (t.lines.map, t.spells_map)))
    (steps-writable o.undo (all-spelled t.lines.undo o.undo t.spells_undo)) (steps-writable o.redo (all-spelled t.lines.redo o.redo t.spells_redo)))

-- ---- Either.

pub opened-writable : (option : Option (List ℕ)) (limit : ℕ) (bytes : List ℕ) (h : History State) → OpensHistory option limit bytes h → All (λ s. IsWritable s.description) h.states
opened-writable option limit bytes h (inl m) =
    subst (λ (k : History State). All IsStateWritable k.states) (sym m.opened) (begun-writable bytes m.first m.opens.places limit m.opens.read.spelled m.opens.whole)
opened-writable option limit bytes h (inr o) = with-rows h.states (session-good option limit bytes h o) (opened-elaborates option limit bytes h (inr o)).rows

-- ---- Each elaborates besides, so it has no fault.

all-sound : (states : List State) → All IsStateWritable states → AllHaveRows states → All IsSound states
all-sound [] w h = All-nil IsSound
all-sound (s ∷ ss) w h =
    All-cons IsSound s ss (All-head IsStateWritable s ss w, without-fault s.description s.option h.0.rows h.0.are) (all-sound ss (All-tail IsStateWritable s ss w) h.1)

pub opened-sound : (option : Option (List ℕ)) (limit : ℕ) (bytes : List ℕ) (h : History State) → OpensHistory option limit bytes h → All IsSound h.states
opened-sound option limit bytes h o = all-sound h.states (opened-writable option limit bytes h o) (opened-elaborates option limit bytes h o).rows
