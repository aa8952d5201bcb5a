-- Steps that lead through the maps of a history.
use Rattle.std.proofs.Common.{◌≡◌, inl, inr, Bool, true, false, ℕ, zero, suc, ◌+◌, ◌-◌, ◌<◌, List, [], ◌∷◌, ◌++◌, length, Some, refl, sym, ap, ◌∙◌, subst, arith, length-append}
use Rattle.std.specs.Prelude.{slice_get, map}
use Rattle.std.proofs.lemmas.List.{length-map, map-append}
use Rattle.std.proofs.lemmas.Option.{none-some}
use Rattle.journal_core.specs.History.{LeadsBetween}
use Rattle.rdl_tree.specs.Patch.{AllFit, image, inverses}
use Rattle.rdl_tree.specs.declared.patch.Patch.{Patch}
use Rattle.rdl_tree.proofs.Nesting.{AllFit-inverses}
use Rattle.rdl_rewrite.specs.Patches.{patches}
use Rattle.rdl_edit.specs.Backs.{Reversal, prior, Fits}
use Rattle.rdl_edit.specs.OfEdits.{IsOfEdit, IsOwn}
use Rattle.rdl_edit.specs.Step.{State}
use Rattle.rdl_edit.proofs.EditsLead.{rows-deep, edit-fits, edit-leads}
use Rattle.rdl_edit.proofs.OwnSteps.{back-there}
use Rattle.rdl_run.specs.Answers.{History'}
use Rattle.rdl_run.specs.Opening.{AllHaveRows, AreEdited, EachElaborates}
use Rattle.rdl_run.specs.Sessions.{LeadsAlong, LeadBack, LeadOn}
use Rattle.rdl_run.proofs.Histories.{state-at, edit-between}
use Rattle.rdl_run.proofs.Rebuilding.{rebuilt}

-- what holds of each element with its number
abbrev pub EachIs : {X : Type 0} → (ℕ → X → Type 0) → List X → Type 0
EachIs {X} P xs = (i : ℕ) (x : X) → slice_get xs i ≡ Some x → P i x

each-none : {X : Type 0} (P : ℕ → X → Type 0) → EachIs P []
each-none P i x e = absurd (none-some x e)

pub each-more : {X : Type 0} (P : ℕ → X → Type 0) (xs : List X) (y : X) → EachIs P xs → P (length xs) y → EachIs P (xs ++ y ∷ [])
each-more P [] y h p zero x e = subst (P 0) (let same : y ≡ x = cc in same) p
each-more P [] y h p (suc i) x e = absurd (none-some x e)
each-more P (z ∷ zs) y h p zero x e = h 0 x e
each-more P (z ∷ zs) y h p (suc i) x e = each-more (λ n. P (suc n)) zs y (λ n w. h (suc n) w) p i x e

-- the same of what is seen of each element
pub more-seen : {X Y : Type 0} (f : X → Y) (P : ℕ → Y → Type 0) (xs : List X) (x : X) → EachIs P (map f xs) → P (length xs) (f x) → EachIs P (map f (xs ++ x ∷ []))
more-seen f P xs x h p = subst (EachIs P) (sym (map-append f xs (x ∷ []))) (each-more P (map f xs) (f x) h (subst (λ n. P n (f x)) (sym (length-map xs f)) p))

-- a step of a history leads along its patches, and where the steps are its own an edit left them behind
pub along : (own : Bool) (states : List State) (from to : ℕ) (step : Reversal) → LeadsBetween prior Fits states from to step → (own ≡ true → LeadsBetween prior IsOwn states from to step)
    → LeadsAlong own states from to step.patches
along own states from to step b o = record {
  start = b.state;
  stood = b.stood;
  fit = b.fitted.applicable;
  end = prior b.state step;
  reached = b.led;
  led = refl;
  of_edit = λ is_own.
      let p = o is_own in
      let both : Some p.state ≡ Some b.state = sym p.stood ∙ b.stood in
      let same : p.state ≡ b.state = cc in
      subst (λ s. IsOfEdit s step.patches) same p.fitted;
}

record Collected {X : Type 0} (P : ℕ → X → Type 0) (n : ℕ) : Type 0 where
  all : List X
  as_many : length all ≡ n
  each : EachIs P all

-- there is a list of so many, if there is one for each number
collected : {X : Type 0} (P : ℕ → X → Type 0) (n : ℕ) → ((i : ℕ) → i < n → (x : X) × P i x) → Collected P n
collected P zero one = record { all = []; as_many = refl; each = each-none P }
collected P (suc n) one =
    let before = collected P n (λ i l. one i (omega (arith, l))) in
    let last = one n (omega arith) in
    record {
      all = before.all ++ last.0 ∷ [];
      as_many = omega (arith, length-append before.all (last.0 ∷ []), before.as_many);
      each = each-more P before.all last.0 before.each (subst (λ k. P k last.0) (sym before.as_many) last.1);
    }

-- patches lead from each place to each other
lead-along : (ss : List State) → AllHaveRows ss → (from to : ℕ) → from < length ss → to < length ss → (step : List Patch) × LeadsAlong false ss from to step
lead-along ss rows from to l m =
    let a = state-at ss from rows l in
    let b = state-at ss to rows m in
    let r = rebuilt a.now.description b.now.description (rows-deep b.now b.rows) in
    (r.step, record { start = a.now; stood = a.at; fit = r.fit; end = b.now; reached = b.at; led = sym r.led; of_edit = λ own. absurd (let w : false ≡ true = own in cc) })

-- the patches of the edit from a place to the next
one-on : (own : Bool) (ss : List State) → AllHaveRows ss → (own ≡ true → AreEdited ss) → (n : ℕ) → suc n < length ss → (step : List Patch) × LeadsAlong own ss n (suc n) step
one-on false ss rows edited n l = lead-along ss rows n (suc n) (omega (arith, l)) l
one-on true ss rows edited n l =
    let a = state-at ss n rows (omega (arith, l)) in
    let b = state-at ss (suc n) rows l in
    let e = edit-between ss n a.now b.now (edited refl) a.at b.at in (
      patches a.now.description e.edit,
      record {
        start = a.now;
        stood = a.at;
        fit = edit-fits a.now e.edit b.now a.rows e.led;
        end = b.now;
        reached = b.at;
        led = ap (λ (s : State). s.description) (edit-leads a.now e.edit b.now a.rows e.led);
        of_edit = λ own. inl (record { edit = e.edit; new = b.now; led = e.led; are = refl });
      },
    )

-- those that take it back
one-back : (own : Bool) (ss : List State) → AllHaveRows ss → (own ≡ true → AreEdited ss) → (n : ℕ) → suc n < length ss → (step : List Patch) × LeadsAlong own ss (suc n) n step
one-back false ss rows edited n l = lead-along ss rows (suc n) n l (omega (arith, l))
one-back true ss rows edited n l =
    let a = state-at ss n rows (omega (arith, l)) in
    let b = state-at ss (suc n) rows l in
    let e = edit-between ss n a.now b.now (edited refl) a.at b.at in
    let ps = patches a.now.description e.edit in
    let back = inverses ps a.now.description in
    let to : b.now.description ≡ image ps a.now.description = ap (λ (s : State). s.description) (edit-leads a.now e.edit b.now a.rows e.led) in (
      back,
      record {
        start = b.now;
        stood = b.at;
        fit = subst (AllFit back) (sym to) (AllFit-inverses ps a.now.description (edit-fits a.now e.edit b.now a.rows e.led) (rows-deep a.now a.rows));
        end = a.now;
        reached = a.at;
        led = sym (ap (λ (s : State). s.description) (back-there a.now e.edit b.now a.rows e.led));
        of_edit = λ own. inr (record { edit = e.edit; old = a.now; has_rows = a.rows; led = e.led; are = refl });
      },
    )

pub record Led (h : History') : Type 0 where
  pub undo : List (List Patch)
  pub redo : List (List Patch)
  pub back : LeadBack h undo
  pub on : LeadOn h redo

-- the step that is taken back after others, and the one that is made again
module _ (h : History') (g : EachElaborates h) where
  back-along : (i : ℕ) → i < h.place → (step : List Patch) × LeadsAlong h.own h.states (h.place - i) (h.place - i - 1) step
  back-along i l =
      let n = h.place - i - 1 in
      let one = one-back h.own h.states g.rows g.edited n (omega (arith, g.inside, l)) in
      (one.0, subst (λ k. LeadsAlong h.own h.states k n one.0) (let before : suc n ≡ h.place - i = omega (arith, l) in before) one.1)

  on-along : (i : ℕ) → h.place + i + 1 < length h.states → (step : List Patch) × LeadsAlong h.own h.states (h.place + i) (h.place + i + 1) step
  on-along i l =
      let n = h.place + i in
      let one = one-on h.own h.states g.rows g.edited n (omega (arith, l)) in
      (one.0, subst (λ k. LeadsAlong h.own h.states n k one.0) (let next : suc n ≡ h.place + i + 1 = omega arith in next) one.1)

pub led : (h : History') → EachElaborates h → Led h
led h g =
    let back = collected (λ i. LeadsAlong h.own h.states (h.place - i) (h.place - i - 1)) h.place (back-along h g) in
    let on = collected (λ i. LeadsAlong h.own h.states (h.place + i) (h.place + i + 1)) (length h.states - h.place - 1) (λ i l. on-along h g i (omega (arith, g.inside, l))) in
    record {
      undo = back.all;
      redo = on.all;
      back = record { as_many = back.as_many; each = back.each };
      on = record { as_many = omega (arith, on.as_many, g.inside); each = on.each };
    }
