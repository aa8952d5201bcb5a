-- What is led back from the last map to the first one has the items of that.
use Rattle.std.proofs.Common.{◌≡◌, ℕ, zero, suc, ◌+◌, ◌-◌, ◌^◌, ◌≤◌, Bool, true, false, List, [], ◌∷◌, length, Option, Some, None, IsTrue, refl, ap, sym, ◌∙◌, subst, arith}
use Rattle.std.specs.Prelude.{◌&&◌, slice_get}
use Rattle.std.proofs.lemmas.Bool.{and_from}
use Rattle.journal_core.specs.History.{IsAt}
use Rattle.rdl_edit.specs.Step.{State}
use Rattle.rdl_tree.specs.Items.{Items, count}
use Rattle.rdl_tree.specs.Patch.{image, AllFit}
use Rattle.rdl_tree.specs.declared.patch.Patch.{Patch}
use Rattle.rdl_origin.specs.Back.{all_gone_back, are_placed}
use Rattle.rdl_origin.specs.Numbered.{origins_of, unnumbered}
use Rattle.rdl_origin.specs.Once.{StandOnce}
use Rattle.rdl_origin.specs.Order.{AreInOrder}
use Rattle.rdl_origin.specs.Shape.{shape}
use Rattle.rdl_origin.specs.Traces.{Traces}
use Rattle.rdl_origin.specs.Values.{AreValues}
use Rattle.rdl_origin.proofs.Once.{numbered-once, all-once}
use Rattle.rdl_origin.proofs.Order.{numbered-in_order, all-in_order}
use Rattle.rdl_origin.proofs.Shapes.{shape-numbered, all_placed, all_shape}
use Rattle.rdl_origin.proofs.Values.{numbered-values, all-values}
use Rattle.rdl_run.specs.Answers.{History'}
use Rattle.rdl_run.specs.Edited.{all_led_back, are_all_placed}
use Rattle.rdl_run.specs.Sessions.{LeadBack, LeadsAlong}

-- the origins are those of this description, whose items were led back from the last map
pub record AreOf (last : Items) (t : Traces) (d : Items) : Type 0 where
  pub values : AreValues 0 last t d
  pub nested : shape t ≡ unnumbered d
  pub once : StandOnce t
  pub order : AreInOrder t

begun : (last : Items) → count last ≤ 2 ^ 32 → AreOf last (origins_of last) last
begun last h = record {
  values = numbered-values 0 last 0 last (omega (arith, h)) (λ m k. refl);
  nested = shape-numbered 0 last;
  once = numbered-once 0 last (omega (arith, h));
  order = numbered-in_order 0 last (omega (arith, h));
}

further : (last : Items) (ps : List Patch) (t : Traces) (d : Items) → AreOf last t d → AllFit ps d → AreOf last (all_gone_back ps t) (image ps d)
further last ps t d a f = record {
  values = all-values 0 last ps d t a.values f;
  nested = all_shape ps d t a.nested f;
  once = all-once ps t a.once;
  order = all-in_order ps t a.order;
}

pub record IsLed (states : List State) (last : Items) (steps : List (List Patch)) (t : Traces) : Type 0 where
  pub first : State
  pub at : slice_get states 0 ≡ Some first
  pub placed : are_all_placed steps t ≡ true
  pub of : AreOf last (all_led_back steps t) first.description

same_state : (a b : State) → ◌≡◌ {A = Option State} (Some a) (Some b) → a ≡ b
same_state a b e = cc

led : (own : Bool) (states : List State) (last : Items) (steps : List (List Patch)) (p : ℕ) (s : State) (t : Traces) → length steps ≡ p
    → ((i : ℕ) (step : List Patch) → slice_get steps i ≡ Some step → LeadsAlong own states (p - i) (p - i - 1) step)
    → slice_get states p ≡ Some s → AreOf last t s.description → IsLed states last steps t
led own states last [] p s t e each at a = record { first = s; at = ap (slice_get states) e ∙ at; placed = refl; of = a }
led own states last (step ∷ steps) p s t e each at a =
    let go = each 0 step refl in
    let none : p - 0 ≡ p = omega arith in
    let here : go.start ≡ s = same_state go.start s (sym go.stood ∙ (ap (slice_get states) none ∙ at)) in
    let fit : AllFit step s.description = subst (λ (q : State). AllFit step q.description) here go.fit in
    let lands : image step s.description ≡ go.end.description = ap (λ (q : State). image step q.description) (sym here) ∙ sym go.led in
    let next : p - 0 - 1 ≡ p - 1 = omega arith in
    let rest = led own states last steps (p - 1) go.end (all_gone_back step t) (omega (arith, e))
    (λ i q f.
    let from : p - suc i ≡ p - 1 - i = omega arith in
    let to : p - suc i - 1 ≡ p - 1 - i - 1 = omega arith in
    subst (λ n. LeadsAlong own states n (p - 1 - i - 1) q) from (subst (λ n. LeadsAlong own states (p - suc i) n q) to (each (suc i) q f)))
    (ap (slice_get states) (sym next) ∙ go.reached) (subst (AreOf last (all_gone_back step t)) lands (further last step t s.description a fit)) in
    record { first = rest.first; at = rest.at; placed = and_from _ _ (all_placed step s.description t a.nested fit) rest.placed; of = rest.of }

pub led_from : (h : History') (now : State) (steps : List (List Patch)) → IsAt h now → LeadBack h steps → count now.description ≤ 2 ^ 32 → IsLed h.states now.description steps (origins_of now.description)
led_from h now steps at back small = led h.own h.states now.description steps h.place now (origins_of now.description) back.as_many back.each at (begun now.description small)
