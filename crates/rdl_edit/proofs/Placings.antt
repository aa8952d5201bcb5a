-- What a step places is what is renewed of the map that is held, so it is in reach of what the step edits; and a quiet one places nothing.
use Rattle.std.proofs.Common.{◌≡◌, ℕ, ◌≤◌, ◌*◌, false, List, Option, Some, None, refl, sym, ap, ◌∙◌, subst, arith, Bool, true, Ok, Err, is_ok, ◌⊎◌, inl, inr}
use Rattle.rdl_tree.specs.Address.{body_at}
use Rattle.rdl_tree.specs.Items.{Items}
use Rattle.rdl_tree.specs.Patch.{AllFit, image, inverses}
use Rattle.rdl_tree.specs.Weight.{capped}
use Rattle.rdl_tree.specs.declared.patch.Patch.{Patch}
use Rattle.rdl_scope.specs.ItemFaults.{fault_of, out_of_memory}
use Rattle.rdl_elab.specs.Anew.{all_instances}
use Rattle.rdl_marks.specs.Marks.{no_marks}
use Rattle.rdl_marks.specs.Describes.{Describes}
use Rattle.rdl_marks.proofs.Described.{nothing_changed, all_described}
use Rattle.rdl_marks.proofs.Orders.{first_in_order, stay_in_order}
use Rattle.rdl_nodes.specs.Placed.{all_placed}
use Rattle.rdl_renew.specs.Placed.{placed_of}
use Rattle.rdl_reach.specs.EditedBodies.{edits}
use Rattle.rdl_reach.specs.Laws.{IsStep, kept_of}
use Rattle.rdl_reach.proofs.QuietPatches.{quiet_patches_edit_nothing}
use Rattle.rdl_reach.proofs.Steps.{all_are_placed_once, places_what_is_in_reach, places_nothing}
use Rattle.rdl_held.specs.HeldMap.{HeldMap, IsHeldOf, HasPlacedAll}
use Rattle.rdl_held.specs.Turning.{HasTurned}
use Rattle.rdl_edit.specs.Placing.{marks_of, HasPlaced, IsInReach}
use Rattle.rdl_edit.specs.QuietSteps.{IsQuietStep}
use Rattle.rdl_edit.specs.Faults.{is_memory, refused}
use Rattle.rdl_edit.specs.Step.{IsJudged}
use Rattle.rdl_edit.specs.declared.refusal.Refusal.TheVariants.{Faulty, Memory}
use Rattle.rdl_elab.specs.Faults.{unless_fault, elaborated}
use Rattle.rdl_elab.specs.declared.row.Row.{Row}
use Rattle.rdl_tree.specs.declared.fault.Fault.{Fault}
use Rattle.std.specs.Prelude.{if◌then◌else◌}

-- a description of which the rows are known has no fault
pub faultless : (d : Items) (option : Option (List ℕ)) (rows : List Row) → elaborated d option ≡ Ok rows → fault_of d ≡ None
faultless d option rows e = by (fault_of d) e
  where
    by : (o : Option Fault) → unless_fault d option o ≡ Ok rows → o ≡ None
    by None h = refl
    by (Some fault) h = absurd (let f : true ≡ false = sym (ap is_ok h) in cc)

-- why a step is refused, by the description that its patches make
pub judged-made : (d made : Items) (o : Option (List ℕ)) (fault : Fault) → (elaborated d o ≡ Err fault) ⊎ (fault ≡ out_of_memory) → d ≡ made → IsJudged (record { description = made; option = o }) (refused fault)
judged-made d made o fault which same = by (is_memory fault.kind) refl which
  where
    by : (b : Bool) → is_memory fault.kind ≡ b → (elaborated d o ≡ Err fault) ⊎ (fault ≡ out_of_memory) → IsJudged (record { description = made; option = o }) (if b then Memory else Faulty fault)
    by true is h = tt
    by false is (inl e) = ap (λ t. elaborated t o) (sym same) ∙ e
    by false is (inr e) = absurd (let no : false ≡ true = sym is ∙ ap (λ (f : Fault). is_memory f.kind) e in cc)

at-most : (n : ℕ) → capped n ≤ n
at-most n = omega arith

accepted : (d : Items) (h : HeldMap) → IsHeldOf d h → fault_of d ≡ None
accepted d h k = faultless d h.top k.rows.rows k.rows.are

-- ---- An opened map.

pub opened : (d : Items) (h : HeldMap) → IsHeldOf d h → HasPlacedAll h → h.placed ≤ 3 * all_instances d
opened d h k all =
    let few = all_are_placed_once d (accepted d h k) in
    let same : all_placed h.slots ≡ all_placed (kept_of d) = ap all_placed k.slots in
    let most = at-most (all_placed h.slots) in
    omega (arith, all, few, same, most)

-- ---- A step.

-- what is known of the number that a step placed
pub record IsCounted (old : Items) (step : List Patch) (new : Items) (placed : ℕ) : Type 0 where
  pub told : HasPlaced old step new placed
  pub edited : IsInReach old step new placed
  pub none : IsQuietStep step old → placed ≡ 0

module _ (old : Items) (step : List Patch) (new : Items) (was is : HeldMap) (fit : AllFit step old) (made : new ≡ image step old) (before : IsHeldOf old was) (now : IsHeldOf new is) (turned : HasTurned step old was new is) where
  is_step : IsStep (marks_of step old) old new
  is_step = record {
    described = subst (λ t. Describes (marks_of step old) old t) (sym made) (all_described step no_marks old old fit (nothing_changed old));
    ordered = stay_in_order (inverses step old) no_marks first_in_order;
    accepted_old = accepted old was before;
    accepted_now = accepted new is now;
  }

  placed_there : HasPlaced old step new is.placed
  placed_there = turned ∙ (λ i. capped (placed_of (marks_of step old) (before.slots i) new (now.slots i)))

  nothing_there : IsQuietStep step old → is.placed ≡ 0
  nothing_there q =
      let none : (a : List ℕ) (b : Items) → body_at a new ≡ Some b → edits (marks_of step old) old new a ≡ false =
      subst (λ t. (a : List ℕ) (b : Items) → body_at a t ≡ Some b → edits (marks_of step old) old t a ≡ false) (sym made) (quiet_patches_edit_nothing step old fit q.quiet q.stays) in
      placed_there ∙ ap capped (places_nothing (marks_of step old) old new is_step none)

  pub counted : IsCounted old step new is.placed
  counted =
      let few = places_what_is_in_reach (marks_of step old) old new is_step in
      let most = at-most (placed_of (marks_of step old) (kept_of old) new (kept_of new)) in
      record { told = placed_there; edited = omega (arith, placed_there, few, most); none = nothing_there }

-- the same of a step along these patches, from this description to that one
pub counted-there : (old d new : Items) (step ps : List Patch) (placed : ℕ) → d ≡ old → ps ≡ step → IsCounted d ps new placed → IsCounted old step new placed
counted-there old d new step ps placed same which h = subst (λ t. IsCounted t step new placed) same (subst (λ qs. IsCounted d qs new placed) which h)
