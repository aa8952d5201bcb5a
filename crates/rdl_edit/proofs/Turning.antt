-- A step of a map that is held: where it leads, what takes it back, and why it is refused.
use Rattle.std.proofs.Common.{◌≡◌, ◌⊎◌, ◌≤◌, ℕ, Option, List, Ok, Err, refl, sym, ap, ◌∙◌, subst}
use Rattle.rdl_tree.specs.Depth.{depth}
use Rattle.rdl_tree.specs.Items.{Items}
use Rattle.rdl_tree.specs.Patch.{AllFit, image, inverses}
use Rattle.rdl_tree.specs.declared.fault.Fault.{Fault}
use Rattle.rdl_tree.specs.declared.patch.Patch.{Patch}
use Rattle.rdl_scope.specs.ItemFaults.{out_of_memory}
use Rattle.rdl_elab.specs.Faults.{elaborated}
use Rattle.rdl_rewrite.specs.Rewritten.{rewritten}
use Rattle.rdl_rewrite.specs.declared.edit.Edit.{Edit}
use Rattle.rdl_held.specs.HeldMap.{HeldMap}
use Rattle.rdl_edit.specs.Backs.{Reversal, Fits, IsCheap}
use Rattle.rdl_edit.specs.Faults.{refused}
use Rattle.rdl_edit.specs.Step.{State, HasRows, Refuses, IsJudged, judged, judged_anew, step}
use Rattle.rdl_edit.specs.declared.refusal.Refusal.{Refusal}
use Rattle.rdl_edit.specs.declared.refusal.Refusal.TheVariants.{NoSuchPath, ThroughNamedType, NotAnInstance, NotAddable, NoSuchSibling, NameTaken, Reserved, InUse, NotSet, Faulty, Memory}
use Rattle.rdl_edit.proofs.EditsLead.{rows-deep}
use Rattle.rdl_edit.proofs.Placings.{judged-made}
use Rattle.rdl_edit.proofs.WaysBack.{cheap}
use Rattle.rdl_edit.specs.Keeping.{Keeps}

pub has-rows : (s : State) (h : HeldMap) → Keeps s h → HasRows s
has-rows s h k = record { rows = k.held.rows.rows; are = subst (λ (o : Option (List ℕ)). elaborated s.description o ≡ Ok k.held.rows.rows) k.top k.held.rows.are }

pub held-deep : (s : State) (h : HeldMap) → Keeps s h → depth s.description ≤ 16
held-deep s h k = rows-deep s (has-rows s h k)

-- ---- Where it leads.

pub leads : (s : State) (e : Edit) (new : Items) (h : HeldMap) → rewritten s.description e ≡ Ok new → Keeps (record { description = new; option = s.option }) h → step s e ≡ Ok (record { description = new; option = s.option })
leads s e new h made k =
    let there : State = record { description = new; option = s.option } in
    ap (judged_anew s.option) made ∙ ap (judged there) (has-rows there h k).are

-- ---- What takes it back.

pub fits-back : (s : State) (new : Items) (h : HeldMap) (back : Reversal) → AllFit back.patches new → image back.patches new ≡ s.description → Keeps s h → Fits (record { description = new; option = s.option }) back
fits-back s new h back fit leads k =
    record { applicable = fit; has_rows = subst (λ t. HasRows (record { description = t; option = s.option })) (sym leads) (has-rows s h k) }

pub cheap-back : (s : State) (h : HeldMap) (step ps back : List Patch) → Keeps s h → ps ≡ step → AllFit ps s.description → back ≡ inverses ps s.description → IsCheap step s.description back
cheap-back s h step ps back k which fit is = subst (λ qs. IsCheap qs s.description back) which (cheap ps back s.description fit (held-deep s h k) is)

-- ---- Why it is refused.

refuses-judged : (s : State) (e : Edit) (new : Items) (r : Refusal) → rewritten s.description e ≡ Ok new → IsJudged (record { description = new; option = s.option }) r → Refuses s e r
refuses-judged s e new (Faulty fault) made is = ap (judged_anew s.option) made ∙ ap (judged (record { description = new; option = s.option })) is
refuses-judged s e new Memory made is = tt
refuses-judged s e new NoSuchPath made is = absurd is
refuses-judged s e new ThroughNamedType made is = absurd is
refuses-judged s e new NotAnInstance made is = absurd is
refuses-judged s e new NotAddable made is = absurd is
refuses-judged s e new NoSuchSibling made is = absurd is
refuses-judged s e new NameTaken made is = absurd is
refuses-judged s e new Reserved made is = absurd is
refuses-judged s e new InUse made is = absurd is
refuses-judged s e new NotSet made is = absurd is

pub refuses : (s : State) (e : Edit) (new : Items) (fault : Fault) → rewritten s.description e ≡ Ok new → (elaborated new s.option ≡ Err fault) ⊎ (fault ≡ out_of_memory) → Refuses s e (refused fault)
refuses s e new fault made which = refuses-judged s e new (refused fault) made (judged-made new new s.option fault which refl)
