use Rattle.std.proofs.Common.{◌≡◌, ◌⊎◌, inr, None, Ok, Err, sym, ap, ◌∙◌, subst, rules}
use Rattle.rdl_tree.specs.Patch.{image, inverses}
use Rattle.rdl_scope.specs.ItemFaults.{fault_of, out_of_memory}
use Rattle.rdl_elab.specs.Faults.{elaborated}
use Rattle.rdl_rewrite.specs.Patches.{patches}
use Rattle.rdl_rewrite.specs.Rewritten.{rewritten}
use Rattle.rdl_edit.specs.Backs.{Fits, IsCheap}
use Rattle.rdl_edit.specs.Faults.{refused}
use Rattle.rdl_edit.specs.Step.{State, HasRows, Leads, Refuses}
use Rattle.rdl_edit.proofs.Placings.{faultless}
use Rattle.rdl_edit.specs.Keeping.{Keeps}
use Rattle.rdl_edit.specs.QuietSteps.{IsQuietStep}
use Rattle.rdl_edit.proofs.Placings.{IsCounted, counted, counted-there}
use Rattle.rdl_edit.proofs.QuietEdits.{quiet-edits}
use Rattle.rdl_edit.proofs.QuietWaysBack.{quiet-back}
use Rattle.rdl_edit.proofs.Turning.{held-deep, has-rows, leads, fits-back, cheap-back, refuses}
use Rattle.rdl_edit.proofs.map.MapInvertible.apply.Goals as goal

pub patches_of_shallow-requires : goal.patches_of_shallow-requires
patches_of_shallow-requires c = held-deep (record { description = c.self.inside.description.items; option = c.self.inside.name }) c.self.inside.held c.self.invariant

pub returns-clause-leads : goal.returns-clause-leads
returns-clause-leads c =
    let d = c.self.inside.description.items in
    let s : State = record { description = d; option = c.self.inside.name } in
    let new : State = record { description = c.turn.new.description.items; option = c.self.inside.name } in
    let same : s ≡ c.args.self.now.state = search rules in
    let asked : rewritten d c.args.edit.now ≡ Ok (image c.in_ok-patches.patches.items d) = search rules in
    let made : rewritten d c.args.edit.now ≡ Ok c.turn.new.description.items = asked ∙ ap Ok (sym c.in-Ok.ensures.made) in
    let keeps : Keeps new c.turn.new.self = record { held = c.turn.ensures.held; top = c.turn.ensures.top ∙ c.self.invariant.top } in
    subst (λ t. Leads t c.args.edit.now new) same (leads s c.args.edit.now c.turn.new.description.items c.turn.new.self made keeps)

pub returns-clause-fits : goal.returns-clause-fits
returns-clause-fits c =
    let s : State = record { description = c.self.inside.description.items; option = c.self.inside.name } in
    let new : State = record { description = c.turn.new.description.items; option = c.self.inside.name } in
    subst (Fits new) (sym c.new.ensures) (fits-back s c.turn.new.description.items c.self.inside.held _ c.in-Ok.ensures.fits c.in-Ok.ensures.leads c.self.invariant)

pub returns-clause-own : goal.returns-clause-own
returns-clause-own c =
    let old = c.args.self.now.state in
    let s : State = record { description = c.self.inside.description.items; option = c.self.inside.name } in
    let same : s ≡ old = search rules in
    let rows : HasRows old = subst HasRows same (has-rows s c.self.inside.held c.self.invariant) in
    let which : c.in_ok-patches.patches.items ≡ patches c.self.inside.description.items c.args.edit.now = search rules in
    let inverse : c.new.result.patches ≡ inverses (patches old.description c.args.edit.now) old.description = search rules in
    inr (record { edit = c.args.edit.now; old = old; has_rows = rows; led = returns-clause-leads c; are = inverse })

pub returns-clause-cost : goal.returns-clause-cost
returns-clause-cost c =
    let d = c.self.inside.description.items in
    let s : State = record { description = d; option = c.self.inside.name } in
    let same : s ≡ c.args.self.now.state = search rules in
    let which : c.in_ok-patches.patches.items ≡ patches d c.args.edit.now = search rules in
    let back : c.in-Ok.back.items ≡ c.new.result.patches = search rules in
    subst (λ t. IsCheap (patches t.description c.args.edit.now) t.description c.new.result.patches) same
    (cheap-back s c.self.inside.held (patches d c.args.edit.now) c.in_ok-patches.patches.items c.new.result.patches c.self.invariant which c.in_ok-patches.ensures.fit (sym back ∙ c.in-Ok.ensures.back))

-- what is known of the number that the step placed
count_of : (c : goal.After-new) → IsCounted c.args.self.now.state.description (patches c.args.self.now.state.description c.args.edit.now) c.turn.new.description.items c.turn.new.self.placed
count_of c =
    let d = c.self.inside.description.items in
    let same : d ≡ c.args.self.now.state.description = search rules in
    let which : c.in_ok-patches.patches.items ≡ patches d c.args.edit.now = search rules in
    let asked : c.in_ok-patches.patches.items ≡ patches c.args.self.now.state.description c.args.edit.now = which ∙ ap (λ t. patches t c.args.edit.now) same in
    counted-there c.args.self.now.state.description d c.turn.new.description.items (patches c.args.self.now.state.description c.args.edit.now) c.in_ok-patches.patches.items c.turn.new.self.placed same asked
    (counted d c.in_ok-patches.patches.items c.turn.new.description.items c.self.inside.held c.turn.new.self c.in_ok-patches.ensures.fit c.in-Ok.ensures.made c.self.invariant.held c.turn.ensures.held c.in-Ok.ensures.placed)

pub returns-clause-placed : goal.returns-clause-placed
returns-clause-placed c = (count_of c).told

pub returns-clause-edited : goal.returns-clause-edited
returns-clause-edited c = (count_of c).edited

pub returns-clause-none : goal.returns-clause-none
returns-clause-none c = λ h.
    let d = c.self.inside.description.items in
    let same : d ≡ c.args.self.now.state.description = search rules in
    let which : c.in_ok-patches.patches.items ≡ patches d c.args.edit.now = search rules in
    let asked : rewritten d c.args.edit.now ≡ Ok (image c.in_ok-patches.patches.items d) = search rules in
    let whole : rewritten d c.args.edit.now ≡ Ok (image (patches d c.args.edit.now) d) = asked ∙ ap (λ ps. Ok (image ps d)) which in
    let accepted : fault_of d ≡ None = faultless d c.self.inside.held.top c.self.invariant.held.rows.rows c.self.invariant.held.rows.are in
    (count_of c).none (subst (λ t. IsQuietStep (patches t c.args.edit.now) t) same (quiet-edits d c.args.edit.now accepted h whole))

pub returns-clause-back_quiet : goal.returns-clause-back_quiet
returns-clause-back_quiet c = λ h.
    let d = c.self.inside.description.items in
    let which : c.in_ok-patches.patches.items ≡ patches d c.args.edit.now = search rules in
    let asked : rewritten d c.args.edit.now ≡ Ok (image c.in_ok-patches.patches.items d) = search rules in
    let whole : rewritten d c.args.edit.now ≡ Ok (image (patches d c.args.edit.now) d) = asked ∙ ap (λ ps. Ok (image ps d)) which in
    let accepted : fault_of d ≡ None = faultless d c.self.inside.held.top c.self.invariant.held.rows.rows c.self.invariant.held.rows.are in
    let quiet : IsQuietStep c.in_ok-patches.patches.items d = subst (λ ps. IsQuietStep ps d) (sym which) (quiet-edits d c.args.edit.now accepted h whole) in
    let back : c.in-Ok.back.items ≡ c.new.result.patches = search rules in
    quiet-back c.in_ok-patches.patches.items c.new.result.patches d c.turn.new.description.items c.in_ok-patches.ensures.fit c.in-Ok.ensures.made (sym back ∙ c.in-Ok.ensures.back) quiet

pub returns-in-Err-clause-refused : goal.returns-in-Err-clause-refused
returns-in-Err-clause-refused c =
    let d = c.self.inside.description.items in
    let s : State = record { description = d; option = c.self.inside.name } in
    let same : s ≡ c.args.self.now.state = search rules in
    let asked : rewritten d c.args.edit.now ≡ Ok (image c.in_ok-patches.patches.items d) = search rules in
    let which : (elaborated (image c.in_ok-patches.patches.items d) c.self.inside.name ≡ Err c.in-Err.fault) ⊎ (c.in-Err.fault ≡ out_of_memory) =
    subst (λ o. (elaborated (image c.in_ok-patches.patches.items d) o ≡ Err c.in-Err.fault) ⊎ (c.in-Err.fault ≡ out_of_memory)) c.self.invariant.top c.in-Err.ensures.refused in
    subst (Refuses c.args.self.now.state c.args.edit.now) (sym c.refused.ensures)
    (subst (λ t. Refuses t c.args.edit.now (refused c.in-Err.fault)) same (refuses s c.args.edit.now (image c.in_ok-patches.patches.items d) c.in-Err.fault asked which))
