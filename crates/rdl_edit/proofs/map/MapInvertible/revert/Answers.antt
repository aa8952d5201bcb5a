use Rattle.std.proofs.Common.{◌≡◌, sym, ◌∙◌, subst, rules}
use Rattle.rdl_tree.specs.Patch.{image, inverses}
use Rattle.rdl_elab.specs.Known.{HasRows as HasRowsWith}
use Rattle.rdl_edit.specs.Backs.{Fits, prior, IsCheap}
use Rattle.rdl_edit.specs.OfEdits.{IsOfEdit}
use Rattle.rdl_edit.specs.Step.{State, HasRows}
use Rattle.rdl_edit.proofs.OwnSteps.{turned}
use Rattle.rdl_edit.proofs.Placings.{IsCounted, counted, counted-there}
use Rattle.rdl_edit.proofs.QuietWaysBack.{quiet-back}
use Rattle.rdl_edit.proofs.Turning.{has-rows, fits-back, cheap-back}
use Rattle.rdl_edit.proofs.map.MapInvertible.revert.Goals as goal

pub turn_known-requires-clause-rows : goal.turn_known-requires-clause-rows
turn_known-requires-clause-rows c =
    let there : prior c.args.self.now.state c.args.back ≡ record { description = image c.into_vec-patches.result.items c.self.inside.description.items; option = c.self.inside.name } = search rules in
    let rows : HasRows (record { description = image c.into_vec-patches.result.items c.self.inside.description.items; option = c.self.inside.name }) = subst HasRows there c.requires.has_rows in
    subst (HasRowsWith (image c.into_vec-patches.result.items c.self.inside.description.items)) (sym c.self.invariant.top) (record { rows = rows.rows; are = rows.are })

pub returns-clause-fits : goal.returns-clause-fits
returns-clause-fits c =
    let s : State = record { description = c.self.inside.description.items; option = c.self.inside.name } in
    let new : State = record { description = c.turn_known.new.description.items; option = c.self.inside.name } in
    subst (Fits new) (sym c.new-2.ensures) (fits-back s c.turn_known.new.description.items c.self.inside.held _ c.in-Ok.ensures.fits c.in-Ok.ensures.leads c.self.invariant)

pub returns-clause-cost : goal.returns-clause-cost
returns-clause-cost c =
    let d = c.self.inside.description.items in
    let s : State = record { description = d; option = c.self.inside.name } in
    let same : s ≡ c.args.self.now.state = search rules in
    let which : c.into_vec-patches.result.items ≡ c.args.back.patches = search rules in
    let forward : c.in-Ok.forward.items ≡ c.new-2.result.patches = search rules in
    subst (λ t. IsCheap c.args.back.patches t.description c.new-2.result.patches) same
    (cheap-back s c.self.inside.held c.args.back.patches c.into_vec-patches.result.items c.new-2.result.patches c.self.invariant which (search rules) (sym forward ∙ c.in-Ok.ensures.back))

count_of : (c : goal.After-new-2) → IsCounted c.args.self.now.state.description c.args.back.patches c.turn_known.new.description.items c.turn_known.new.self.placed
count_of c =
    let d = c.self.inside.description.items in
    let same : d ≡ c.args.self.now.state.description = search rules in
    let which : c.into_vec-patches.result.items ≡ c.args.back.patches = search rules in
    counted-there c.args.self.now.state.description d c.turn_known.new.description.items c.args.back.patches c.into_vec-patches.result.items c.turn_known.new.self.placed same which
    (counted d c.into_vec-patches.result.items c.turn_known.new.description.items c.self.inside.held c.turn_known.new.self (search rules) c.in-Ok.ensures.made c.self.invariant.held c.turn_known.ensures.held c.in-Ok.ensures.placed)

pub returns-clause-placed : goal.returns-clause-placed
returns-clause-placed c = (count_of c).told

pub returns-clause-edited : goal.returns-clause-edited
returns-clause-edited c = (count_of c).edited

pub returns-clause-none : goal.returns-clause-none
returns-clause-none c = (count_of c).none

pub returns-clause-back_quiet : goal.returns-clause-back_quiet
returns-clause-back_quiet c = λ h.
    let d = c.args.self.now.state.description in
    let same : c.self.inside.description.items ≡ d = search rules in
    let made : c.turn_known.new.description.items ≡ image c.args.back.patches d = search rules in
    let forward : c.new-2.result.patches ≡ inverses c.args.back.patches d = search rules in
    quiet-back c.args.back.patches c.new-2.result.patches d c.turn_known.new.description.items c.requires.applicable made forward h

pub returns-clause-own : goal.returns-clause-own
returns-clause-own c = λ h.
    let old = c.args.self.now.state in
    let s : State = record { description = c.self.inside.description.items; option = c.self.inside.name } in
    let same : s ≡ old = search rules in
    let rows : HasRows old = subst HasRows same (has-rows s c.self.inside.held c.self.invariant) in
    let forward : c.new-2.result.patches ≡ inverses c.args.back.patches old.description = search rules in
    let there : record { description = image c.args.back.patches old.description; option = old.option } ≡ record { description = c.turn_known.new.description.items; option = c.self.inside.name } = search rules in
    subst (λ qs. IsOfEdit (record { description = c.turn_known.new.description.items; option = c.self.inside.name }) qs) (sym forward)
    (subst (λ x. IsOfEdit x (inverses c.args.back.patches old.description)) there (turned old c.args.back.patches rows h))
