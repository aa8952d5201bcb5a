use Rattle.std.proofs.Common.{◌≡◌, true, sym, ap, ◌∙◌}
use Rattle.rdl_seen.specs.Slots.{Core}
use Rattle.rdl_nodes.specs.Placed.{same_values, placed_by}
use Rattle.rdl_nodes.proofs.Counts.{none_placed, values_are}
use Rattle.rdl_nodes.proofs.finished.core_again.Goals as goal
use Rattle.rdl_nodes.proofs.finished.core_again.Goals.{After-of_container-core}

-- the values are what they were
same : (c : After-of_container-core) → same_values c.args.before.now.values c.args.values.now ≡ true
same c = ap (λ (k : Core). same_values k.values c.args.values.now) (sym c.before-2.view_is) ∙ (sym c.are_same.ensures ∙ c.if-not-are_same.false)

pub returns-clause-core : goal.returns-clause-core
returns-clause-core c = λ lay defaults own weight values stays.
    let was : c.args.before.now.values ≡ c.args.values.now = values_are c.args.before.now.values c.args.values.now (same c) in
    let laid = stays c.if-not-are_alike.false (sym values ∙ sym was) in
    let container = sym c.is_container.ensures ∙ c.if-not-is_container.false in
    c.of_container-core.ensures.however_laid lay defaults container own weight values (c.in_ok-layouts.ensures ∙ laid.layouts) (ap (λ (b : Core). b.apart) c.before-2.view_is ∙ laid.apart)

pub returns-clause-placed : goal.returns-clause-placed
returns-clause-placed c =
    let made = c.of_container-core.ensures.values in
    ap (λ w. placed_by c.args.are_alike c.args.before.now.values w c.of_container-core.result.layouts) made
    ∙ none_placed c.args.are_alike c.args.before.now.values c.args.values.now c.of_container-core.result.layouts c.if-not-are_alike.false (same c)
