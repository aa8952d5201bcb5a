use Rattle.std.proofs.Common.{◌≡◌, true, sym, ap, ◌∙◌}
use Rattle.rdl_seen.specs.Slots.{Core}
use Rattle.rdl_nodes.specs.Placed.{same_values}
use Rattle.rdl_nodes.proofs.Counts.{counts_so, counts_none, none_placed, values_are}
use Rattle.rdl_nodes.proofs.finished.layouts_over.Given.{Over}
use Rattle.rdl_nodes.proofs.finished.layouts_over.Goals as goal
use Rattle.rdl_nodes.proofs.finished.layouts_over.Goals.{In_ok-layouts}

-- the values are what they were
same : (g : Over) (c : In_ok-layouts g) → same_values c.args.before.now.values c.args.values.now ≡ true
same g c = ap (λ (k : Core). same_values k.values c.args.values.now) (sym c.before-2.view_is) ∙ (sym c.are_same.ensures ∙ c.if-are_same.true)

pub returns-then-are_same-clause-layouts : goal.returns-then-are_same-clause-layouts
returns-then-are_same-clause-layouts g c = λ still. c.in_ok-layouts.ensures ∙ still c.if-are_alike.true (sym (values_are c.args.before.now.values c.args.values.now (same g c)))

pub returns-then-are_same-clause-placed : goal.returns-then-are_same-clause-placed
returns-then-are_same-clause-placed g c =
    let a = c.args.placed.now in
    counts_so a a (sym (none_placed c.args.are_alike c.args.before.now.values c.args.values.now c.in_ok-layouts.layouts.value c.if-are_alike.true (same g c))) (counts_none a)
