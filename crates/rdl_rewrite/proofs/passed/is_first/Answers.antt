use Rattle.std.proofs.Common.{◌≡◌, true, ap, sym, ◌∙◌}
use Rattle.std.proofs.lemmas.Bool.{not-true}
use Rattle.rdl_tree.specs.ItemAt.{item_at}
use Rattle.rdl_scope.specs.Walk.{is_instance}
use Rattle.rdl_rewrite.proofs.Before.{first_there}
use Rattle.rdl_rewrite.proofs.passed.is_first.Goals as goal

pub returns-then-is_instance : goal.returns-then-is_instance
returns-then-is_instance c = λ h.
    let sweep = c.args.sweep.now in
    let name = c.args.name.now in
    let here : is_instance name (item_at sweep.way.now sweep.whole.now.items) ≡ true = ap (is_instance name) (sym c.requires.taken) ∙ sym c.is_instance.ensures ∙ c.if-is_instance.true in
    first_there sweep.whole.now.items sweep.way.now sweep.before.now name c.requires.before here (sym c.has_instance.ensures ∙ not-true c.has_instance.result h)
