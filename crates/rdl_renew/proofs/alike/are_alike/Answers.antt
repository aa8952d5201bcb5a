use Rattle.std.proofs.Common.{◌≡◌, ◌&&◌, not, Bool, sym, ap, ◌∙◌}
use Rattle.rdl_tree.specs.View as tree
use Rattle.rdl_marks.specs.View.{in_order}
use Rattle.rdl_nodes.specs.View.{slots_of}
use Rattle.rdl_renew.specs.AlikeSlots.{has_instance, all_alike}
use Rattle.rdl_renew.proofs.AlikeSteps.{none_gone}
use Rattle.rdl_renew.proofs.alike.are_alike.Goals as goal
use Rattle.rdl_renew.proofs.alike.are_alike.Goals.{After-has_instance}

-- whether an instance is gone, as the code tells it
gone : (c : After-has_instance) → c.has_instance.result ≡ has_instance (tree.list_of c.args.marks.now.items)
gone c =
    let marks = c.marks.inside in
    none_gone c.args.marks.now (in_order marks.pieces) marks.behind marks.gone.items c.as_slice.result.now c.has_instance.result c.marks.view_is c.as_slice.ensures.value c.has_instance.ensures

pub returns-then-not-has_instance : goal.returns-then-not-has_instance
returns-then-not-has_instance c = λ lay saw old became.
    let all = all_alike c.args.is_width_same c.args.marks.now (slots_of c.args.before.now) (slots_of c.args.now.now) 0 (tree.list_of c.args.body.now) in
    c.all_alike.ensures lay saw old became ∙ ap (λ b. not b && all) (sym c.if-not-has_instance.true ∙ gone c.before.before)

pub returns-else-not-has_instance : goal.returns-else-not-has_instance
returns-else-not-has_instance c = λ lay saw old became.
    let all = all_alike c.args.is_width_same c.args.marks.now (slots_of c.args.before.now) (slots_of c.args.now.now) 0 (tree.list_of c.args.body.now) in
    ap (λ (b : Bool). not b) c.if-not-has_instance.false ∙ ap (λ b. not b && all) (sym c.if-not-has_instance.false ∙ gone c.before)
