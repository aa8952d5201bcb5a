use Rattle.std.proofs.Common.{◌≡◌, ◌&&◌, not, Bool, true, false, sym, ap, ◌∙◌}
use Rattle.rdl_tree.specs.View as tree
use Rattle.rdl_marks.specs.View.{in_order}
use Rattle.rdl_nodes.specs.View.{slots_of}
use Rattle.rdl_renew.specs.AlikeSlots.{tells_of_width, has_instance, all_alike, are_alike}
use Rattle.rdl_renew.proofs.AlikeSteps.{none_gone}
use Rattle.rdl_renew.proofs.done.Done.is_alike.Goals as goal
use Rattle.rdl_renew.proofs.done.Done.is_alike.Goals.{After-has_instance}

-- whether an instance is gone, as the code tells it
gone : (c : After-has_instance) → c.has_instance.result ≡ has_instance (tree.list_of c.args.marks.now.items)
gone c =
    let marks = c.marks.inside in
    none_gone c.args.marks.now (in_order marks.pieces) marks.behind marks.gone.items c.as_slice.result.now c.has_instance.result c.marks.view_is c.as_slice.ensures.value c.has_instance.ensures

-- whether the other items are alike
abbrev all : Bool → (c : After-has_instance) → Bool
all w c = all_alike w c.args.marks.now (slots_of c.args.before.now) (slots_of c.args.self.now.slots.items) 0 (tree.list_of c.args.body.now)

pub returns-then-not-has_instance : goal.returns-then-not-has_instance
returns-then-not-has_instance c = λ lay saw old became like.
    let width : true ≡ not (tells_of_width c.args.self.now.reach.alert) = sym c.if-is_width_same.true ∙ c.is_width_same.ensures in
    like.alike
    ∙ (ap (λ w. all w c.before) width ∙ ap (λ b. not b && all (not (tells_of_width c.args.self.now.reach.alert)) c.before) (sym c.if-not-has_instance.true ∙ gone c.before))

pub returns-else-not-has_instance : goal.returns-else-not-has_instance
returns-else-not-has_instance c = λ lay saw old became like.
    ap (λ (b : Bool). not b) c.if-not-has_instance.false
    ∙ ap (λ b. not b && all (not (tells_of_width c.args.self.now.reach.alert)) c.before) (sym c.if-not-has_instance.false ∙ gone c.before)

pub returns : goal.returns
returns c = λ lay saw old became like.
    let width : false ≡ not (tells_of_width c.args.self.now.reach.alert) = sym c.if-is_width_same.false ∙ c.is_width_same.ensures in
    c.are_alike.ensures lay saw old became ∙ (λ j. are_alike (width j) c.args.marks.now (slots_of c.args.before.now) (slots_of (c.as_slice-2.ensures.value j)) c.args.body.now)
