use Rattle.std.proofs.Common.{arith, length, ◌<◌, ◌∙◌, sym}
use Rattle.rdl_tree.specs.Find.{is_named}
use Rattle.rdl_tree.specs.View.{list_of}
use Rattle.rdl_rewrite.proofs.Places.{position_below}
use Rattle.rdl_rewrite.proofs.place.Place.number.Goals as goal

pub overflow_add-result : goal.overflow_add-result
overflow_add-result c =
    let below : c.in_ok-position-in-After.field-0 < length (list_of c.args.body.now) =
    position_below (is_named c.in-After.sibling) (list_of c.args.body.now) _ (sym c.position-in-After.ensures ∙ c.in_ok-position-in-After.was) in
    omega (arith, below, c.len-len.ensures, c.len-len.type_inv)
