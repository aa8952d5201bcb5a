use Rattle.std.proofs.Common.{sym, ap, ◌∙◌, arith}
use Rattle.std.proofs.lemmas.List.{with_items_is}
use Rattle.rdl_tree.specs.View.{items_of}
use Rattle.rdl_tree.proofs.Shifts.{shifted_view}
use Rattle.rdl_tree.proofs.description.Body.shift.Goals as goal

pub returns : goal.returns
returns c =
    ap items_of (with_items_is c.self.inside.items c.shift_among.new.items (omega arith))
    ∙ shifted_view c.args.from c.args.to c.args.self.now c.self.inside.items.items c.as_mut_slice.result.now c.shift_among.new.items (sym c.self.view_is) c.as_mut_slice.ensures.value c.shift_among.ensures
