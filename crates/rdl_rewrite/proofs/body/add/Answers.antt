use Rattle.std.proofs.Common.{arith, length, ap}
use Rattle.rdl_tree.specs.declared.description.Item.{Item}
use Rattle.rdl_rewrite.proofs.body.add.Goals as goal

pub inserts-requires-clause-numbers : goal.inserts-requires-clause-numbers
inserts-requires-clause-numbers c =
    omega (arith, c.as_slice.type_inv, c.as_slice-old.type_inv, c.in-Some.ensures.within, ap (length {A = Item}) c.as_slice-old.ensures)
