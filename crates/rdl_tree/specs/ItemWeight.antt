-- The weight of one item, with all that is inside it.
-- own: SystemRDL 2.0 has no weights.
use Rattle.std.specs.Prelude.{ℕ}
use Rattle.rdl_tree.specs.Items.{no_items}
use Rattle.rdl_tree.specs.View.{add}
use Rattle.rdl_tree.specs.Weight.{weight}
use Rattle.rdl_tree.specs.declared.description.Item.{Item}

abbrev pub item_weight : Item → ℕ
item_weight x = weight (add x no_items)
