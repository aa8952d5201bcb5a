-- What single items of a body add to what the body states and weighs.
-- SystemRDL 2.0, clause 5, property assignment; own: weights.
use Rattle.std.specs.Prelude.{ℕ}
use Rattle.rdl_tree.specs.Items.{no_items}
use Rattle.rdl_tree.specs.View.{add}
use Rattle.rdl_tree.specs.declared.description.Item.{Item}
use Rattle.rdl_tree.specs.declared.description.Item.TheVariants.{Define, Instance, Own, Default, Dynamic}
use Rattle.rdl_seen.specs.declared.values.Values.{Values}
use Rattle.rdl_seen.specs.Contents.{items_weight}
use Rattle.rdl_seen.specs.Values.{put_named}

-- what an item states of the body's own component, over what is stated already
abbrev pub after_own_item : Item → Values → Values
after_own_item (Define n c) v = v
after_own_item (Instance s o) v = v
after_own_item (Own p x) v = put_named p x v
after_own_item (Default p x) v = v
after_own_item (Dynamic t p x) v = v

-- the defaults behind an item
abbrev pub after_default_item : Item → Values → Values
after_default_item (Define n c) v = v
after_default_item (Instance s o) v = v
after_default_item (Own p x) v = v
after_default_item (Default p x) v = put_named p x v
after_default_item (Dynamic t p x) v = v

-- a number that the weight of an item isn't above, but for what is inside it
abbrev pub shallow_weight : Item → ℕ
shallow_weight x = items_weight (add x no_items)
