-- Which items may have a patch of their own though they aren't the item on the way, as the names in them say.
-- own: no part of what becomes of an item; a body without any, into which the way doesn't lead, is passed over.
use Rattle.std.specs.Prelude.{Bool, true, false, ◌||◌, Option}
use Rattle.rdl_tree.specs.Items.{Items, no_items, plain, holder}
use Rattle.rdl_tree.specs.View.{plain_item}
use Rattle.rdl_tree.specs.declared.description.Item.{Item}
use Rattle.rdl_tree.specs.declared.description.Item.TheVariants.{Define, Instance, Own, Default, Dynamic}
use Rattle.rdl_rewrite.specs.Led.{refers_to}
use Rattle.rdl_rewrite.specs.Passed.{may_pass}

-- an instance of a type with the name of the taken definition, or an assignment whose names may pass the taken item, which
-- stands in the component that the outer item holds
abbrev pub may_touch : (taken outer : Option Item) → Item → Bool
may_touch taken outer (Instance s of) = refers_to taken (Instance s of)
may_touch taken outer (Dynamic target p v) = may_pass taken outer true target
may_touch taken outer (Define n c) = false
may_touch taken outer (Own p v) = false
may_touch taken outer (Default p v) = false

-- an item without a body passes the test, among these or inside them
abbrev pub is_any_inside : (Item → Bool) → Items → Bool
is_any_inside test no_items = false
is_any_inside test (plain p rest) = test (plain_item p) || is_any_inside test rest
is_any_inside test (holder h body rest) = is_any_inside test body || is_any_inside test rest
