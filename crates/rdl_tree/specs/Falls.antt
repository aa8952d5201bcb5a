-- A body has more items than each component inside it, so that a tree ends.
-- own: no part of what a description means.
use Rattle.std.specs.Prelude.{◌≤◌, max, List, [], ◌∷◌}
use Rattle.std.proofs.Common.{arith}
use denote.Param.Weighed.{most}
use Rattle.rdl_tree.specs.Items.{Items, count}
use Rattle.rdl_tree.specs.View.{add, items_of}
use Rattle.rdl_tree.specs.declared.description.Item.{Item}
use Rattle.rdl_tree.specs.declared.description.Item.TheVariants.{Define, Instance, Own, Default, Dynamic}
use Rattle.rdl_tree.specs.declared.description.Of.TheVariants.{Named, Anonymous}
use Rattle.rdl_tree.specs.declared.description.Body.TheDeep.{deep-Item}

deep_le-count-add : (x : Item) (rest : Items) → max (deep-Item x) (count rest) ≤ count (add x rest)
deep_le-count-add (Define n c) rest = omega arith
deep_le-count-add (Instance s (Named t)) rest = omega arith
deep_le-count-add (Instance s (Anonymous c)) rest = omega arith
deep_le-count-add (Own p v) rest = omega arith
deep_le-count-add (Default p v) rest = omega arith
deep_le-count-add (Dynamic t p v) rest = omega arith

pub deep_le-count : (xs : List Item) → max (most deep-Item xs) 0 ≤ count (items_of xs)
deep_le-count [] = omega arith
deep_le-count (x ∷ xs) = omega (arith, deep_le-count-add x (items_of xs), deep_le-count xs)
