-- A component has more items than each component inside it, so that a tree of nodes ends.
-- own: no part of what is kept.
use Rattle.std.specs.Prelude.{◌≤◌, max, List, [], ◌∷◌}
use Rattle.std.proofs.Common.{arith}
use denote.Param.Weighed.{most}
use Rattle.rdl_nodes.specs.View.{slots_of, slots_count}
use Rattle.rdl_nodes.specs.declared.node.Slot.{Slot}
use Rattle.rdl_nodes.specs.declared.node.Slot.TheVariants.{Own, Default, Dynamic, Field, Named, Define, Part}
use Rattle.rdl_nodes.specs.declared.node.Node.TheDeep.{deep-Slot}

pub deep_le-count : (xs : List Slot) → max (most deep-Slot xs) 0 ≤ slots_count (slots_of xs)
deep_le-count [] = omega arith
deep_le-count (Own ∷ xs) = omega (arith, deep_le-count xs)
deep_le-count (Default p ∷ xs) = omega (arith, deep_le-count xs)
deep_le-count (Dynamic v ∷ xs) = omega (arith, deep_le-count xs)
deep_le-count (Field f ∷ xs) = omega (arith, deep_le-count xs)
deep_le-count (Named class s ∷ xs) = omega (arith, deep_le-count xs)
deep_le-count (Define class s n ∷ xs) = omega (arith, deep_le-count xs)
deep_le-count (Part n ∷ xs) = omega (arith, deep_le-count xs)
