-- Slots that are put in the place of the same ones.
use Rattle.std.proofs.Common.{◌≡◌, List, [], ◌∷◌, ◌++◌, ap}
use Rattle.rdl_nodes.specs.View.{add, slots_of}
use Rattle.rdl_nodes.specs.declared.node.Slot.{Slot}
use Rattle.rdl_seen.specs.Slots.{Slots}

-- one in the place of another that is the same in front of any others
pub same_slot : (xs ys : List Slot) (x y : Slot) → ((rest : Slots) → add x rest ≡ add y rest) → slots_of (xs ++ x ∷ ys) ≡ slots_of (xs ++ y ∷ ys)
same_slot [] ys x y same = same (slots_of ys)
same_slot (z ∷ xs) ys x y same = ap (add z) (same_slot xs ys x y same)
