-- What is kept at an address.
use Rattle.std.proofs.Common.{◌≡◌, ℕ, zero, suc, ◌-◌, ◌≤◌, List, [], ◌∷◌, length, take, drop, get_or, refl, ap, sym, ◌∙◌, arith}
use Rattle.std.specs.Prelude.{slice_get, option_and_then, Some}
use Rattle.rdl_seen.specs.Meaning.{kept_at, node_at}
use Rattle.rdl_seen.specs.Slots.{Slots, Node}
use Rattle.rdl_nodes.specs.declared.node.Slot.{Slot}
use Rattle.rdl_nodes.specs.declared.node.Slot.TheVariants.{Own, Default, Dynamic, Field, Named, Define, Part}
use Rattle.rdl_nodes.specs.KeptNode.{slot_node}
use Rattle.rdl_nodes.specs.View.{slots_of}
use Rattle.rdl_nodes.proofs.FromBehind.{rest_slice}

pub kept_at_is : (xs : List Slot) (i : ℕ) → kept_at i (slots_of xs) ≡ option_and_then slot_node (slice_get xs i)
kept_at_is [] zero = refl
kept_at_is [] (suc i) = refl
kept_at_is (Own ∷ xs) zero = refl
kept_at_is (Default p ∷ xs) zero = refl
kept_at_is (Dynamic v ∷ xs) zero = refl
kept_at_is (Field f ∷ xs) zero = refl
kept_at_is (Named class s ∷ xs) zero = refl
kept_at_is (Define class s n ∷ xs) zero = refl
kept_at_is (Part n ∷ xs) zero = refl
kept_at_is (Own ∷ xs) (suc i) = kept_at_is xs i
kept_at_is (Default p ∷ xs) (suc i) = kept_at_is xs i
kept_at_is (Dynamic v ∷ xs) (suc i) = kept_at_is xs i
kept_at_is (Field f ∷ xs) (suc i) = kept_at_is xs i
kept_at_is (Named class s ∷ xs) (suc i) = kept_at_is xs i
kept_at_is (Define class s n ∷ xs) (suc i) = kept_at_is xs i
kept_at_is (Part n ∷ xs) (suc i) = kept_at_is xs i

-- an address of two numbers and more
pub deeper : (path : List ℕ) (s : Slots) (k : Node) → 2 ≤ length path → kept_at (get_or path 0 0) s ≡ Some k → node_at (take (length path - 1) (drop 1 path)) k.slots ≡ node_at path s
deeper [] s k h e = absurd (omega arith)
deeper (i ∷ []) s k h e = absurd (omega arith)
deeper (i ∷ j ∷ c) s k h e =
    ap (λ (p : List ℕ). node_at p k.slots) (rest_slice (i ∷ j ∷ c) 1)
    ∙ ap (option_and_then (λ (n : Node). node_at (j ∷ c) n.slots)) (sym e)
