-- How many instances are placed among some items, slot by slot.
use Rattle.std.proofs.Common.{◌≡◌, ℕ, zero, suc, ◌+◌, ◌≤◌, List, [], ◌∷◌, length, take, refl, ap, ◌∙◌, arith}
use Rattle.std.specs.Prelude.{sum_by, slice_get, Some}
use Rattle.std.proofs.lemmas.List.{take_all}
use Rattle.std.proofs.lemmas.List.Sums.{sum_by-cons}
use Rattle.rdl_tree.specs.Weight.{capped}
use Rattle.rdl_nodes.specs.Placed.{all_placed}
use Rattle.rdl_nodes.specs.View.{add, slots_of, slots_count}
use Rattle.rdl_nodes.specs.declared.node.Slot.{Slot}
use Rattle.rdl_nodes.specs.declared.node.Slot.TheVariants.{Own, Default, Dynamic, Field, Named, Define, Part}
use Rattle.rdl_seen.specs.Slots.{Slots, no_slots}

abbrev pub one_placed : Slot → ℕ
one_placed s = all_placed (add s no_slots)

placed_first : (s : Slot) (rest : Slots) → one_placed s + all_placed rest ≡ all_placed (add s rest)
placed_first Own rest = omega arith
placed_first (Default p) rest = omega arith
placed_first (Dynamic v) rest = omega arith
placed_first (Field f) rest = omega arith
placed_first (Named class s) rest = omega arith
placed_first (Define class s n) rest = omega arith
placed_first (Part n) rest = omega arith

pub placed_sum : (xs : List Slot) → sum_by one_placed xs ≡ all_placed (slots_of xs)
placed_sum [] = refl
placed_sum (x ∷ xs) = omega (arith, placed_sum xs, placed_first x (slots_of xs), sum_by-cons one_placed x xs)

pub placed_done : (n i : ℕ) (xs : List Slot) → n ≡ capped (sum_by one_placed (take i xs)) → length xs ≤ i → n ≡ capped (all_placed (slots_of xs))
placed_done n i xs is l = is ∙ ap (λ ys. capped (sum_by one_placed ys)) (take_all i xs l) ∙ ap capped (placed_sum xs)

-- an item has no more items than all of them
count_first : (s : Slot) (rest : Slots) → slots_count (add s no_slots) + slots_count rest ≡ slots_count (add s rest)
count_first Own rest = omega arith
count_first (Default p) rest = omega arith
count_first (Dynamic v) rest = omega arith
count_first (Field f) rest = omega arith
count_first (Named class s) rest = omega arith
count_first (Define class s n) rest = omega arith
count_first (Part n) rest = omega arith

pub count_within : (xs : List Slot) (i : ℕ) (x : Slot) → slice_get xs i ≡ Some x → slots_count (add x no_slots) ≤ slots_count (slots_of xs)
count_within [] i x e = absurd cc
count_within (y ∷ ys) zero x e =
    let same : y ≡ x = cc in
    let more = count_first y (slots_of ys) in
    let one : slots_count (add y no_slots) ≡ slots_count (add x no_slots) = ap (λ z. slots_count (add z no_slots)) same in
    omega (arith, more, one)
count_within (y ∷ ys) (suc i) x e = omega (arith, count_within ys i x e, count_first y (slots_of ys))
