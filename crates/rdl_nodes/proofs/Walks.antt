-- Items of a body one by one, as the code walks them.
use Rattle.std.proofs.Common.{◌≡◌, List, [], ◌∷◌, ◌++◌, length, take, refl, ap, sym, ◌∙◌}
use Rattle.rdl_seen.specs.Node as seen
use Rattle.rdl_seen.specs.Node.{walked, node, known, with_type, plain_slot, after_plain, plain_instances}
use Rattle.rdl_seen.specs.Slots as slots
use Rattle.rdl_seen.specs.Slots.{Slots, slot, field_slot, written, type_slot, part_slot}
use Rattle.rdl_nodes.specs.declared.node.Slot.{Slot}
use Rattle.rdl_nodes.specs.HeldWalked.{with_slot, slots_onto, behind}
use Rattle.rdl_nodes.specs.View.{add, slots_of}

-- ---- All items.

onto_more : (xs : List Slot) (x : Slot) (rest : Slots) → slots_onto (xs ++ x ∷ []) rest ≡ slots_onto xs (add x rest)
onto_more [] x rest = refl
onto_more (y ∷ ys) x rest = ap (add y) (onto_more ys x rest)

pub behind_more : (xs ys : List Slot) (x : Slot) (w : seen.Walked) → ys ≡ xs ++ x ∷ [] → behind xs (with_slot x w) ≡ behind ys w
behind_more xs ys x w e = λ i. record { slots = (sym (onto_more xs x w.slots) ∙ ap (λ (zs : List Slot). slots_onto zs w.slots) (sym e)) i; instances = w.instances }

pub onto_none : (xs : List Slot) → slots_onto xs slots.no_slots ≡ slots_of xs
onto_none [] = refl
onto_none (x ∷ xs) = ap (add x) (onto_none xs)

-- what stood at the front stays there
pub front_stays : {X : Type 0} (first now next : List X) → take (length first) now ≡ first → take (length now) next ≡ now → take (length first) next ≡ first
front_stays [] now next e f = refl
front_stays (x ∷ xs) [] next e f = absurd (no_cons e)
  where
    no_cons : [] ≡ x ∷ xs → ⊥
    no_cons e = cc
front_stays (x ∷ xs) (y ∷ ys) [] e f = absurd (no_cons f)
  where
    no_cons : [] ≡ y ∷ ys → ⊥
    no_cons e = cc
front_stays (x ∷ xs) (y ∷ ys) (z ∷ zs) e f =
    let head : y ≡ x = cc in
    let rest : take (length xs) ys ≡ xs = cc in
    let head_next : z ≡ y = cc in
    let rest_next : take (length ys) zs ≡ ys = cc in
    λ i. (head_next ∙ head) i ∷ front_stays xs ys zs rest rest_next i
