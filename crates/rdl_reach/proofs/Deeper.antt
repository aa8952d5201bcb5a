-- What the items of a body see, and what is kept of them.
use Rattle.std.proofs.Common.{◌≡◌, ℕ, zero, suc, List, [], ◌∷◌, ◌++◌, Option, Some, None, refl, ap}
use Rattle.std.specs.Prelude.{slice_get, option_and_then}
use Rattle.std.proofs.lemmas.Option.{same_Some}
use Rattle.rdl_tree.specs.Address.{inner, body_at}
use Rattle.rdl_tree.specs.Items.{Items}
use Rattle.rdl_tree.specs.View.{list_of}
use Rattle.rdl_tree.specs.declared.description.Item.{Item}
use Rattle.rdl_scope.specs.Closed.{Standing, before, standing_at}
use Rattle.rdl_seen.specs.Fields.{first_of}
use Rattle.rdl_seen.specs.Inside.{Inside}
use Rattle.rdl_seen.specs.Layouts.{Laying}
use Rattle.rdl_seen.specs.Meaning.{around_before, around_at}
use Rattle.rdl_seen.specs.Node.{Around, walked}
use Rattle.rdl_seen.specs.OneByOne.{slot_of_item, slot_at, instances_before}
use Rattle.rdl_seen.specs.Slots.{Slots, no_slots, slot, written}
use Rattle.rdl_seen.proofs.OneByOne.{slots_are_of_items}
use Rattle.rdl_renew.specs.AlikeSlots.{of_at}

same_body : (w t : Items) → option_and_then (body_at []) (Some w) ≡ Some t → w ≡ t
same_body w t e = cc

-- something stands before each item of a body
pub standing_deeper : (b : List ℕ) (i : ℕ) (e : Standing) (c : List ℕ) (d t : Items) → body_at b d ≡ Some t → (f : Standing) × (standing_at e c (b ++ i ∷ []) d ≡ Some f)
standing_deeper [] i e c d t there = (before i e c 0 d, refl)
standing_deeper (k ∷ []) i e c d t there = by (inner k d) there
  where
    by : (o : Option Items) → option_and_then (body_at []) o ≡ Some t → (f : Standing) × (option_and_then (standing_at (before k e c 0 d) (c ++ k ∷ []) (i ∷ [])) o ≡ Some f)
    by None there = absurd (let no : None ≡ Some t = there in cc)
    by (Some w) there = (before i (before k e c 0 d) (c ++ k ∷ []) 0 w, refl)
standing_deeper (k ∷ j ∷ b) i e c d t there = by (inner k d) there (λ w there. standing_deeper (j ∷ b) i (before k e c 0 d) (c ++ k ∷ []) w t there)
  where
    by : (o : Option Items) → option_and_then (body_at (j ∷ b)) o ≡ Some t
        → ((w : Items) → body_at (j ∷ b) w ≡ Some t → (f : Standing) × (standing_at (before k e c 0 d) (c ++ k ∷ []) (j ∷ (b ++ i ∷ [])) w ≡ Some f))
        → (f : Standing) × (option_and_then (standing_at (before k e c 0 d) (c ++ k ∷ []) (j ∷ (b ++ i ∷ []))) o ≡ Some f)
    by None there more = absurd (let no : None ≡ Some t = there in cc)
    by (Some w) there more = more w there

-- it sees what the component sees, and what stands before it in the body
pub around_deeper : (lay : Laying) (b : List ℕ) (i : ℕ) (a g : Around) (d t : Items) → body_at b d ≡ Some t → around_at lay a b d ≡ Some g → around_at lay a (b ++ i ∷ []) d ≡ Some (around_before lay i g t)
around_deeper lay [] i a g d t there sees = absurd (let no : None ≡ Some g = sees in cc)
around_deeper lay (k ∷ []) i a g d t there sees = by (inner k d) there
  where
    seen : around_before lay k a d ≡ g
    seen = same_Some (around_before lay k a d) g sees

    by : (o : Option Items) → option_and_then (body_at []) o ≡ Some t → option_and_then (around_at lay (around_before lay k a d) (i ∷ [])) o ≡ Some (around_before lay i g t)
    by None there = absurd (let no : None ≡ Some t = there in cc)
    by (Some w) there = let same = same_body w t there in λ z. Some (around_before lay i (seen z) (same z))
around_deeper lay (k ∷ j ∷ b) i a g d t there sees = by (inner k d) there sees (λ w there sees. around_deeper lay (j ∷ b) i (around_before lay k a d) g w t there sees)
  where
    by : (o : Option Items) → option_and_then (body_at (j ∷ b)) o ≡ Some t → option_and_then (around_at lay (around_before lay k a d) (j ∷ b)) o ≡ Some g
        → ((w : Items) → body_at (j ∷ b) w ≡ Some t → around_at lay (around_before lay k a d) (j ∷ b) w ≡ Some g → around_at lay (around_before lay k a d) (j ∷ (b ++ i ∷ [])) w ≡ Some (around_before lay i g t))
        → option_and_then (around_at lay (around_before lay k a d) (j ∷ (b ++ i ∷ []))) o ≡ Some (around_before lay i g t)
    by None there sees more = absurd (let no : None ≡ Some t = there in cc)
    by (Some w) there sees more = more w there sees

-- ---- What layouts take of an item.

at_slot : (i : ℕ) (s u : Slots) → slot_at i s ≡ Some u → of_at i s ≡ first_of u
at_slot i no_slots u e = absurd (let no : None ≡ Some u = e in cc)
at_slot zero (slot x rest) u e = ap first_of (same_Some (slot x no_slots) u e)
at_slot zero (written w c inside rest) u e = ap first_of (same_Some (written w c inside no_slots) u e)
at_slot (suc i) (slot x rest) u e = at_slot i rest u e
at_slot (suc i) (written w c inside rest) u e = at_slot i rest u e

-- that is told by the slot of the item by itself
pub of_item_at : (lay : Laying) (a : Around) (before : Inside) (t : Items) (i : ℕ) (x : Item) → slice_get (list_of t) i ≡ Some x
    → of_at i (walked lay a before t).slots ≡ first_of (slot_of_item lay (around_before lay i a t) (instances_before lay i a before t) x)
of_item_at lay a before t i x got = at_slot i (walked lay a before t).slots (slot_of_item lay (around_before lay i a t) (instances_before lay i a before t) x) (slots_are_of_items lay a before t i x got)
