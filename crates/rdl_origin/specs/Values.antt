-- Which item of the last map an item is: where its number stands there, and that it is the same one where no step touched it.
-- own: SystemRDL 2.0 has no edits.
use Rattle.std.specs.Prelude.{◌≡◌, ℕ, ◌+◌, Bool, false, if◌then◌else◌, nat_eq, Option, Some, None}
use Rattle.rdl_tree.specs.Items.{Items, no_items, plain, holder, Plain, Holder, count}
use Rattle.rdl_tree.specs.View.{plain_item, holder_item}
use Rattle.rdl_tree.specs.declared.description.Item.{Item}
use Rattle.rdl_origin.specs.Traces.{Traces, no_traces, trace}

-- the item of a body of the last map that has this number, where the body's items have theirs from another on
abbrev pub item_with : (from number : ℕ) → Items → Option Item
item_with from number no_items = None
item_with from number (plain p rest) = if nat_eq from number then Some (plain_item p) else item_with (from + 1) number rest
item_with from number (holder h body rest) =
    if nat_eq from number then Some (holder_item h body) else item_with (from + 1 + count body) number rest

-- An item without a body, if it is still there, has its number in this body of the last map, and is the same one unless it was touched.
abbrev pub IsPlainValue : (from : ℕ) → (last : Items) → (now : Option ℕ) → (is_touched : Bool) → Plain → Type 0
IsPlainValue from last None is_touched p = Unit {0}
IsPlainValue from last (Some n) is_touched p = (q : Plain) × (item_with from n last ≡ Some (plain_item q)) × (is_touched ≡ false → q ≡ p)

-- So does an item with a body, but for the body, of which this holds by the number behind its own.
abbrev pub IsHolderValue : (from : ℕ) → (last : Items) → (now : Option ℕ) → (is_touched : Bool) → Holder → (inside : ℕ → Items → Type 0) → Type 0
IsHolderValue from last None is_touched h inside = Unit {0}
IsHolderValue from last (Some n) is_touched h inside =
    (g : Holder) × (b : Items) × (item_with from n last ≡ Some (holder_item g b)) × (is_touched ≡ false → g ≡ h) × inside (n + 1) b

-- The items of a body, one by one: what is said of each that is still in the last map, whose body has its items from a number on.
abbrev pub AreValues : (from : ℕ) → (last : Items) → Traces → Items → Type 0
AreValues from last no_traces no_items = Unit {0}
AreValues from last no_traces (plain p rest) = ⊥
AreValues from last no_traces (holder h body rest) = ⊥
AreValues from last (trace now is_touched is_moved inside others) no_items = ⊥
AreValues from last (trace now is_touched is_moved inside others) (plain p rest) =
    IsPlainValue from last now is_touched p × (inside ≡ no_traces) × AreValues from last others rest
AreValues from last (trace now is_touched is_moved inside others) (holder h body rest) =
    IsHolderValue from last now is_touched h (λ n b. AreValues n b inside body) × AreValues from last others rest
