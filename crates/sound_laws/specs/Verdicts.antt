-- Whether the dynamic assignments of a component can give a row a fault, told by names alone.
-- SystemRDL 2.0, clause 5, dynamic assignment: the target names instances that stand before it, one inside the other.
-- own: it is the same as that they are harmless, for which the items on the way are looked up.
use Rattle.std.specs.Prelude.{◌≡◌, ℕ, suc, ◌&&◌, Bool, true, List, [], ◌∷◌, Option, Some, None, option_and_then, bytes_eq, if◌then◌else◌}
use Rattle.rdl_tree.specs.Items.{Items, no_items, plain, holder, Plain, named, own, default, dynamic}
use Rattle.rdl_tree.specs.declared.value.Value.{Value}
use Rattle.rdl_scope.specs.Closed.{Head, Parts, no_parts, part, Made, component}
use Rattle.sound_laws.specs.Harmless.{Laying, Spot, is_fitting, spots_in}
use Rattle.sound_laws.specs.Targets.{is_before, first_named}
use Rattle.sound_laws.specs.Sound.{are_own_harmless}

-- an instance's component, and where the instance stands
pub record Stand : Type 0 where
  pub spot : Spot
  pub head : Head
  pub inside : Parts

-- the first instance of a name, where the instances stand there
abbrev pub stand_named : List ℕ → List Spot → Parts → Option Stand
stand_named name spots no_parts = None
stand_named name [] (part at s h inside rest) = None
stand_named name (spot ∷ spots) (part at s h inside rest) =
    if bytes_eq s.name name then Some (record { spot = spot; head = h; inside = inside }) else stand_named name spots rest

-- the instance at which a target ends
abbrev pub end_in : Laying → List (List ℕ) → List Spot → Parts → Option Stand
end_in lay [] spots ps = None
end_in lay (name ∷ []) spots ps = stand_named name spots ps
end_in lay (name ∷ next ∷ names) spots ps = option_and_then (λ (e : Stand). end_in lay (next ∷ names) (spots_in lay e.head e.inside) e.inside) (stand_named name spots ps)

-- a target that leads nowhere is refused elsewhere
abbrev pub is_end_fitting : List ℕ → Value → Option Stand → Bool
is_end_fitting p v None = true
is_end_fitting p v (Some e) = is_fitting e.spot p v

-- item n of the body of a component, if it is a dynamic assignment
abbrev pub is_item_fitting : Laying → Head → Parts → ℕ → Plain → Bool
is_item_fitting lay h inside n (dynamic t p v) = if is_before n (first_named t inside) then is_end_fitting p v (end_in lay t (spots_in lay h inside) inside) else true
is_item_fitting lay h inside n (named s t) = true
is_item_fitting lay h inside n (own p v) = true
is_item_fitting lay h inside n (default p v) = true

-- those from item n on
abbrev pub are_items_fitting : Laying → Head → Parts → ℕ → Items → Bool
are_items_fitting lay h inside n no_items = true
are_items_fitting lay h inside n (plain x rest) = is_item_fitting lay h inside n x && are_items_fitting lay h inside (suc n) rest
are_items_fitting lay h inside n (holder k body rest) = are_items_fitting lay h inside (suc n) rest

-- the two are the same
abbrev pub FittingIsHarmless : Type 0
FittingIsHarmless =
    (lay : Laying) (d : Items) (a : List ℕ) (c : Made) → component d a ≡ Some c
    → are_own_harmless lay c.head c.parts ≡ are_items_fitting lay c.head c.parts 0 c.head.body
