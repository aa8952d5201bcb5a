-- The dynamic assignments that reach an instance, found on the way down from the top.
-- SystemRDL 2.0, clause 5, property assignment: dynamic assignments. own: that the outermost wins.
-- The law `values_are_along` says that this is what the search through the bodies of a path finds.
use Rattle.std.specs.Prelude.{ℕ, suc, nat_eq, Bool, true, false, List, [], ◌∷◌, ◌++◌, Option, Some, None, option_map, unwrap_or, bytes_eq, ◌&&◌, if◌then◌else◌}
use Rattle.std.specs.Option.{option_or}
use Rattle.std.specs.List.{filter_map}
use Rattle.std.specs.Cmp.Lexicographic.{pointwise}
use Rattle.rdl_tree.specs.Items.{Items, no_items, plain, holder, Plain, named, own, default, dynamic}
use Rattle.rdl_tree.specs.Address.{body_at}
use Rattle.rdl_tree.specs.declared.description.Item.{Item}
use Rattle.rdl_tree.specs.declared.description.Item.TheVariants.{Define, Instance, Own, Default, Dynamic}
use Rattle.rdl_tree.specs.Properties.{row, on, properties}
use Rattle.rdl_tree.specs.declared.shell.Kind.{Kind}
use Rattle.rdl_tree.specs.declared.value.Value.{Value}
use Rattle.rdl_tree.specs.declared.value.Value.TheVariants.{Number}
use Rattle.rdl_tree.specs.declared.property.Property.{Property}
use Rattle.rdl_tree.specs.declared.property.Property.TheVariants.{Reset}
use Rattle.rdl_scope.specs.Target.{passes, body_of}
use Rattle.rdl_scope.specs.Value.{shown}
use Rattle.rdl_elab.specs.declared.row.PropertyValue.{PropertyValue}
use Rattle.rdl_elab.specs.Shown.{valued}

-- an assignment, and the instances that its target has yet to pass
pub record Reach : Type 0 where
  pub path : List (List ℕ)
  pub property : List ℕ
  pub value : Value

abbrev pub with_path : Option (List (List ℕ)) → List ℕ → Value → List Reach → List Reach
with_path None p v rest = rest
with_path (Some path) p v rest = record { path = path; property = p; value = v } ∷ rest

abbrev pub plain_reach : (List (List ℕ) → Option (List (List ℕ))) → Plain → List Reach → List Reach
plain_reach f (dynamic t p v) rest = with_path (f t) p v rest
plain_reach f (named s t) rest = rest
plain_reach f (own p v) rest = rest
plain_reach f (default p v) rest = rest

-- the assignments among the items from number n on, where this gives the instances that the target of an item passes
abbrev pub reaches_by : (ℕ → List (List ℕ) → Option (List (List ℕ))) → ℕ → Items → List Reach
reaches_by f n no_items = []
reaches_by f n (plain x rest) = plain_reach (f n) x (reaches_by f (suc n) rest)
reaches_by f n (holder h body rest) = reaches_by f (suc n) rest

-- the assignments among the items from number n on of the body at b
abbrev pub reaches : Items → List ℕ → ℕ → Items → List Reach
reaches d b n t = reaches_by (passes d b) n t

-- the assignment that an item is, if its target is there
abbrev pub reach_by : (List (List ℕ) → Option (List (List ℕ))) → Item → Option Reach
reach_by f (Dynamic t p v) = option_map (λ path. record { path = path; property = p; value = v }) (f t)
reach_by f (Define m c) = None
reach_by f (Instance s o) = None
reach_by f (Own p v) = None
reach_by f (Default p v) = None

abbrev pub reaches_at : Items → List ℕ → List Reach
reaches_at d b = unwrap_or (option_map (reaches d b 0) (body_at b d)) []

-- an assignment behind an instance, if its target passes that
abbrev pub passed : List ℕ → Reach → List (List ℕ) → Option Reach
passed a r [] = None
passed a r (b ∷ path) = if pointwise nat_eq b a then Some (record r { path = path }) else None

abbrev pub behind : List ℕ → List Reach → List Reach
behind a rs = filter_map (λ (r : Reach). passed a r r.path) rs

-- the assignments that have come along a path, the outermost first
abbrev pub along : Items → List Reach → List (List ℕ) → List Reach
along d rs [] = rs
along d rs (a ∷ path) = along d (behind a (rs ++ reaches_at d (body_of a))) path

-- the value of the first that has passed all its instances
abbrev pub has_ended : List (List ℕ) → Bool
has_ended [] = true
has_ended (a ∷ path) = false

abbrev pub reached : List ℕ → List Reach → Option Value
reached p [] = None
reached p (r ∷ rs) = if has_ended r.path && bytes_eq r.property p then Some r.value else reached p rs

abbrev pub reset_value : Property → Option ℕ → Option Value
reset_value Reset reset = option_map Number reset
reset_value p reset = None

abbrev pub value_under : Property → List PropertyValue → Option Value
value_under p [] = None
value_under p (v ∷ vs) = if bytes_eq (row v.property).name (row p).name then Some v.value else value_under p vs

-- the value of a property of an instance of this kind with this reset, which these assignments reach, and whose component has these values
abbrev pub value_along : Kind → Option ℕ → List Reach → List PropertyValue → Property → Option Value
value_along k reset rs values p =
    if on p k then option_or (option_map (shown (row p).form) (option_or (reached (row p).name rs) (reset_value p reset))) (value_under p values) else None

-- those that there are of these properties, and of all
abbrev pub values_among : Kind → Option ℕ → List Reach → List PropertyValue → List Property → List PropertyValue
values_among k reset rs values = filter_map (λ p. option_map (valued p) (value_along k reset rs values p))

abbrev pub values_along : Kind → Option ℕ → List Reach → List PropertyValue → List PropertyValue
values_along k reset rs values = values_among k reset rs values properties
