-- Which dynamic assignments can give no row a fault.
-- SystemRDL 2.0, clause 5, dynamic assignment: the target names instances, one inside the other. own: of what is assigned, `sw` and
-- `reset` alone are judged in the rows of a map.
use Rattle.std.specs.Prelude.{ℕ, nat_eq, ◌&&◌, not, Bool, true, List, [], ◌∷◌, map, Some, bytes_eq, if◌then◌else◌}
use Rattle.std.specs.List.{list_all}
use Rattle.std.specs.Cmp.Lexicographic.{pointwise}
use Rattle.rdl_tree.specs.Properties.{row}
use Rattle.rdl_tree.specs.declared.shell.Kind.{Kind}
use Rattle.rdl_tree.specs.declared.shell.Kind.TheVariants.{Reg}
use Rattle.rdl_tree.specs.declared.value.Value.{Value}
use Rattle.rdl_tree.specs.declared.property.Property.TheVariants.{Sw, Reset}
use Rattle.rdl_scope.specs.Closed.{Head, Parts, no_parts, part}
use Rattle.rdl_elab.specs.declared.layout.Mode.{Mode}
use Rattle.rdl_elab.specs.declared.layout.Mode.TheVariants.{Compact}
use Rattle.rdl_elab.specs.declared.layout.Layout.{Layout}
use Rattle.rdl_elab.specs.declared.layout.Span.{Span}
use Rattle.rdl_elab.specs.Capped.{capped_layout}
use Rattle.rdl_elab.specs.Faults.{overlap, is_reset_too_wide}
use Rattle.rdl_elab.specs.Layouts.{number_in, layout_of}
use Rattle.rdl_elab.specs.Reaches.{Reach}

-- how a component that stands under a mode is laid out: as it is, or as far as it is kept
abbrev pub Laying : Type 0
Laying = Mode → Head → Parts → Layout

abbrev pub kept_layout : Mode → Head → Parts → Layout
kept_layout m h inside = capped_layout (layout_of m h inside)

-- no two of the spans overlap
abbrev pub are_apart : List Span → Bool
are_apart [] = true
are_apart (s ∷ ss) = list_all (λ t. not (overlap t s)) ss && are_apart ss

-- where an instance stands: in a register, with these bits, where the fields of the register share none or some; or elsewhere
pub data Spot : Type 0 where
  elsewhere : Spot
  in_register : (apart : Bool) → Span → Spot

-- a value that is assigned there can give the row no fault: a `reset` that the bits hold, or an `sw` where no bits are shared
abbrev pub is_fitting : Spot → List ℕ → Value → Bool
is_fitting elsewhere p v = true
is_fitting (in_register apart span) p v =
    if bytes_eq p (row Reset).name then not (is_reset_too_wide (number_in (Some v)) span) else (if bytes_eq p (row Sw).name then apart else true)

-- the bits of the fields of a register, which are the same under each mode
abbrev pub field_spans : Laying → Head → Parts → List Span
field_spans lay h inside = (lay Compact h inside).spans

-- where the instances of a component stand, if its fields have these bits
abbrev pub all_elsewhere : Parts → List Spot
all_elsewhere no_parts = []
all_elsewhere (part at s h inside rest) = elsewhere ∷ all_elsewhere rest

abbrev pub spots_by : Kind → List Span → Parts → List Spot
spots_by Reg spans inside = map (in_register (are_apart spans)) spans
spots_by kind spans inside = all_elsewhere inside

abbrev pub spots_in : Laying → Head → Parts → List Spot
spots_in lay h inside = spots_by h.kind (field_spans lay h inside) inside

-- this holds of each of these instances that is the item at this address
abbrev pub each_at : (Spot → Head → Parts → Bool) → List ℕ → List Spot → Parts → Bool
each_at f a spots no_parts = true
each_at f a [] (part at s h inside rest) = true
each_at f a (spot ∷ spots) (part at s h inside rest) = (if pointwise nat_eq a at then f spot h inside else true) && each_at f a spots rest

-- an assignment to a component that stands there, or along these instances inside it. One that leads nowhere is harmless
abbrev pub is_harmless_along : Laying → List ℕ → Value → List (List ℕ) → Spot → Head → Parts → Bool
is_harmless_along lay p v [] spot h inside = is_fitting spot p v
is_harmless_along lay p v (a ∷ path) spot h inside = each_at (is_harmless_along lay p v path) a (spots_in lay h inside) inside

abbrev pub is_harmless_at : Laying → Spot → Head → Parts → Reach → Bool
is_harmless_at lay spot h inside r = is_harmless_along lay r.property r.value r.path spot h inside

-- the same of a component itself, in which such an assignment goes on, wherever it stands
abbrev pub is_harmless : Laying → Head → Parts → Reach → Bool
is_harmless lay h inside r = is_harmless_at lay elsewhere h inside r

abbrev pub are_harmless : Laying → Head → Parts → List Reach → Bool
are_harmless lay h inside rs = list_all (is_harmless lay h inside) rs

-- assignments of other properties
abbrev pub is_unjudged : Reach → Bool
is_unjudged r = not (bytes_eq r.property (row Reset).name) && not (bytes_eq r.property (row Sw).name)
