-- A sound component: one below which no row can have a fault, if nothing harmful is assigned from around it.
-- It is told by its body and by its instances with all below them: neither its address nor its names around it matter.
-- SystemRDL 2.0: field positions and access (clause 9), register and access width (10), instance addresses (5, 13).
-- own: that it is told of a component and not of rows. The faults of rows `Faults` of `rdl_elab` says.
use Rattle.std.specs.Prelude.{ℕ, nat_lt, nat_le, ◌&&◌, ◌||◌, not, Bool, true, List, [], ◌∷◌, Option, None, option_map, unwrap_or, if◌then◌else◌}
use Rattle.std.specs.Option.{option_or}
use Rattle.std.specs.List.{list_all}
use Rattle.rdl_tree.specs.Properties.{row, on}
use Rattle.rdl_tree.specs.declared.shell.Kind.{Kind}
use Rattle.rdl_tree.specs.declared.shell.Kind.TheVariants.{Reg, Field}
use Rattle.rdl_tree.specs.declared.shell.Shell.{Shell}
use Rattle.rdl_tree.specs.declared.value.Value.{Value}
use Rattle.rdl_tree.specs.declared.property.Property.{Property}
use Rattle.rdl_tree.specs.declared.property.Property.TheVariants.{Sw, Reset}
use Rattle.rdl_scope.specs.Value.{shown}
use Rattle.rdl_scope.specs.Closed.{Head, Parts, no_parts, part, head_value}
use Rattle.rdl_elab.specs.declared.layout.Mode.{Mode}
use Rattle.rdl_elab.specs.declared.layout.Span.{Span}
use Rattle.rdl_elab.specs.Faults.{overlap, may_share, is_reset_too_wide}
use Rattle.rdl_elab.specs.Layouts.{number_in, values_of, mode_inside}
use Rattle.rdl_elab.specs.Reaches.{reset_value}
use Rattle.sound_laws.specs.Harmless.{Laying, are_apart, field_spans, are_harmless}
use Rattle.sound_laws.specs.Targets.{own_assignments}

-- the value that a row of an instance with this shell has of a property, if this is assigned to it from outside
abbrev pub value_with : Option Value → Shell → Head → Property → Option Value
value_with assigned s h p =
    if on p h.kind then option_map (shown (row p).form) (option_or assigned (option_or (reset_value p s.reset) (head_value h p))) else None

-- the fields of a register that have these bits, each with its bits and its `sw`, where nothing is assigned from outside
abbrev pub fields_of : List Span → Parts → List (Span × Option Value)
fields_of spans no_parts = []
fields_of [] (part at s h inside rest) = []
fields_of (span ∷ spans) (part at s h inside rest) = (span, value_with None s h Sw) ∷ fields_of spans rest

-- no two of these fields share a bit, but where one is only read and the other only written
abbrev pub clash_none : List (Span × Option Value) → Bool
clash_none [] = true
clash_none (f ∷ fs) = list_all (λ g. not (overlap g.0 f.0 && not (may_share g.1 f.1))) fs && clash_none fs

-- each field holds its reset
abbrev pub resets_fit : List Span → Parts → Bool
resets_fit spans no_parts = true
resets_fit [] (part at s h inside rest) = true
resets_fit (span ∷ spans) (part at s h inside rest) = not (is_reset_too_wide (number_in (value_with None s h Reset)) span) && resets_fit spans rest

-- the same, where the fields have these bits and the register so many, of which so many are accessed at once
abbrev pub are_fields_sound_in : (register access : ℕ) → List Span → Parts → Bool
are_fields_sound_in register access spans inside =
    nat_le access register && list_all (λ (s : Span). nat_le s.end register) spans && resets_fit spans inside
    && (are_apart spans || clash_none (fields_of spans inside))

abbrev pub are_fields_sound : Laying → Head → Parts → Bool
are_fields_sound lay h inside = are_fields_sound_in (values_of h).regwidth (values_of h).accesswidth (field_spans lay h inside) inside

-- no stride is smaller than an element
abbrev pub are_strides_wide : Laying → Mode → Parts → Bool
are_strides_wide lay m no_parts = true
are_strides_wide lay m (part at s h inside rest) =
    not (nat_lt (unwrap_or s.stride (lay m h inside).size) (lay m h inside).size) && are_strides_wide lay m rest

-- the instances of a component that stands under a mode lie apart
abbrev pub is_apart_under : Laying → Mode → Head → Parts → Bool
is_apart_under lay m h inside = are_strides_wide lay (mode_inside h.kind (values_of h) m) inside && are_apart (lay m h inside).spans

-- a component by its kind: whether its fields are sound, its instances lie apart and are sound, and its own dynamic assignments harmless
abbrev pub sound_by : Kind → (fields apart inside own : Bool) → Bool
sound_by Field fields apart inside own = true
sound_by Reg fields apart inside own = fields && own
sound_by kind fields apart inside own = inside && apart && own

abbrev pub are_own_harmless : Laying → Head → Parts → Bool
are_own_harmless lay h inside = are_harmless lay h inside (own_assignments h inside)

-- these instances are sound under the mode in which they are placed
abbrev pub are_sound : Laying → Mode → Parts → Bool
are_sound lay m no_parts = true
are_sound lay m (part at s h inside rest) =
    sound_by h.kind (are_fields_sound lay h inside) (is_apart_under lay m h inside) (are_sound lay (mode_inside h.kind (values_of h) m) inside) (are_own_harmless lay h inside)
    && are_sound lay m rest

-- a component that stands under a mode
abbrev pub is_sound : Laying → Mode → Head → Parts → Bool
is_sound lay m h inside =
    sound_by h.kind (are_fields_sound lay h inside) (is_apart_under lay m h inside) (are_sound lay (mode_inside h.kind (values_of h) m) inside) (are_own_harmless lay h inside)
