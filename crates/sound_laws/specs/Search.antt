-- The rows among which the first fault of a map is looked for, where what can have none is passed over.
-- own: SystemRDL 2.0 says nothing of how a map is judged. What its rows are `rows_in` of `rdl_elab` says.
use Rattle.std.specs.Prelude.{◌≡◌, ℕ, ◌+◌, ◌^◌, ◌≤◌, nat_lt, option_and_then, true, ◌&&◌, Bool, Some, List, [], ◌∷◌, ◌++◌, Option, if◌then◌else◌}
use Rattle.std.specs.Option.{option_or}
use Rattle.rdl_tree.specs.Items.{Items}
use Rattle.rdl_tree.specs.declared.fault.Fault.{Fault}
use Rattle.rdl_tree.specs.declared.fault.FaultKind.TheVariants.{TooManyLevels, TooManyRows, EmptyComponent, MapTooLarge}
use Rattle.rdl_tree.specs.declared.value.Value.{Value}
use Rattle.rdl_tree.specs.declared.shell.Kind.{Kind}
use Rattle.rdl_tree.specs.declared.shell.Kind.TheVariants.{Addrmap, Regfile}
use Rattle.rdl_scope.specs.Closed.{Head, Parts, no_parts, part, Made, component}
use Rattle.rdl_scope.specs.ItemFaults.{first_of, fault_at}
use Rattle.rdl_elab.specs.declared.layout.Mode.{Mode}
use Rattle.rdl_elab.specs.declared.layout.Span.{Span}
use Rattle.rdl_elab.specs.Faults.{levels, count, first_empty, first_row_fault}
use Rattle.rdl_elab.specs.Layouts.{layout_of}
use Rattle.rdl_elab.specs.Reaches.{Reach, behind}
use Rattle.rdl_elab.specs.Rows.{Around, Judged, judged_row, inside, around_top, top_layout}
use Rattle.sound_laws.specs.Harmless.{Laying, are_harmless}
use Rattle.sound_laws.specs.Sound.{is_sound}
use Rattle.sound_laws.specs.Targets.{own_assignments}

-- all below a component may be passed over: it is sound under the mode, and what is assigned from around it is harmless
abbrev pub may_be_passed_over : Laying → Mode → Head → Parts → List Reach → Bool
may_be_passed_over lay m h within coming = is_sound lay m h within && are_harmless lay h within coming

-- what is kept of its layout is exact, by its kind and its size: a map of more bytes is refused, and no bits of a register are cut off
abbrev pub IsKeptWhole : Kind → ℕ → Type 0
IsKeptWhole Addrmap size = size ≤ 2 ^ 40
IsKeptWhole Regfile size = size ≤ 2 ^ 40
IsKeptWhole kind size = Unit {0}

-- whoever decides by this passes over no component of a description that may not be, as far as layouts are kept whole
abbrev pub IsCautious : Items → (Mode → Head → Parts → List Reach → Bool) → Type 0
IsCautious d over =
    (m : Mode) (c : Made) (coming : List Reach) → component d c.head.at ≡ Some c → IsKeptWhole c.head.kind (layout_of m c.head c.parts).size
    → over m c.head c.parts coming ≡ true → may_be_passed_over layout_of m c.head c.parts coming ≡ true

-- the rows of the instances of a component, and those below them that aren't passed over, where these assignments go on to them
abbrev pub rows_asked : (Mode → Head → Parts → List Reach → Bool) → Items → Around → List Reach → List (Span × Option Value) → List Span → Parts → List Judged
rows_asked over d o going before spans no_parts = []
rows_asked over d o going before [] (part at s h within rest) = []
rows_asked over d o going before (span ∷ spans) (part at s h within rest) =
    let l = layout_of o.mode h within in
    let r = judged_row d o before span at s h l in
    let coming = behind at going in
    r
    ∷ ((if over o.mode h within coming then [] else rows_asked over d (inside r) (coming ++ own_assignments h within) [] l.spans within)
    ++ rows_asked over d o going (before ++ (span, r.access) ∷ []) spans rest)

-- those of a map with this top, below it
abbrev pub rows_asked_below : (Mode → Head → Parts → List Reach → Bool) → Items → List ℕ → Made → List Judged
rows_asked_below over d name c = rows_asked over d (around_top name c) (own_assignments c.head c.parts) [] (top_layout c).spans c.parts

-- what is wrong with a map whose items have no fault, as `fault_of_top` says it, if the first fault of its rows is looked for so
abbrev pub fault_asked : (Mode → Head → Parts → List Reach → Bool) → Items → List ℕ → List ℕ → Made → Option Fault
fault_asked over d at name c =
    option_or (fault_at at (first_of ((nat_lt 16 (levels c.parts + 1), TooManyLevels) ∷ (nat_lt 65536 (count c.parts + 1), TooManyRows) ∷ [])))
    (option_or (option_and_then (λ a. fault_at a (Some EmptyComponent)) (first_empty c.parts))
    (option_or (fault_at at (first_of ((nat_lt (2 ^ 40) (top_layout c).size, MapTooLarge) ∷ [])))
    (first_row_fault d (rows_asked_below over d name c))))
