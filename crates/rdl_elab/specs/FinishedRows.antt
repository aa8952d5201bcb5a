-- The rows of a map and their faults, from what is kept of its components, level by level.
-- own: SystemRDL 2.0 has no rows. `Rows` and `Faults` say the same of the components themselves.
use Rattle.std.specs.Prelude.{ℕ, zero, suc, ◌+◌, ◌-◌, ◌^◌, ◌&&◌, ◌||◌, not, nat_lt, min, Bool, List, [], ◌∷◌, ◌++◌, Option, Some, None, option_and_then, Result, Ok, Err, slice_get, unwrap_or, if◌then◌else◌}
use Rattle.std.specs.Option.{option_or}
use Rattle.std.specs.List.{list_any}
use Rattle.rdl_tree.specs.declared.shell.Kind.{Kind}
use Rattle.rdl_tree.specs.declared.shell.Kind.TheVariants.{Reg, Field}
use Rattle.rdl_tree.specs.declared.shell.Shell.{Shell}
use Rattle.rdl_tree.specs.declared.property.Property.TheVariants.{Reset, Sw}
use Rattle.rdl_tree.specs.declared.fault.FaultKind.{FaultKind}
use Rattle.rdl_tree.specs.declared.fault.FaultKind.TheVariants.{NoTop, TooManyLevels, TooManyRows, EmptyComponent, MapTooLarge, AccessTooWide, StrideTooSmall, AddressOverlap, FieldPastRegister, FieldOverlap, ResetTooWide}
use Rattle.rdl_tree.specs.declared.fault.Fault.{Fault}
use Rattle.rdl_scope.specs.ItemFaults.{first_of, fault_at}
use Rattle.rdl_elab.specs.declared.layout.Mode.{Mode}
use Rattle.rdl_elab.specs.declared.layout.Mode.TheVariants.{Regalign}
use Rattle.rdl_elab.specs.declared.layout.Span.{Span}
use Rattle.rdl_elab.specs.declared.layout.LayoutValues.{LayoutValues}
use Rattle.rdl_elab.specs.declared.row.PropertyValue.{PropertyValue}
use Rattle.rdl_elab.specs.declared.row.Location.TheVariants.{Bytes}
use Rattle.rdl_elab.specs.declared.row.Row.{Row}
use Rattle.rdl_elab.specs.Kept.{Part}
use Rattle.rdl_elab.specs.declared.walk.finished.Finished.{Finished}
use Rattle.rdl_elab.specs.declared.rows.siblings.Sibling.{Sibling}
use Rattle.rdl_elab.specs.Layouts.{mode_inside, number_in}
use Rattle.rdl_elab.specs.Rows.{location_of}
use Rattle.rdl_elab.specs.Faults.{overlap, is_read_only, is_write_only, is_reset_too_wide}
use Rattle.rdl_elab.specs.Reaches.{Reach, behind, value_under, values_along}
use Rattle.rdl_elab.specs.Finished.{under}

-- what stands around the instances of a component: the mode in which they are placed, the names that lead to it, its base, the bits
-- that it has if it is a register, and the dynamic assignments that have come to it, its own last
pub record Surroundings : Type 0 where
  pub mode : Mode
  pub names : List (List ℕ)
  pub base : ℕ
  pub bits : ℕ
  pub reaching : List Reach

-- a row, and what is wrong with it
pub record FinishedRow : Type 0 where
  pub row : Row
  pub fault : Option Fault

-- an instance's address; no base is as great as the greatest number of 64 bits
abbrev pub finished_base : Kind → ℕ → Span → ℕ
finished_base Field base span = base
finished_base kind base span = min (base + span.start) (2 ^ 64 - 1)

-- where nothing is assigned to the instance, the values are those of its component
abbrev pub finished_values : Kind → Option ℕ → List Reach → List PropertyValue → List PropertyValue
finished_values k None [] values = values
finished_values k None (r ∷ rs) values = values_along k None (r ∷ rs) values
finished_values k (Some n) rs values = values_along k (Some n) rs values

abbrev pub finished_row : Surroundings → Span → Part → Finished → Row
finished_row o span p f =
    record {
      names = o.names ++ p.shell.name ∷ [];
      kind = f.kind;
      base = finished_base f.kind o.base span;
      location = location_of f.kind p.shell span (under o.mode f.layouts).size;
      values = finished_values f.kind p.shell.reset (behind p.at o.reaching) f.shown;
    }

-- a row as later siblings see it
abbrev pub seen : Span → List PropertyValue → Sibling
seen span values = record { span = span; is_read_only = is_read_only (value_under Sw values); is_write_only = is_write_only (value_under Sw values) }

abbrev pub share : Sibling → Sibling → Bool
share a b = a.is_read_only && b.is_write_only || a.is_write_only && b.is_read_only

abbrev pub overlaps_before : Span → List Sibling → Bool
overlaps_before span before = list_any (λ (b : Sibling). overlap span b.span) before

abbrev pub clashes_before : Sibling → List Sibling → Bool
clashes_before a before = list_any (λ (b : Sibling). overlap a.span b.span && not (share a b)) before

-- what is wrong with the bytes of an instance
abbrev pub extent_fault : Shell → ℕ → Span → List Sibling → Option FaultKind
extent_fault s size span before = first_of ((nat_lt (unwrap_or s.stride size) size, StrideTooSmall) ∷ (overlaps_before span before, AddressOverlap) ∷ [])

-- what is wrong with a field in a register of so many bits
abbrev pub field_fault : ℕ → Sibling → List Sibling → List PropertyValue → Option FaultKind
field_fault bits a before values =
    first_of
    ((nat_lt bits a.span.end, FieldPastRegister)
    ∷ (clashes_before a before, FieldOverlap)
    ∷ (is_reset_too_wide (number_in (value_under Reset values)) a.span, ResetTooWide)
    ∷ [])

-- what is wrong with a row, the lower number first
abbrev pub finished_fault : Kind → LayoutValues → ℕ → Shell → ℕ → Sibling → List Sibling → List PropertyValue → Option FaultKind
finished_fault Field v bits s size a before values = field_fault bits a before values
finished_fault Reg v bits s size a before values =
    if nat_lt v.regwidth v.accesswidth then Some AccessTooWide else extent_fault s size a.span before
finished_fault kind v bits s size a before values = extent_fault s size a.span before

abbrev pub judged : Surroundings → List Sibling → Span → Part → Finished → Row → FinishedRow
judged o before span p f r =
    record {
      row = r;
      fault = fault_at p.at (finished_fault f.kind f.values o.bits p.shell (under o.mode f.layouts).size (seen span r.values) before r.values);
    }

abbrev pub surroundings_inside : Surroundings → Part → Finished → Row → Surroundings
surroundings_inside o p f r =
    record {
      mode = mode_inside f.kind f.values o.mode;
      names = r.names;
      base = r.base;
      bits = f.values.regwidth;
      reaching = behind p.at o.reaching ++ f.assignments.items;
    }

-- an instance with what is below it
abbrev pub with_below : (Surroundings → List Span → List Part → List FinishedRow) → Surroundings → List Sibling → Span → Part → Finished → List FinishedRow
with_below below o before span p f =
    let r = finished_row o span p f in
    judged o before span p f r ∷ below (surroundings_inside o p f r) (under o.mode f.layouts).spans f.parts.items

-- the instances of a component; the list ends where there is no such component
abbrev pub level_rows : List Finished → (Surroundings → List Span → List Part → List FinishedRow) → Surroundings → List Sibling → List Span → List Part → List FinishedRow
level_rows fs below o before spans [] = []
level_rows fs below o before [] (p ∷ ps) = []
level_rows fs below o before (span ∷ spans) (p ∷ ps) =
    elim (slice_get fs p.component) [
      | None ↦ []
      | Some f ↦ with_below below o before span p f ++ level_rows fs below o (before ++ seen span (finished_row o span p f).values ∷ []) spans ps
    ]

-- so many levels of instances
abbrev pub finished_rows : ℕ → List Finished → Surroundings → List Span → List Part → List FinishedRow
finished_rows zero fs o spans ps = []
finished_rows (suc n) fs o spans ps = level_rows fs (λ inside ss qs. finished_rows n fs inside ss qs) o [] spans ps

-- those below an instance, so many levels
abbrev pub finished_rows_below : ℕ → List Finished → Surroundings → Span → Part → Finished → List FinishedRow
finished_rows_below n fs o span p f = finished_rows n fs (surroundings_inside o p f (finished_row o span p f)) (under o.mode f.layouts).spans f.parts.items

-- the rows up to the first that has a fault, and that fault
pub record Told : Type 0 where
  pub fault : Option Fault
  pub rows : List Row

abbrev pub told_one : Option Fault → Row → List Row → Told → Told
told_one None r rows rest = rest
told_one (Some f) r rows rest = record { fault = Some f; rows = rows }

abbrev pub told : List Row → List FinishedRow → Told
told rows [] = record { fault = None; rows = rows }
told rows (k ∷ ks) = told_one k.fault k.row rows (told (rows ++ k.row ∷ []) ks)

-- what is wrong with a map, but for single rows, whose top is this component, defined here
abbrev pub finished_map_fault : List ℕ → Finished → Option Fault
finished_map_fault at f =
    option_or (fault_at at (first_of ((nat_lt 16 (f.levels + 1), TooManyLevels) ∷ (nat_lt 65536 (f.rows + 1), TooManyRows) ∷ [])))
    (option_or (option_and_then (λ a. fault_at a (Some EmptyComponent)) f.first_empty)
    (fault_at at (first_of ((nat_lt (2 ^ 40) f.layouts.regalign.size, MapTooLarge) ∷ []))))

abbrev pub finished_top_row : List ℕ → Finished → Row
finished_top_row name f =
    let size = f.layouts.regalign.size in
    record { names = name ∷ []; kind = f.kind; base = 0; location = Bytes (record { offset = 0; size = size; dims = []; stride = size }); values = f.shown }

abbrev pub finished_around_top : List ℕ → Finished → Surroundings
finished_around_top name f = record { mode = mode_inside f.kind f.values Regalign; names = name ∷ []; base = 0; bits = 0; reaching = f.assignments.items }

abbrev pub told_below : List Finished → List ℕ → Finished → Told
told_below fs name f = told (finished_top_row name f ∷ []) (finished_rows 16 fs (finished_around_top name f) f.layouts.regalign.spans f.parts.items)

abbrev pub rows_unless : Option Fault → List Row → Result (List Row) Fault
rows_unless None rows = Ok rows
rows_unless (Some f) rows = Err f

abbrev pub fault_or : Option Fault → Result (List Row) Fault → Result (List Row) Fault
fault_or None answer = answer
fault_or (Some f) answer = Err f

-- the rows of the map with this top, or its first fault
abbrev pub finished_rows_or_fault : List Finished → List ℕ → List ℕ → Finished → Result (List Row) Fault
finished_rows_or_fault fs at name f = fault_or (finished_map_fault at f) (rows_unless (told_below fs name f).fault (told_below fs name f).rows)

abbrev pub finished_answer : List Finished → List ℕ → List ℕ → Option Finished → Result (List Row) Fault
finished_answer fs at name None = Err (record { kind = NoTop; address = [] })
finished_answer fs at name (Some f) = finished_rows_or_fault fs at name f
