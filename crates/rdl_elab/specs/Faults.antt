-- The first fault of a map, or its rows.
-- SystemRDL 2.0: field positions and access (clause 9), register and access width (10), instance addresses (5, 13).
-- own: the limits, which faults there are, their order, and that siblings may not overlap.
use Rattle.std.specs.Prelude.{ℕ, suc, ◌+◌, ◌-◌, ◌^◌, ◌<◌, ◌≤◌, ◌&&◌, ◌||◌, not, nat_lt, nat_le, max, Bool, true, false, List, [], ◌∷◌, Option, Some, None, option_and_then, Result, Ok, Err, unwrap_or, bytes_eq, if◌then◌else◌}
use Rattle.std.specs.Option.{option_or}
use Rattle.std.specs.List.{list_any}
use Rattle.rdl_tree.specs.Items.{Items, no_items, plain, holder, Holder, define, anonymous}
use Rattle.rdl_tree.specs.declared.shell.Kind.{Kind}
use Rattle.rdl_tree.specs.declared.shell.Kind.TheVariants.{Addrmap, Regfile, Reg, Field}
use Rattle.rdl_tree.specs.declared.value.Value.{Value}
use Rattle.rdl_tree.specs.declared.value.Value.TheVariants.{Word as Worded}
use Rattle.rdl_tree.specs.declared.value.Word.TheVariants as word
use Rattle.rdl_tree.specs.declared.property.Property.TheVariants.{Reset}
use Rattle.rdl_tree.specs.declared.fault.FaultKind.{FaultKind}
use Rattle.rdl_tree.specs.declared.fault.FaultKind.TheVariants.{NoTop, TooManyLevels, TooManyRows, EmptyComponent, MapTooLarge, AccessTooWide, StrideTooSmall, AddressOverlap, FieldPastRegister, FieldOverlap, ResetTooWide}
use Rattle.rdl_tree.specs.declared.fault.Fault.{Fault}
use Rattle.rdl_scope.specs.Closed.{Parts, no_parts, part, Made, component}
use Rattle.rdl_scope.specs.ItemFaults.{first_of, fault_at, fault_of}
use Rattle.rdl_elab.specs.declared.layout.Span.{Span}
use Rattle.rdl_elab.specs.Layouts.{values_of, number_in}
use Rattle.rdl_elab.specs.declared.row.Row.{Row}
use Rattle.rdl_elab.specs.Rows.{Judged, row_value, rows_below, rows_of, top_layout}

-- a definition of an address map, of this name if there is one
abbrev pub has_name : Option (List ℕ) → List ℕ → Bool
has_name None n = true
has_name (Some name) n = bytes_eq n name

abbrev pub may_be_top : Option (List ℕ) → Holder → Bool
may_be_top wanted (define n Addrmap) = has_name wanted n
may_be_top wanted h = false

abbrev pub name_of : Holder → List ℕ
name_of (define n k) = n
name_of (anonymous s k) = s.name

-- E13: the top is the last such definition among the items of the root from number n on: its number, and its name
abbrev pub top_from : Option (List ℕ) → ℕ → Items → Option (ℕ × List ℕ)
top_from wanted n no_items = None
top_from wanted n (plain p rest) = top_from wanted (suc n) rest
top_from wanted n (holder h body rest) =
    option_or (top_from wanted (suc n) rest) (if may_be_top wanted h then Some (n, name_of h) else None)

-- E14: the names of the longest path below a component
abbrev pub levels : Parts → ℕ
levels no_parts = 0
levels (part at s h inside rest) = max (levels inside + 1) (levels rest)

-- E15: the rows below a component
abbrev pub count : Parts → ℕ
count no_parts = 0
count (part at s h inside rest) = count inside + 1 + count rest

-- E16: the first instance, in row order, of a register file or address map without instances
abbrev pub is_empty : Kind → Parts → Bool
is_empty Addrmap no_parts = true
is_empty Regfile no_parts = true
is_empty kind inside = false

abbrev pub first_empty : Parts → Option (List ℕ)
first_empty no_parts = None
first_empty (part at s h inside rest) = option_or (if is_empty h.kind inside then Some at else None) (option_or (first_empty inside) (first_empty rest))

-- E20, E22: a number lies in both
pub record SharesANumber (a b : Span) : Type 0 where
  pub number : ℕ
  pub after_first : a.start ≤ number
  pub in_first : number < a.end
  pub after_second : b.start ≤ number
  pub in_second : number < b.end

abbrev pub overlap : Span → Span → Bool
overlap a b = nat_lt a.start a.end && nat_lt b.start b.end && nat_lt a.start b.end && nat_lt b.start a.end

abbrev pub overlaps_one : Span → List (Span × Option Value) → Bool
overlaps_one a before = list_any (λ b. overlap a b.0) before

-- E22: one of the fields is only read, and the other only written
abbrev pub is_read_only : Option Value → Bool
is_read_only (Some (Worded word.R)) = true
is_read_only access = false

abbrev pub is_write_only : Option Value → Bool
is_write_only (Some (Worded word.W)) = true
is_write_only (Some (Worded word.W1)) = true
is_write_only access = false

abbrev pub may_share : Option Value → Option Value → Bool
may_share a b = is_read_only a && is_write_only b || is_write_only a && is_read_only b

abbrev pub clashes : Span → Option Value → List (Span × Option Value) → Bool
clashes a access before = list_any (λ b. overlap a b.0 && not (may_share access b.1)) before

-- E23: the reset is not below two to the number of the bits
abbrev pub is_reset_too_wide : Option ℕ → Span → Bool
is_reset_too_wide None span = false
is_reset_too_wide (Some n) span = nat_le (2 ^ (span.end - span.start)) n

abbrev pub reset_of : Items → Judged → Option ℕ
reset_of d r = number_in (row_value d r.path r.head Reset)

-- what is wrong with one row, the lower number first
abbrev pub kind_fault : Kind → Items → Judged → Option FaultKind
kind_fault Field d r =
    first_of
    ((nat_lt r.around.bits r.span.end, FieldPastRegister)
    ∷ (clashes r.span r.access r.before, FieldOverlap)
    ∷ (is_reset_too_wide (reset_of d r) r.span, ResetTooWide)
    ∷ [])
kind_fault Reg d r =
    first_of
    ((nat_lt (values_of r.head).regwidth (values_of r.head).accesswidth, AccessTooWide)
    ∷ (nat_lt (unwrap_or r.shell.stride r.size) r.size, StrideTooSmall)
    ∷ (overlaps_one r.span r.before, AddressOverlap)
    ∷ [])
kind_fault kind d r =
    first_of ((nat_lt (unwrap_or r.shell.stride r.size) r.size, StrideTooSmall) ∷ (overlaps_one r.span r.before, AddressOverlap) ∷ [])

abbrev pub row_fault : Items → Judged → Option Fault
row_fault d r = fault_at r.at (kind_fault r.head.kind d r)

abbrev pub first_row_fault : Items → List Judged → Option Fault
first_row_fault d [] = None
first_row_fault d (r ∷ rs) = option_or (row_fault d r) (first_row_fault d rs)

-- what is wrong with a map whose items have no fault, whose top is this component, defined here
abbrev pub fault_of_top : Items → List ℕ → List ℕ → Made → Option Fault
fault_of_top d at name c =
    option_or (fault_at at (first_of ((nat_lt 16 (levels c.parts + 1), TooManyLevels) ∷ (nat_lt 65536 (count c.parts + 1), TooManyRows) ∷ [])))
    (option_or (option_and_then (λ a. fault_at a (Some EmptyComponent)) (first_empty c.parts))
    (option_or (fault_at at (first_of ((nat_lt (2 ^ 40) (top_layout c).size, MapTooLarge) ∷ [])))
    (first_row_fault d (rows_below d name c))))

-- a map is its rows, or its first fault
abbrev pub rows_or : List Row → Option Fault → Result (List Row) Fault
rows_or rows None = Ok rows
rows_or rows (Some fault) = Err fault

abbrev pub under_top : Items → List ℕ → List ℕ → Option Made → Result (List Row) Fault
under_top d at name None = Err (record { kind = NoTop; address = [] })
under_top d at name (Some c) = rows_or (rows_of d name c) (fault_of_top d at name c)

abbrev pub with_top : Items → Option (ℕ × List ℕ) → Result (List Row) Fault
with_top d None = Err (record { kind = NoTop; address = [] })
with_top d (Some top) = under_top d (top.0 ∷ []) top.1 (component d (top.0 ∷ []))

abbrev pub unless_fault : Items → Option (List ℕ) → Option Fault → Result (List Row) Fault
unless_fault d wanted None = with_top d (top_from wanted 0 d)
unless_fault d wanted (Some fault) = Err fault

abbrev pub elaborated : Items → Option (List ℕ) → Result (List Row) Fault
elaborated d wanted = unless_fault d wanted (fault_of d)

-- what is wrong, if there is no answer
abbrev pub fault_in : {X : Type 0} → Result X Fault → Option Fault
fault_in (Ok x) = None
fault_in (Err f) = Some f
