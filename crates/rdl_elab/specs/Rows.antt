-- The rows of a map: one for each instance path from the top, in pre-order, the top first; an array is one row.
-- SystemRDL 2.0: hierarchy of instances and their addresses (clause 5, clause 13). own: what a row shows, and that a base is the sum of
-- the starts along the path.
use Rattle.std.specs.Prelude.{◌≡◌, ℕ, ◌+◌, List, [], ◌∷◌, ◌++◌, map, Option, None, option_map, unwrap_or, if◌then◌else◌}
use Rattle.std.specs.List.{filter_map}
use Rattle.rdl_tree.specs.Items.{Items}
use Rattle.rdl_tree.specs.Properties.{row, on, properties}
use Rattle.rdl_tree.specs.declared.shell.Kind.{Kind}
use Rattle.rdl_tree.specs.declared.shell.Kind.TheVariants.{Field}
use Rattle.rdl_tree.specs.declared.shell.Shell.{Shell}
use Rattle.rdl_tree.specs.declared.value.Value.{Value}
use Rattle.rdl_tree.specs.declared.property.Property.{Property}
use Rattle.rdl_tree.specs.declared.property.Property.TheVariants.{Sw}
use Rattle.rdl_scope.specs.Value.{path_value, shown}
use Rattle.rdl_scope.specs.Closed.{Head, Parts, no_parts, part, Made}
use Rattle.rdl_elab.specs.declared.layout.Mode.{Mode}
use Rattle.rdl_elab.specs.declared.layout.Mode.TheVariants.{Regalign}
use Rattle.rdl_elab.specs.declared.layout.Span.{Span}
use Rattle.rdl_elab.specs.declared.layout.Layout.{Layout}
use Rattle.rdl_elab.specs.declared.row.PropertyValue.{PropertyValue}
use Rattle.rdl_elab.specs.declared.row.Location.{Location}
use Rattle.rdl_elab.specs.declared.row.Location.TheVariants.{Bytes, Bits}
use Rattle.rdl_elab.specs.declared.row.Row.{Row}
use Rattle.rdl_elab.specs.Layouts.{values_of, mode_inside, layout_of}
use Rattle.rdl_elab.specs.Reaches.{along, values_along}
use Rattle.rdl_elab.specs.Shown.{valued, shown_values}

-- A row has the names from the top, the kind, the absolute address of the first element (a field's is that of its register), the location,
-- and the value of each property of the kind that has one, in the order of the table of properties.
-- Its location is the bytes of an instance in the component around it, from its first element on; or the bits of a field in its register.
-- the value of a property of the path of these instance items, which ends at this component
abbrev pub row_value : Items → List (List ℕ) → Head → Property → Option Value
row_value d path h p = if on p h.kind then option_map (shown (row p).form) (path_value d path h.at p) else None

-- those that there are, in the order of the table
abbrev pub row_values : Items → List (List ℕ) → Head → List PropertyValue
row_values d path h = filter_map (λ p. option_map (valued p) (row_value d path h p)) properties

-- those of an instance with this shell are made of the values that its component has by itself, of its reset, and of what comes along the path
abbrev pub AreValuesAlong : Items → List (List ℕ) → Shell → Head → Type 0
AreValuesAlong d path s h = values_along h.kind s.reset (along d [] path) (shown_values h) ≡ row_values d path h

-- a field has bits, and any other row bytes
abbrev pub location_of : Kind → Shell → Span → ℕ → Location
location_of Field s span size = Bits span
location_of kind s span size = Bytes (record { offset = span.start; size = size; dims = s.dims; stride = unwrap_or s.stride size })

-- the address of an instance of a component at this base
abbrev pub base_of : Kind → ℕ → Span → ℕ
base_of Field base span = base
base_of kind base span = base + span.start

-- what stands around the instances of a component: the mode in which they are placed, the names and the instance items that lead to
-- the component, its base, and the bits that it has if it is a register
pub record Around : Type 0 where
  pub mode : Mode
  pub names : List (List ℕ)
  pub path : List (List ℕ)
  pub base : ℕ
  pub bits : ℕ

-- a row with all by which its faults are judged: its instance item, the path to it, that item's parts, its component, what stands
-- around it, its span, its size, its software access, and the span and the software access of each earlier sibling
pub record Judged : Type 0 where
  pub row : Row
  pub at : List ℕ
  pub path : List (List ℕ)
  pub shell : Shell
  pub head : Head
  pub around : Around
  pub span : Span
  pub size : ℕ
  pub access : Option Value
  pub before : List (Span × Option Value)

abbrev pub judged_row : Items → Around → List (Span × Option Value) → Span → List ℕ → Shell → Head → Layout → Judged
judged_row d o before span at s h l =
    record {
      row = record { names = o.names ++ s.name ∷ []; kind = h.kind; base = base_of h.kind o.base span; location = location_of h.kind s span l.size; values = row_values d (o.path ++ at ∷ []) h };
      at = at;
      path = o.path ++ at ∷ [];
      shell = s;
      head = h;
      around = o;
      span = span;
      size = l.size;
      access = row_value d (o.path ++ at ∷ []) h Sw;
      before = before;
    }

-- what stands around the instances of the component of a row
abbrev pub inside : Judged → Around
inside r =
    record {
      mode = mode_inside r.head.kind (values_of r.head) r.around.mode;
      names = r.row.names;
      path = r.path;
      base = r.row.base;
      bits = (values_of r.head).regwidth;
    }

-- in pre-order: the instances of a component with their spans, each with the rows inside it
abbrev pub rows_in : Items → Around → List (Span × Option Value) → List Span → Parts → List Judged
rows_in d o before spans no_parts = []
rows_in d o before [] (part at s h within rest) = []
rows_in d o before (span ∷ spans) (part at s h within rest) =
    let l = layout_of o.mode h within in
    let r = judged_row d o before span at s h l in
    r ∷ (rows_in d (inside r) [] l.spans within ++ rows_in d o (before ++ (span, r.access) ∷ []) spans rest)

-- the mode of the top is its own, whatever this one
abbrev pub top_layout : Made → Layout
top_layout c = layout_of Regalign c.head c.parts

abbrev pub around_top : List ℕ → Made → Around
around_top name c =
    record { mode = mode_inside c.head.kind (values_of c.head) Regalign; names = name ∷ []; path = []; base = 0; bits = 0 }

abbrev pub rows_below : Items → List ℕ → Made → List Judged
rows_below d name c = rows_in d (around_top name c) [] (top_layout c).spans c.parts

abbrev pub top_row : Items → List ℕ → Made → Row
top_row d name c =
    let size = (top_layout c).size in
    record { names = name ∷ []; kind = c.head.kind; base = 0; location = Bytes (record { offset = 0; size = size; dims = []; stride = size }); values = row_values d [] c.head }

-- all rows of a map with this top
abbrev pub rows_of : Items → List ℕ → Made → List Row
rows_of d name c = top_row d name c ∷ map (λ (r : Judged). r.row) (rows_below d name c)
