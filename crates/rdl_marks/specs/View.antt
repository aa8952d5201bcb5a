-- One level of marks as lists, in which what is inside an item is already seen as its marks.
-- own: how the code holds marks.
use Rattle.std.specs.Prelude.{ℕ, zero, suc, ◌+◌, ◌-◌, List, [], ◌∷◌, ◌++◌, map, replicate, reverse, ◌≡◌, length}
use Rattle.std.specs.Option.{option_copied}
use Rattle.rdl_tree.specs.View as tree
use Rattle.rdl_tree.specs.declared.description.Item.{Item}
use Rattle.rdl_marks.specs.Marks.{Firsts, no_firsts, Traces, no_traces, new_trace, old_trace, Marks, no_marks}
use Rattle.rdl_marks.specs.declared.marks.Mark.{Mark}
use Rattle.rdl_marks.specs.declared.marks.Piece.{Piece}
use Rattle.rdl_marks.specs.declared.marks.Piece.TheVariants.{New, Kept, Marked}
use Rattle.rdl_marks.specs.declared.marks.Pieces.{Pieces}
use Rattle.rdl_marks.specs.declared.marks.Gone.{Gone}

-- what is told of one item
pub data Trace : Type 0 where
  new_item : Trace
  old_item : (number : ℕ) → Firsts → (inside : Marks) → Trace

-- what is told of a body
pub record Told : Type 0 where
  pub traces : List Trace
  pub behind : ℕ
  pub gone : List Trace
  pub items : List Item

-- the item, and then these
abbrev pub add : Trace → Traces → Traces
add new_item rest = new_trace rest
add (old_item number firsts inside) rest = old_trace number firsts inside.traces inside.behind inside.gone inside.items rest

abbrev pub traces_of : List Trace → Traces
traces_of [] = no_traces
traces_of (e ∷ es) = add e (traces_of es)

abbrev pub list_of : Traces → List Trace
list_of no_traces = []
list_of (new_trace rest) = new_item ∷ list_of rest
list_of (old_trace number firsts inside behind gone items rest) =
    old_item number firsts (record { traces = inside; behind = behind; gone = gone; items = items }) ∷ list_of rest

abbrev pub marks_of : Told → Marks
marks_of t = record { traces = traces_of t.traces; behind = t.behind; gone = traces_of t.gone; items = tree.items_of t.items }

abbrev pub told_of : Marks → Told
told_of m = record { traces = list_of m.traces; behind = m.behind; gone = list_of m.gone; items = tree.list_of m.items }

-- an item that is as it was
abbrev pub same_item : ℕ → Trace
same_item number = old_item number no_firsts no_marks

-- so many of them, from this number on
abbrev pub run : (from count : ℕ) → List Trace
run from zero = []
run from (suc count) = same_item from ∷ run (from + 1) count

-- ---- What the code holds.

abbrev pub firsts_of : Mark → Firsts
firsts_of m = record {
  shell = option_copied m.shell;
  defined = option_copied m.defined;
  type_name = option_copied m.type_name;
  value = option_copied m.value;
  target = option_copied m.target;
  is_moved = m.is_moved;
}

abbrev pub marked : ℕ → Mark → Trace
marked number m = old_item number (firsts_of m) m.inside

abbrev pub piece_traces : Piece → List Trace
piece_traces (New count) = replicate count new_item
piece_traces (Kept from to) = run from (to - from)
piece_traces (Marked number m) = marked number m ∷ []

abbrev pub pieces_traces : List Piece → List Trace
pieces_traces [] = []
pieces_traces (p ∷ ps) = piece_traces p ++ pieces_traces ps

-- the pieces, from the first one on
abbrev pub in_order : Pieces → List Piece
in_order p = p.front.items ++ reverse p.back.items

-- it is known how many items stand before the gap
abbrev pub IsCounted : Pieces → Type 0
IsCounted p = p.before ≡ length (pieces_traces p.front.items)

abbrev pub gone_trace : Gone → Trace
gone_trace g = marked g.number g.mark

abbrev pub gone_item : Gone → Item
gone_item g = g.item.now

abbrev pub told : List Piece → ℕ → List Gone → Told
told ps behind gs = record { traces = pieces_traces ps; behind = behind; gone = map gone_trace gs; items = map gone_item gs }
