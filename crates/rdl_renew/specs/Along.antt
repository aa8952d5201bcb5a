-- What became of the items of a body, told of one after another.
-- own: how the code goes along marks.
use Rattle.std.specs.Prelude.{◌≡◌, ℕ, ◌+◌, ◌^◌, ◌<◌, ◌≤◌, List, length, take, Option, Some, None, slice_get}
use Rattle.rdl_marks.specs.Marks.{Marks}
use Rattle.rdl_marks.specs.View.{Trace, new_item, same_item, marked, piece_traces, pieces_traces}
use Rattle.rdl_marks.specs.Was.{trace_of}
use Rattle.rdl_marks.specs.declared.marks.Piece.{Piece}
use Rattle.rdl_renew.specs.declared.along.Along.{Along}
use Rattle.rdl_renew.specs.declared.along.Stretch.{Stretch}
use Rattle.rdl_renew.specs.declared.along.Next.{Next}
use Rattle.rdl_renew.specs.declared.along.Next.TheVariants.{New, Same, Marked}

-- what is told of an item
abbrev pub next_of : Next → Trace
next_of New = new_item
next_of (Same number) = same_item number
next_of (Marked number mark) = marked number mark.now

-- the first items of a piece, so many, are as they were, and had the numbers from one on; or those behind all pieces, from this number on
pub record AreSame (p : Option Piece) (behind : ℕ) (s : Stretch) : Type 0 where
  pub within : (q : Piece) (k : ℕ) → p ≡ Some q → k < s.count → slice_get (piece_traces q) k ≡ Some (same_item (s.from + k))
  pub past : p ≡ None → s.from ≡ behind

-- so many items of these pieces, and of those that stand behind them from a number on, are passed
pub record HasPassed (ps : List Piece) (behind : ℕ) (a : Along) (i : ℕ) : Type 0 where
  pub count : length (pieces_traces (take a.pieces ps)) + a.items ≡ i
  pub within : (p : Piece) → slice_get ps a.pieces ≡ Some p → a.items ≤ length (piece_traces p)
  pub same : AreSame (slice_get ps a.pieces) behind a.same

-- the number that item i had, if it is as it was, is one of the code's
abbrev pub HasNumber : Marks → ℕ → Type 0
HasNumber m i = (n : ℕ) → trace_of m i ≡ Some (same_item n) → n < 2 ^ 64

-- so many of the first items are as they were, and stand where they stood
abbrev pub AreUntouched : Marks → ℕ → Type 0
AreUntouched m front = (j : ℕ) → j < front → trace_of m j ≡ Some (same_item j)

-- from item i on so many are as they were, and had the numbers from one on
abbrev pub AreAsTheyWere : Marks → ℕ → Stretch → Type 0
AreAsTheyWere m i s = (k : ℕ) → k < s.count → trace_of m (i + k) ≡ Some (same_item (s.from + k))
