-- What is left where pieces are cut.
-- own: how the code holds marks.
use Rattle.std.specs.Prelude.{◌≡◌, ℕ, ◌+◌, ◌-◌, ◌++◌, List, [], length, reverse, Option, None, Some}
use Rattle.rdl_marks.specs.View.{Trace, new_item, same_item, run, marked, piece_traces, pieces_traces}
use Rattle.rdl_marks.specs.declared.marks.Piece.{Piece}
use Rattle.rdl_marks.specs.declared.marks.Pieces.{Pieces}
use Rattle.rdl_marks.specs.declared.marks.Piece.TheVariants.{New, Kept, Marked}

-- of the pieces before the gap
abbrev pub traces_before : Pieces → List Trace
traces_before p = pieces_traces p.front.items

-- of pieces of which the last one is the first, as they stand behind it
abbrev pub traces_behind : List Piece → List Trace
traces_behind ps = pieces_traces (reverse ps)

abbrev pub traces_in : Pieces → List Trace
traces_in p = traces_before p ++ traces_behind p.back.items

-- those of a piece, if there is one
abbrev pub rest_traces : Option Piece → List Trace
rest_traces None = []
rest_traces (Some p) = piece_traces p

-- one item, which has a mark if it was there before
abbrev pub IsSingle : Piece → Type 0
IsSingle (New count) = count ≡ 1
IsSingle (Kept from to) = ⊥
IsSingle (Marked number m) = Unit {0}

-- what is told of it
abbrev pub the_trace : Piece → Trace
the_trace (New count) = new_item
the_trace (Kept from to) = same_item from
the_trace (Marked number m) = marked number m

-- so many items or more are told of, and none otherwise than before
pub record Reaches (old : List Trace) (behind : ℕ) (new : List Trace) (after : ℕ) (count : ℕ) : Type 0 where
  pub traces : new ≡ old ++ run behind (count - length old)
  pub behind_new : after ≡ behind + (count - length old)
