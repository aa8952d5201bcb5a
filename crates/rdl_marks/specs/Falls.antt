-- A body has more items than what is inside each of them, so that marks end.
-- own: no part of what marks mean.
use Rattle.std.specs.Prelude.{ℕ, ◌-◌, ◌≤◌, max, List, [], ◌∷◌, ◌++◌, map, replicate, reverse}
use mathlib.Core.List.{reverse-cons}
use Rattle.std.proofs.Common.{arith}
use denote.Param.Weighed.{most}
use Rattle.rdl_marks.specs.Marks.{marks_count, traces_count}
use Rattle.rdl_marks.specs.View.{Trace, new_item, old_item, run, traces_of, marks_of, pieces_traces, gone_trace, in_order, told}
use Rattle.rdl_marks.specs.declared.marks.Piece.{Piece}
use Rattle.rdl_marks.specs.declared.marks.Piece.TheVariants.{New, Kept, Marked}
use Rattle.rdl_marks.specs.declared.marks.Pieces.{Pieces}
use Rattle.rdl_marks.specs.declared.marks.Gone.{Gone}
use Rattle.rdl_marks.specs.declared.marks.BodyMarks.TheDeep.{deep-Piece, deep-Pieces, deep-Gone}

count-append : (xs ys : List Trace) → traces_count (traces_of ys) ≤ traces_count (traces_of (xs ++ ys))
count-append [] ys = omega arith
count-append (new_item ∷ xs) ys = count-append xs ys
count-append (old_item n f m ∷ xs) ys = omega (arith, count-append xs ys)

deep_le-pieces : (ps : List Piece) → most deep-Piece ps ≤ traces_count (traces_of (pieces_traces ps))
deep_le-pieces [] = omega arith
deep_le-pieces (New count ∷ ps) = omega (arith, deep_le-pieces ps, count-append (replicate count new_item) (pieces_traces ps))
deep_le-pieces (Kept from to ∷ ps) = omega (arith, deep_le-pieces ps, count-append (run from (to - from)) (pieces_traces ps))
deep_le-pieces (Marked number m ∷ ps) = omega (arith, deep_le-pieces ps)

deep_le-gone : (gs : List Gone) → most deep-Gone gs ≤ traces_count (traces_of (map gone_trace gs))
deep_le-gone [] = omega arith
deep_le-gone (g ∷ gs) = omega (arith, deep_le-gone gs)

most-append : (ps qs : List Piece) → max (most deep-Piece ps) (most deep-Piece qs) ≤ most deep-Piece (ps ++ qs)
most-append [] qs = omega arith
most-append (p ∷ ps) qs = omega (arith, most-append ps qs)

most-reverse : (ps : List Piece) → most deep-Piece ps ≤ most deep-Piece (reverse ps)
most-reverse [] = omega arith
most-reverse (p ∷ ps) = rw reverse-cons (omega (arith, most-reverse ps, most-append (reverse ps) (p ∷ [])))

deep_le-in_order : (p : Pieces) → deep-Pieces p ≤ most deep-Piece (in_order p)
deep_le-in_order p = omega (arith, most-append p.front.items (reverse p.back.items), most-reverse p.back.items)

pub deep_le-count : (p : Pieces) (behind : ℕ) (gs : List Gone) → max (deep-Pieces p) (max (most deep-Gone gs) 0) ≤ marks_count (marks_of (told (in_order p) behind gs))
deep_le-count p behind gs = omega (arith, deep_le-in_order p, deep_le-pieces (in_order p), deep_le-gone gs)
