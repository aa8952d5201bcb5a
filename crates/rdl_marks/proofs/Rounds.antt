-- Marks and their lists are one another's images.
use Rattle.std.proofs.Common.{◌≡◌, List, [], ◌∷◌, refl, ap}
use Rattle.rdl_tree.proofs.Rounds as tree
use Rattle.rdl_marks.specs.Marks.{Traces, no_traces, new_trace, old_trace, Marks}
use Rattle.rdl_marks.specs.View.{Trace, new_item, old_item, Told, traces_of, list_of, marks_of, told_of}

pub list_of-traces_of : (es : List Trace) → list_of (traces_of es) ≡ es
list_of-traces_of [] = refl
list_of-traces_of (new_item ∷ es) = ap (λ l. new_item ∷ l) (list_of-traces_of es)
list_of-traces_of (old_item n f m ∷ es) = ap (λ l. old_item n f m ∷ l) (list_of-traces_of es)

pub traces_of-list_of : (t : Traces) → traces_of (list_of t) ≡ t
traces_of-list_of no_traces = refl
traces_of-list_of (new_trace rest) = ap new_trace (traces_of-list_of rest)
traces_of-list_of (old_trace n f inside behind gone items rest) = ap (old_trace n f inside behind gone items) (traces_of-list_of rest)

pub told_of-marks_of : (t : Told) → told_of (marks_of t) ≡ t
told_of-marks_of t = λ i. record {
  traces = list_of-traces_of t.traces i;
  behind = t.behind;
  gone = list_of-traces_of t.gone i;
  items = tree.list_of-items_of t.items i;
}

pub marks_of-told_of : (m : Marks) → marks_of (told_of m) ≡ m
marks_of-told_of m = λ i. record {
  traces = traces_of-list_of m.traces i;
  behind = m.behind;
  gone = traces_of-list_of m.gone i;
  items = tree.items_of-list_of m.items i;
}
