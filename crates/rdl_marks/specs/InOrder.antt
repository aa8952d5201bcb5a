-- That items which weren't moved stand in the order of the numbers that they had.
-- own: SystemRDL 2.0 has no edits.
use Rattle.std.specs.Prelude.{◌≡◌, ℕ, ◌+◌, ◌≤◌, ◌<◌, ◌==◌, ◌&&◌, if◌then◌else◌, Bool, true, false, List, [], ◌∷◌, ◌++◌}
use Rattle.rdl_tree.specs.Items.{Items}
use Rattle.rdl_tree.specs.declared.patch.Patch.{Patch}
use Rattle.rdl_marks.specs.Describes.{Describes, times}
use Rattle.rdl_marks.specs.Marks.{Traces, no_traces, new_trace, old_trace, Marks}
use Rattle.rdl_marks.specs.Noted.{noted, all_noted}
use Rattle.rdl_marks.specs.View.{Trace, new_item, old_item, list_of}

-- one thing of an item that was moved, and another of one that wasn't
abbrev pub IfMoved : Bool → Type 0 → Type 0 → Type 0
IfMoved true A B = A
IfMoved false A B = B

-- The items, none of which had a number below `least`, and behind them all that had one from `behind` on: those that were there before and
-- weren't moved stand in the order of their numbers. The same holds inside each.
abbrev pub StandInOrder : (least : ℕ) → Traces → (behind : ℕ) → Type 0
StandInOrder least no_traces behind = least ≤ behind
StandInOrder least (new_trace rest) behind = StandInOrder least rest behind
StandInOrder least (old_trace number firsts inside from gone items rest) behind =
    StandInOrder 0 inside from
    × IfMoved firsts.is_moved (StandInOrder least rest behind) ((least ≤ number) × StandInOrder (number + 1) rest behind)

abbrev pub AreInOrder : Marks → Type 0
AreInOrder m = StandInOrder 0 m.traces m.behind

-- a patch that is noted leaves them in order
abbrev pub StaysInOrder : Type 0
StaysInOrder = (back : Patch) (m : Marks) → AreInOrder m → AreInOrder (noted back m)

abbrev pub StayInOrder : Type 0
StayInOrder = (backs : List Patch) (m : Marks) → AreInOrder m → AreInOrder (all_noted backs m)

-- ---- Beside the old body.

-- how often a number is that of an item which was moved
abbrev pub moved_times : ℕ → Traces → ℕ
moved_times n no_traces = 0
moved_times n (new_trace rest) = moved_times n rest
moved_times n (old_trace number firsts inside from gone items rest) = (if firsts.is_moved && (number == n) then 1 else 0) + moved_times n rest

-- the number behind that of the last of these items that wasn't moved, or this one
abbrev pub place_behind : ℕ → List Trace → ℕ
place_behind place [] = place
place_behind place (new_item ∷ es) = place_behind place es
place_behind place (old_item number firsts inside ∷ es) = place_behind (if firsts.is_moved then place else number + 1) es

-- the number of the first of these items that wasn't moved, or else this one
abbrev pub next_place : List Trace → ℕ → ℕ
next_place [] behind = behind
next_place (new_item ∷ es) behind = next_place es behind
next_place (old_item number firsts inside ∷ es) behind = if firsts.is_moved then next_place es behind else number

-- Whoever goes along the items, and beside them along those that there were, passes over old items that are gone or were moved, and over
-- no others.
abbrev pub PassesOverGoneOrMoved : Type 0
PassesOverGoneOrMoved =
    (m : Marks) (old now : Items) → Describes m old now → AreInOrder m
    → (done rest : List Trace) → list_of m.traces ≡ done ++ rest
    → (n : ℕ) → place_behind 0 done ≤ n → n < next_place rest m.behind → times n m.gone + moved_times n m.traces ≡ 1

-- and never back
abbrev pub GoesOn : Type 0
GoesOn = (m : Marks) → AreInOrder m → (done rest : List Trace) → list_of m.traces ≡ done ++ rest → place_behind 0 done ≤ next_place rest m.behind
