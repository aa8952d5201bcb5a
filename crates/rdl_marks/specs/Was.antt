-- Which number an item had before.
-- own: SystemRDL 2.0 has no edits.
use Rattle.std.specs.Prelude.{◌≡◌, ℕ, ◌+◌, ◌-◌, nat_lt, if◌then◌else◌, length, Option, Some, None, option_and_then, slice_get}
use Rattle.rdl_tree.specs.Items.{Items}
use Rattle.rdl_marks.specs.Describes.{Describes}
use Rattle.rdl_marks.specs.Marks.{Marks}
use Rattle.rdl_marks.specs.View.{Trace, new_item, old_item, same_item, list_of}

-- what is told of item i: behind all items that are told of one by one, it is as it was
abbrev pub trace_of : Marks → ℕ → Option Trace
trace_of m i =
    if nat_lt i (length (list_of m.traces)) then slice_get (list_of m.traces) i else Some (same_item (m.behind + (i - length (list_of m.traces))))

abbrev pub number_of : Trace → Option ℕ
number_of new_item = None
number_of (old_item number firsts inside) = Some number

-- the number that item i had; none, if it wasn't there
abbrev pub was : Marks → ℕ → Option ℕ
was m i = option_and_then number_of (trace_of m i)

-- no two items had the same number
abbrev pub HadOtherNumbers : Type 0
HadOtherNumbers = (m : Marks) (old now : Items) → Describes m old now → (i j n : ℕ) → was m i ≡ Some n → was m j ≡ Some n → i ≡ j
