-- What a patch makes of marks, told by the patch that takes it back.
-- own: SystemRDL 2.0 has no edits.
use Rattle.std.specs.Prelude.{ℕ, ◌+◌, ◌-◌, true, if◌then◌else◌, nat_le, List, [], ◌∷◌, ◌++◌, length, Option, Some, None, unwrap_or, insert, remove, slice_get, slice_set}
use Rattle.rdl_tree.specs.Address.{holder_of, number_of}
use Rattle.rdl_tree.specs.Patch.{address_of}
use Rattle.rdl_tree.specs.declared.description.Item.{Item}
use Rattle.rdl_tree.specs.declared.part.Part.{Part}
use Rattle.rdl_tree.specs.declared.part.Part.TheVariants.{OfShell, OfValue, OfTarget, OfType, OfDefine}
use Rattle.rdl_tree.specs.declared.patch.Patch.{Patch}
use Rattle.rdl_tree.specs.declared.patch.Patch.TheVariants.{Insert, Delete, Shift, Exchange}
use Rattle.rdl_marks.specs.Marks.{Firsts, Marks}
use Rattle.rdl_marks.specs.View.{Trace, new_item, old_item, Told, marks_of, told_of, run}

-- ---- One item.

-- this part stood there, unless another one did before
abbrev pub with_first : Part → Firsts → Firsts
with_first (OfShell s) f = record f { shell = Some (unwrap_or f.shell s) }
with_first (OfValue v) f = record f { value = Some (unwrap_or f.value v) }
with_first (OfTarget t) f = record f { target = Some (unwrap_or f.target t) }
with_first (OfType n) f = record f { type_name = Some (unwrap_or f.type_name n) }
with_first (OfDefine n) f = record f { defined = Some (unwrap_or f.defined n) }

-- of an item that wasn't there before nothing more is told
abbrev pub exchanged : Part → Trace → Trace
exchanged part new_item = new_item
exchanged part (old_item number firsts inside) = old_item number (with_first part firsts) inside

abbrev pub moved : Trace → Trace
moved new_item = new_item
moved (old_item number firsts inside) = old_item number (record firsts { is_moved = true }) inside

abbrev pub changed_inside : (Marks → Marks) → Trace → Trace
changed_inside f new_item = new_item
changed_inside f (old_item number firsts inside) = old_item number firsts (f inside)

-- ---- The items of a body.

-- so many items at least are told of one by one
abbrev pub reach : ℕ → Told → Told
reach count t = record t {
  traces = t.traces ++ run t.behind (count - length t.traces);
  behind = t.behind + (count - length t.traces);
}

abbrev pub put_in : ℕ → Trace → Told → Told
put_in number e t = record t { traces = insert t.traces number e }

abbrev pub take_out : ℕ → Told → Told
take_out number t = record t { traces = remove t.traces number }

-- the item is gone, as this one; one that wasn't there before is forgotten
abbrev pub gone_as : Item → Trace → Told → Told
gone_as x new_item t = t
gone_as x (old_item number firsts inside) t = record t {
  gone = t.gone ++ old_item number firsts inside ∷ [];
  items = t.items ++ x ∷ [];
}

-- with another in the place of what is told of the item of this number
abbrev pub told_at : ℕ → (Trace → Trace) → Option Trace → Told → Told
told_at number f None t = t
told_at number f (Some e) t = record t { traces = slice_set t.traces number (f e) }

abbrev pub taken_out_as : ℕ → Item → Option Trace → Told → Told
taken_out_as number x None t = t
taken_out_as number x (Some e) t = gone_as x e (take_out number t)

abbrev pub moved_to : (from to : ℕ) → Option Trace → Told → Told
moved_to from to None t = t
moved_to from to (Some e) t = put_in to (moved e) (reach to (take_out from t))

-- what the function makes of what is told of the item of this number
abbrev pub at_item : ℕ → (Trace → Trace) → Told → Told
at_item number f t = let all = reach (number + 1) t in told_at number f (slice_get all.traces number) all

-- a patch of the item of this number was taken back: an item came, went, was moved to here, or has another part
abbrev pub noted_here : Patch → ℕ → Told → Told
noted_here (Delete at) number t = put_in number new_item (reach number t)
noted_here (Insert at x) number t = let all = reach (number + 1) t in taken_out_as number x (slice_get all.traces number) all
noted_here (Shift at from) number t = let all = reach (from + 1) t in moved_to from number (slice_get all.traces from) all
noted_here (Exchange at part) number t = at_item number (exchanged part) t

-- ---- All.

abbrev pub here : Patch → ℕ → Marks → Marks
here back number m = marks_of (noted_here back number (told_of m))

-- what the function makes of the marks at the end of a way of numbers
abbrev pub marks_at : List ℕ → (Marks → Marks) → Marks → Marks
marks_at [] f m = f m
marks_at (i ∷ way) f m = marks_of (at_item i (changed_inside (marks_at way f)) (told_of m))

-- the marks behind a patch that this one takes back
abbrev pub noted : Patch → Marks → Marks
noted back m =
    if nat_le 1 (length (address_of back)) then marks_at (holder_of (address_of back)) (here back (number_of (address_of back))) m else m

-- those behind patches that these take back, of which the last one is noted first
abbrev pub all_noted : List Patch → Marks → Marks
all_noted [] m = m
all_noted (back ∷ backs) m = noted back (all_noted backs m)
