-- When the instances of a body take the same of layouts as those of what it was.
-- own: SystemRDL 2.0 has no edits.
use Rattle.std.specs.Prelude.{◌≡◌, ℕ, Bool, true, false, List, [], ◌∷◌, Some, map, slice_get, unwrap_or}
use Rattle.rdl_tree.specs.Items.{Items}
use Rattle.rdl_tree.specs.declared.description.Item.{Item}
use Rattle.rdl_tree.specs.declared.description.Item.TheVariants.{Define, Instance, Own, Default, Dynamic}
use Rattle.rdl_tree.specs.declared.shell.Shell.{Shell}
use Rattle.rdl_marks.specs.Describes.{IsItem}
use Rattle.rdl_marks.specs.InOrder.{IfMoved}
use Rattle.rdl_marks.specs.Marks.{Firsts, Marks}
use Rattle.rdl_marks.specs.View.{Trace, new_item, old_item}
use Rattle.rdl_marks.specs.Was.{trace_of}
use Rattle.rdl_nodes.specs.Bare.{bare}
use Rattle.rdl_nodes.specs.Parts.{of_item}
use Rattle.rdl_nodes.specs.View.{slots_of}
use Rattle.rdl_nodes.specs.declared.node.Slot.{Slot}
use Rattle.rdl_seen.specs.declared.values.Values.{Values}
use Rattle.rdl_seen.specs.Fields.{Of, of_field, of_seen, of_none, member_of, members}
use Rattle.rdl_seen.specs.Layouts.{Laying, Member}
use Rattle.rdl_seen.specs.Meaning.{around_before}
use Rattle.rdl_seen.specs.Node.{Around}
use Rattle.rdl_renew.specs.AlikeSlots.{is_instance}
use Rattle.rdl_renew.specs.Renewing.{Became}
use Rattle.rdl_renew.specs.declared.alike.Inside.{Inside}
use Rattle.rdl_renew.specs.declared.alike.Inside.TheVariants.{Field, Component, Nothing}

-- ---- An instance.

-- what the code finds in the slot of an instance
abbrev pub of_inside : Inside → Of
of_inside (Field f) = of_field f
of_inside (Component s) = of_seen s.now
of_inside Nothing = of_none

-- layouts take the same of an instance of the second component as of the first one, where the same width of fields is a default, if that
-- is said
abbrev pub TakesTheSame : (is_width_same : Bool) → Shell → Of → Of → Type 0
TakesTheSame is_width_same s o p = (v w : Values) → (is_width_same ≡ true → v.fieldwidth ≡ w.fieldwidth) → bare (member_of v s o) ≡ bare (member_of w s p)

-- ---- An item.

-- what layouts take of an item with this component, if it is an instance; and what they took, if this stood first in the place of its parts
abbrev pub taken_of : Values → Item → Of → List Member
taken_of v (Define n c) o = []
taken_of v (Instance s of) o = bare (member_of v s o) ∷ []
taken_of v (Own p x) o = []
taken_of v (Default p x) o = []
taken_of v (Dynamic t p x) o = []

abbrev pub taken_first : Values → Firsts → Item → Of → List Member
taken_first v f (Define n c) o = []
taken_first v f (Instance s of) o = bare (member_of v (unwrap_or f.shell s) o) ∷ []
taken_first v f (Own p x) o = []
taken_first v f (Default p x) o = []
taken_first v f (Dynamic t p x) o = []

-- they take the same of it as they took
abbrev pub StillTakesTheSame : (is_width_same : Bool) → Firsts → Item → (before now : Of) → Type 0
StillTakesTheSame is_width_same f y o p =
    (v w : Values) → (is_width_same ≡ true → v.fieldwidth ≡ w.fieldwidth) → taken_first v f y o ≡ taken_of w y p

-- by what is told of an item with this component, it is no instance, or it stayed in order, and they take the same of it
abbrev pub IsAlike : (is_width_same : Bool) → (before : List Slot) → (now : Of) → Item → Trace → Type 0
IsAlike is_width_same before p y new_item = is_instance y ≡ false
IsAlike is_width_same before p y (old_item number firsts inside) =
    IfMoved firsts.is_moved (is_instance y ≡ false) (StillTakesTheSame is_width_same firsts y (of_item (slice_get before number)) p)

-- ---- A body.

abbrev pub AllAlike : (is_width_same : Bool) → Marks → (before now : List Slot) → Items → Type 0
AllAlike is_width_same m before now body =
    (i : ℕ) (y : Item) (e : Trace) → IsItem i body y → trace_of m i ≡ Some e → IsAlike is_width_same before (of_item (slice_get now i)) y e

-- before each item that stayed in order the default width of fields is the same as before what it was
abbrev pub IsWidthSame : Laying → Marks → (old now : Items) → (saw sees : Around) → Type 0
IsWidthSame lay m old now saw sees =
    (i n : ℕ) (firsts : Firsts) (inside : Marks) (y : Item) → IsItem i now y → trace_of m i ≡ Some (old_item n firsts inside) → firsts.is_moved ≡ false
    → (around_before lay n saw old).defaults.fieldwidth ≡ (around_before lay i sees now).defaults.fieldwidth

-- so much of layouts depends on the instances of a body as of what it was, if these slots were kept of that, and those are kept of it now
abbrev pub AreAlike : (is_width_same : Bool) → Marks → (before now : List Slot) → Items → Type 0
AreAlike is_width_same m before now body =
    (lay : Laying) (old : Items) (saw sees : Around) → Became lay saw (slots_of before) m old body → (is_width_same ≡ true → IsWidthSame lay m old body saw sees)
    → map bare (members saw.defaults old (slots_of before)) ≡ map bare (members sees.defaults body (slots_of now))
