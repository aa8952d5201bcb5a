-- The bodies that a step edits, told by the step's marks.
-- own: SystemRDL 2.0 says how components are laid out, and nothing of edits.
use Rattle.std.specs.Prelude.{ℕ, zero, suc, not, Bool, true, false, ◌&&◌, ◌||◌, bytes_eq, List, [], ◌∷◌, ◌++◌, Option, Some, None, is_some, unwrap_or}
use Rattle.rdl_tree.specs.Address.{inner}
use Rattle.rdl_tree.specs.Items.{Items}
use Rattle.rdl_tree.specs.Properties.{row, property_of}
use Rattle.rdl_tree.specs.View as tree
use Rattle.rdl_tree.specs.declared.description.Item.{Item}
use Rattle.rdl_tree.specs.declared.description.Item.TheVariants.{Define, Instance, Own, Default, Dynamic}
use Rattle.rdl_scope.specs.Types.{items_in, type_of}
use Rattle.rdl_marks.specs.Marks.{Firsts, Marks}
use Rattle.rdl_marks.specs.View.{Trace, new_item, old_item, list_of}
use Rattle.rdl_marks.specs.Was.{trace_of}
use Rattle.rdl_renew.specs.AlikeSlots.{says_same}
use Rattle.rdl_renew.specs.Raised.{brings_the_same}
use Rattle.rdl_reach.specs.Before.{address_before}

-- ---- One item.

-- layouts depend on the property of this name
abbrev pub lays_out : List ℕ → Bool
lays_out name = elim (property_of name) [ None ↦ false | Some p ↦ (row p).layout ]

-- a definition or an instance, or an own assignment of a property on which layouts depend
abbrev pub is_laid_out : Item → Bool
is_laid_out (Define n c) = true
is_laid_out (Instance s o) = true
is_laid_out (Own p v) = lays_out p
is_laid_out (Default p v) = false
is_laid_out (Dynamic t p v) = false

-- a default of a property on which layouts depend
abbrev pub is_layout_default : Item → Bool
is_layout_default (Define n c) = false
is_layout_default (Instance s o) = false
is_layout_default (Own p v) = false
is_layout_default (Default p v) = lays_out p
is_layout_default (Dynamic t p v) = false

-- an old item was set: an instance got a shell that says something else of its place than the first one, an own assignment got a value, or
-- a default brings something else
abbrev pub is_set : Firsts → Item → Bool
is_set f (Define n c) = false
is_set f (Instance s o) = not (says_same (unwrap_or f.shell s) s)
is_set f (Own p v) = is_some f.value
is_set f (Default p v) = not (brings_the_same f)
is_set f (Dynamic t p v) = false

-- an item for which this holds, and of which that is told, came, was moved or was set
abbrev pub is_changed : (Item → Bool) → Trace → Item → Bool
is_changed test new_item x = test x
is_changed test (old_item number firsts inside) x = test x && (firsts.is_moved || is_set firsts x)

-- ---- One body.

-- this holds of an item of which something is told one by one
abbrev pub any_told : (Trace → Item → Bool) → List Trace → List Item → Bool
any_told f [] xs = false
any_told f (e ∷ es) [] = false
any_told f (e ∷ es) (x ∷ xs) = f e x || any_told f es xs

abbrev pub any_item : (Item → Bool) → List Item → Bool
any_item f [] = false
any_item f (x ∷ xs) = f x || any_item f xs

-- an item for which this holds came, went, was moved or was set
abbrev pub any_changed : (Item → Bool) → Marks → Items → Bool
any_changed test m now = any_told (is_changed test) (list_of m.traces) (tree.list_of now) || any_item test (tree.list_of m.items)

-- a definition or an instance did so, or an own assignment of a property on which layouts depend
abbrev pub is_edited : Marks → Items → Bool
is_edited m now = any_changed is_laid_out m now

-- a default of such a property did
abbrev pub sets_default : Marks → Items → Bool
sets_default m now = any_changed is_layout_default m now

-- ---- All bodies.

-- of the body of an item of which this is told: the item came or was moved, or this holds of the body and the marks inside
abbrev pub edited_inside : (Marks → Items → Bool) → Option Trace → Option Items → Bool
edited_inside f None body = true
edited_inside f (Some new_item) body = true
edited_inside f (Some (old_item number firsts inside)) None = firsts.is_moved
edited_inside f (Some (old_item number firsts inside)) (Some body) = firsts.is_moved || f inside body

-- the body at an address after the step: it is edited, or stands inside an item that came or was moved, or such a default came, went, was
-- moved or set in it or in a body around it
abbrev pub is_edited_at : List ℕ → Marks → Items → Bool
is_edited_at [] m now = is_edited m now || sets_default m now
is_edited_at (i ∷ a) m now = sets_default m now || edited_inside (is_edited_at a) (trace_of m i) (inner i now)

-- a type reference leads to the definition that stood there before the step, if it led there
abbrev pub leads_where_it_led : Marks → (now was : Option (List ℕ)) → Bool
leads_where_it_led m None None = true
leads_where_it_led m None (Some b) = false
leads_where_it_led m (Some a) None = false
leads_where_it_led m (Some a) (Some b) = elim (address_before m a) [ None ↦ false | Some c ↦ bytes_eq c b ]

-- the type of the item at an address after the step has become another definition. The body of one that was moved is edited, and so the
-- bodies that hold its instances are in reach
abbrev pub has_another_type : Marks → (old now : Items) → List ℕ → Bool
has_another_type m old now a = elim (address_before m a) [ None ↦ false | Some b ↦ not (leads_where_it_led m (type_of now a) (type_of old b)) ]

-- that of one of the first items of a body
abbrev pub any_has_another_type : Marks → (old now : Items) → List ℕ → ℕ → Bool
any_has_another_type m old now b zero = false
any_has_another_type m old now b (suc n) = has_another_type m old now (b ++ n ∷ []) || any_has_another_type m old now b n

-- the bodies that a step edits
abbrev pub edits : Marks → (old now : Items) → List ℕ → Bool
edits m old now b = is_edited_at b m now || any_has_another_type m old now b (items_in b now)
