-- Where no default of a property on which layouts depend is changed, no default width of fields is.
use Rattle.std.proofs.Common.{◌≡◌, ◌^◌, Bool, true, false, not, ◌&&◌, ◌||◌, if◌then◌else◌, List, [], ◌∷◌, Option, Some, None, refl, ◌∙◌}
use Rattle.std.proofs.lemmas.Bool.{or_parts}
use Rattle.rdl_tree.specs.Items.{Items}
use Rattle.rdl_tree.specs.Properties.{row, property_of}
use Rattle.rdl_tree.specs.View as tree
use Rattle.rdl_tree.specs.declared.description.Item.{Item}
use Rattle.rdl_tree.specs.declared.description.Item.TheVariants.{Define, Instance, Own, Default, Dynamic}
use Rattle.rdl_tree.specs.declared.description.Of.TheVariants.{Named, Anonymous}
use Rattle.rdl_tree.specs.declared.property.Property.{Property}
use Rattle.rdl_tree.specs.declared.property.Property.TheVariants.{Fieldwidth}
use Rattle.rdl_marks.specs.Describes.{restored}
use Rattle.rdl_marks.specs.Marks.{Firsts, Marks}
use Rattle.rdl_marks.specs.View.{Trace, new_item, old_item, list_of}
use Rattle.rdl_seen.specs.declared.alert.Alert.{Alert}
use Rattle.rdl_seen.specs.Alert.{no_alert, with_alert}
use Rattle.rdl_seen.specs.Names.{meet}
use Rattle.rdl_seen.specs.PropertySet.{set_of_found, set_named}
use Rattle.rdl_seen.proofs.Bits.{lacks_none, lacks_both}
use Rattle.rdl_reach.specs.EditedBodies.{lays_out, is_layout_default, is_changed, any_told, any_item, sets_default}
use Rattle.rdl_renew.specs.Placed.{sets_width}
use Rattle.rdl_renew.specs.Raised.{told_of, brings_the_same, item_raises, gone_raises, all_raise}

-- the alert tells of no width
abbrev TellsNoWidth : Alert → Type 0
TellsNoWidth x = meet x.properties.bits (2 ^ 4) ≡ false

both_tell_none : (x y : Alert) → TellsNoWidth x → TellsNoWidth y → TellsNoWidth (with_alert x y)
both_tell_none x y f g = lacks_both x.properties.bits y.properties.bits 4 f g

no_width_found : (o : Option Property) → (elim o [ None ↦ false | Some p ↦ (row p).layout ]) ≡ false → meet (set_of_found o).bits (2 ^ 4) ≡ false
no_width_found None e = refl
no_width_found (Some Fieldwidth) e = absurd (let no : true ≡ false = e in cc)
no_width_found (Some p) e = refl

told_none : (x : Item) → is_layout_default x ≡ false → TellsNoWidth (told_of x)
told_none (Define n c) e = refl
told_none (Instance s o) e = refl
told_none (Own p v) e = refl
told_none (Default p v) e = lacks_both 0 (set_named p).bits 4 (lacks_none 4) (no_width_found (property_of p) e)
told_none (Dynamic t p v) e = refl

restored_default : (f : Firsts) (x : Item) → is_layout_default (restored f x) ≡ is_layout_default x
restored_default f (Define n c) = refl
restored_default f (Instance s (Named t)) = refl
restored_default f (Instance s (Anonymous c)) = refl
restored_default f (Own p v) = refl
restored_default f (Default p v) = refl
restored_default f (Dynamic t p v) = refl

-- an item that brings something else
brought : (f : Firsts) (x : Item) → is_layout_default x ≡ false → (b : Bool) → TellsNoWidth (if b then no_alert else with_alert (told_of (restored f x)) (told_of x))
brought f x e true = refl
brought f x e false = both_tell_none (told_of (restored f x)) (told_of x) (told_none (restored f x) (restored_default f x ∙ e)) (told_none x e)

no_default : (a b : Bool) → (a && (b || true)) ≡ false → a ≡ false
no_default false b e = refl
no_default true false e = absurd (let no : true ≡ false = e in cc)
no_default true true e = absurd (let no : true ≡ false = e in cc)

item_none : (e : Trace) (x : Item) → is_changed is_layout_default e x ≡ false → TellsNoWidth (item_raises e x)
item_none new_item x h = told_none x h
item_none (old_item n f m) (Define k c) h = brought f (Define k c) refl (brings_the_same f)
item_none (old_item n f m) (Instance s o) h = brought f (Instance s o) refl (brings_the_same f)
item_none (old_item n f m) (Own p v) h = brought f (Own p v) refl (brings_the_same f)
item_none (old_item n f m) (Default p v) h = by (brings_the_same f) h
  where
    by : (b : Bool) → (lays_out p && (f.is_moved || not b)) ≡ false → TellsNoWidth (if b then no_alert else with_alert (told_of (restored f (Default p v))) (told_of (Default p v)))
    by true h = refl
    by false h = brought f (Default p v) (no_default (lays_out p) f.is_moved h) false
item_none (old_item n f m) (Dynamic t p v) h = brought f (Dynamic t p v) refl (brings_the_same f)

gone_none : (e : Trace) (x : Item) → is_layout_default x ≡ false → TellsNoWidth (gone_raises e x)
gone_none new_item x h = told_none x h
gone_none (old_item n f m) x h = told_none (restored f x) (restored_default f x ∙ h)

items_none : (es : List Trace) (xs : List Item) → any_told (is_changed is_layout_default) es xs ≡ false → TellsNoWidth (all_raise item_raises es xs)
items_none [] xs h = refl
items_none (e ∷ es) [] h = refl
items_none (e ∷ es) (x ∷ xs) h =
    let both = or_parts (is_changed is_layout_default e x) (any_told (is_changed is_layout_default) es xs) h in
    both_tell_none (item_raises e x) (all_raise item_raises es xs) (item_none e x both.0) (items_none es xs both.1)

all_gone_none : (es : List Trace) (xs : List Item) → any_item is_layout_default xs ≡ false → TellsNoWidth (all_raise gone_raises es xs)
all_gone_none [] xs h = refl
all_gone_none (e ∷ es) [] h = refl
all_gone_none (e ∷ es) (x ∷ xs) h =
    let both = or_parts (is_layout_default x) (any_item is_layout_default xs) h in
    both_tell_none (gone_raises e x) (all_raise gone_raises es xs) (gone_none e x both.0) (all_gone_none es xs both.1)

pub no_width_set : (m : Marks) (now : Items) → sets_default m now ≡ false → sets_width m now ≡ false
no_width_set m now e =
    let both = or_parts (any_told (is_changed is_layout_default) (list_of m.traces) (tree.list_of now)) (any_item is_layout_default (tree.list_of m.items)) e in
    both_tell_none (all_raise item_raises (list_of m.traces) (tree.list_of now)) (all_raise gone_raises (list_of m.gone) (tree.list_of m.items))
    (items_none (list_of m.traces) (tree.list_of now) both.0) (all_gone_none (list_of m.gone) (tree.list_of m.items) both.1)
