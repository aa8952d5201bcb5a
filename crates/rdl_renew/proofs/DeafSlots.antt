-- Whether what is kept of an item stays, told by that alone.
use Rattle.std.proofs.Common.{◌≡◌, ℕ, suc, ◌&&◌, ◌||◌, not, Bool, true, false, Option, Some, refl, sym, ap, subst, ◌∙◌}
use Rattle.std.proofs.lemmas.Bool.{and_parts}
use Rattle.rdl_tree.specs.Items.{Items}
use Rattle.rdl_tree.specs.declared.description.Item.{Item}
use Rattle.rdl_tree.specs.declared.description.Item.TheVariants.{Define, Instance, Own, Default, Dynamic}
use Rattle.rdl_tree.specs.declared.description.Of.TheVariants.{Named, Anonymous}
use Rattle.rdl_tree.specs.declared.shell.Kind.{Kind}
use Rattle.rdl_tree.specs.declared.shell.Kind.TheVariants.{Addrmap, Regfile, Reg, Field}
use Rattle.rdl_tree.specs.declared.shell.Shell.{Shell}
use Rattle.rdl_marks.specs.Describes.{IsItem}
use Rattle.rdl_marks.specs.Marks.{Firsts, Marks}
use Rattle.rdl_marks.specs.View.{old_item}
use Rattle.rdl_marks.specs.Was.{trace_of}
use Rattle.rdl_seen.specs.declared.alert.Alert.{Alert}
use Rattle.rdl_seen.specs.Agree.{shown}
use Rattle.rdl_seen.specs.Alert.{reaches, reaches_as, AgreeBut}
use Rattle.rdl_seen.specs.Inside.{Inside, no_instances}
use Rattle.rdl_seen.specs.Layouts.{Laying}
use Rattle.rdl_seen.specs.Meaning.{around_before}
use Rattle.rdl_seen.specs.Names.{class_of, has_class, do_names_meet}
use Rattle.rdl_seen.specs.Node.{Around, node}
use Rattle.rdl_seen.specs.OneByOne.{slot_of_item, instances_before, IsDeafPart}
use Rattle.rdl_seen.specs.Passing.{behind_item}
use Rattle.rdl_seen.specs.PropertySet.{do_properties_meet}
use Rattle.rdl_seen.specs.Slots.{Slot, own_slot, default_slot, dynamic_slot, field_slot, named_slot, Written, type_slot, part_slot, Core, Slots, no_slots, slot, written}
use Rattle.rdl_seen.proofs.Alerts.{unreached_are_known}
use Rattle.rdl_seen.proofs.OneByOne.{slots_are_of_items}
use Rattle.rdl_seen.proofs.Passing.{items_stay, some_same, stands_behind_item}
use Rattle.rdl_renew.specs.AlikeSlots.{tells_of_width}
use Rattle.rdl_renew.specs.Onward.{DiffersNoMoreBehind}
use Rattle.rdl_renew.specs.TakenOver.{IsAsItWas}
use Rattle.rdl_renew.specs.Deaf.{is_deaf_slot, is_first_deaf, SlotsTellDeafness, DeafSlotsAreTakenOver, is_settled_slot, listens_to_nothing, is_settled_component, is_first_settled, SettledSlotsAreDeaf, SettledItemsStay}
use Rattle.rdl_renew.proofs.Alone.{was_false}
use Rattle.rdl_renew.proofs.TakenOver.{same_items_stay, slots_are_taken_over}

part_deaf : (lay : Laying) (x : Alert) (a : Around) (m : Inside) (s : Shell) (k : Kind) (body : Items)
    → is_first_deaf x (slot_of_item lay a m (Instance s (Anonymous (record { kind = k; body = body })))) ≡ true → IsDeafPart k lay x a (record { kind = k; body = body })
part_deaf lay x a m s Addrmap body e = was_false (reaches x (node lay a Addrmap body).core.seen) e
part_deaf lay x a m s Regfile body e = was_false (reaches x (node lay a Regfile body).core.seen) e
part_deaf lay x a m s Reg body e = was_false (reaches x (node lay a Reg body).core.seen) e
part_deaf lay x a m s Field body e = tt

pub slots_tell_deafness : SlotsTellDeafness
slots_tell_deafness lay x a m n (Define name c) e = was_false (reaches x (node lay a c.kind c.body).core.seen) e
slots_tell_deafness lay x a m n (Instance s (Named t)) e = was_false (has_class x.types (class_of t)) e
slots_tell_deafness lay x a m n (Instance s (Anonymous c)) e = part_deaf lay x a m s c.kind c.body e
slots_tell_deafness lay x a m n (Own p v) e = tt
slots_tell_deafness lay x a m n (Default p v) e = tt
slots_tell_deafness lay x a m n (Dynamic t p v) e = absurd cc

pub deaf_slots_are_taken_over : DeafSlotsAreTakenOver
deaf_slots_are_taken_over lay x m old now a b to described ordered tells but i n y s up got h there deaf =
    let was = slots_are_of_items lay a no_instances old n y (same_items_stay m old now i n y described got h) in
    let same : slot_of_item lay (around_before lay n a old) (instances_before lay n a no_instances old) y ≡ s = one (sym was ∙ there) in
    slots_are_taken_over lay x m old now a b to described ordered tells but i n y up got h
    (slots_tell_deafness lay x (around_before lay n a old) (instances_before lay n a no_instances old) (instances_before lay i b no_instances now) y
    (subst (λ z. is_first_deaf x z ≡ true) (sym same) deaf))
    ∙ there
  where
    one : {p q : Slots} → ◌≡◌ {A = Option Slots} (Some p) (Some q) → p ≡ q
    one e = cc

-- ---- Settled ones.

one_settled : (x : Alert) (s : Slot) → is_settled_slot x s ≡ true → is_deaf_slot x s ≡ true
one_settled x own_slot e = refl
one_settled x (default_slot p) e = absurd cc
one_settled x (dynamic_slot v) e = absurd cc
one_settled x (field_slot f) e = refl
one_settled x (named_slot class s) e = e

-- who isn't reached by what is inside types isn't reached without that
less_deep : (deep p q : Bool) → not (p || true && q) ≡ true → not (p || deep && q) ≡ true
less_deep true p q e = e
less_deep false true q e = e
less_deep false false q e = refl

component_deaf : (x : Alert) (w : Written) (c : Core) → listens_to_nothing w x c ≡ true → not (reaches x c.seen) ≡ true
component_deaf x (type_slot class) c e =
    less_deep c.seen.is_assigned (do_properties_meet c.seen.takes x.properties || do_names_meet c.seen.asks x.types) (do_names_meet c.seen.asks x.inside) e
component_deaf x part_slot c e = e

component_settled : (x : Alert) (w : Written) (c : Core) → is_settled_component w x c ≡ true → not (reaches x c.seen) ≡ true
component_settled x w c e = component_deaf x w c (and_parts (not (tells_of_width x)) (listens_to_nothing w x c) e).1

pub settled_slots_are_deaf : SettledSlotsAreDeaf
settled_slots_are_deaf x no_slots e = absurd cc
settled_slots_are_deaf x (slot s rest) e = one_settled x s e
settled_slots_are_deaf x (written w core inside rest) e = component_settled x w core e

-- no more differs behind an item whose slot is settled
differs_no_more : (lay : Laying) (x : Alert) (a b : Around) (m : Inside) (y : Item) → is_first_settled x (slot_of_item lay a m y) ≡ true → AgreeBut x a b
    → AgreeBut x (behind_item lay a y) (behind_item lay b y)
differs_no_more lay x a b m (Define name c) e but =
    let deaf = (and_parts (not (tells_of_width x)) (not (reaches_as true x (node lay a c.kind c.body).core.seen)) e).1 in
    let same = unreached_are_known lay x a b c.kind c.body but (was_false (reaches_as true x (node lay a c.kind c.body).core.seen) deaf) in
    items_stay (Define name c) c lay x a b (λ deep told. ap (shown deep) (sym same)) but
differs_no_more lay x a b m (Instance s of) e but = items_stay (Instance s of) lay x a b but
differs_no_more lay x a b m (Own p v) e but = items_stay (Own p v) lay x a b but
differs_no_more lay x a b m (Default p v) e but = items_stay (Default p v) lay x a b but
differs_no_more lay x a b m (Dynamic t p v) e but = items_stay (Dynamic t p v) lay x a b but

-- and it is no default
defaults_stay : (lay : Laying) (x : Alert) (a b : Around) (m : Inside) (y : Item) → is_first_settled x (slot_of_item lay a m y) ≡ true → (behind_item lay b y).defaults ≡ b.defaults
defaults_stay lay x a b m (Define name c) e = refl
defaults_stay lay x a b m (Instance s of) e = refl
defaults_stay lay x a b m (Own p v) e = refl
defaults_stay lay x a b m (Default p v) e = absurd cc
defaults_stay lay x a b m (Dynamic t p v) e = refl

-- an item that is as it was brings what it brought, if that is as much as is said, and the defaults behind it are those before it
pub same_item_stays : (lay : Laying) (x : Alert) (m : Marks) (old now : Items) (a b : Around) (i n : ℕ) (y : Item) → IsItem n old y → IsItem i now y → IsAsItWas m i n
    → (AgreeBut x (around_before lay n a old) (around_before lay i b now) → AgreeBut x (behind_item lay (around_before lay n a old) y) (behind_item lay (around_before lay i b now) y))
    → (behind_item lay (around_before lay i b now) y).defaults ≡ (around_before lay i b now).defaults
    → DiffersNoMoreBehind lay x m old now a b i × ((around_before lay (suc i) b now).defaults ≡ (around_before lay i b now).defaults)
same_item_stays lay x m old now a b i n y was got h brings defaults = (behind, ap (λ (d : Around). d.defaults) (stands_behind_item lay b now i y got) ∙ defaults)
  where
    c : Around
    c = around_before lay i b now

    before : Around
    before = around_before lay n a old

    behind : (k : ℕ) (firsts : Firsts) (inside : Marks) (z w : Item) → trace_of m i ≡ Some (old_item k firsts inside) → firsts.is_moved ≡ false → IsItem k old z → IsItem i now w
        → AgreeBut x (around_before lay k a old) (around_before lay i b now) → AgreeBut x (behind_item lay (around_before lay k a old) z) (behind_item lay (around_before lay i b now) w)
    behind k firsts inside z w trace stayed is_z is_w but =
        let number : k ≡ n = cc in
        let old_one : IsItem n old z = subst (λ j. IsItem j old z) number is_z in
        let first = some_same z y (sym old_one ∙ was) in
        let second = some_same w y (sym is_w ∙ got) in
        let here = subst (λ j. AgreeBut x (around_before lay j a old) c) number but in
        subst (λ j. AgreeBut x (behind_item lay (around_before lay j a old) z) (behind_item lay c w)) (sym number)
        (subst (λ q. AgreeBut x (behind_item lay before q) (behind_item lay c w)) (sym first)
        (subst (λ q. AgreeBut x (behind_item lay before y) (behind_item lay c q)) (sym second) (brings here)))

pub settled_items_stay : SettledItemsStay
settled_items_stay lay x m old now a b described i n y s got h there settled =
    same_item_stays lay x m old now a b i n y was got h (differs_no_more lay x before c (instances_before lay n a no_instances old) y told)
    (defaults_stay lay x before c (instances_before lay n a no_instances old) y told)
  where
    c : Around
    c = around_before lay i b now

    before : Around
    before = around_before lay n a old

    was : IsItem n old y
    was = same_items_stay m old now i n y described got h

    one : {p q : Slots} → ◌≡◌ {A = Option Slots} (Some p) (Some q) → p ≡ q
    one e = cc

    told : is_first_settled x (slot_of_item lay before (instances_before lay n a no_instances old) y) ≡ true
    told = subst (λ z. is_first_settled x z ≡ true) (sym (one (sym (slots_are_of_items lay a no_instances old n y was) ∙ there))) settled
