-- Items that stand alone in their body have the faults that they have by themselves, and settled ones still have none.
use Rattle.std.proofs.Common.{◌≡◌, Bool, true, false, Option, Some, refl, sym, ap, subst, ◌∙◌, inr}
use Rattle.std.specs.Prelude.{◌&&◌, not}
use Rattle.std.specs.Option.{is_some, is_none}
use Rattle.rdl_tree.specs.Properties.{property_of}
use Rattle.rdl_tree.specs.declared.description.Item.{Item}
use Rattle.rdl_tree.specs.declared.description.Item.TheVariants.{Define, Instance, Own, Default, Dynamic}
use Rattle.rdl_tree.specs.declared.description.Of.TheVariants.{Named, Anonymous}
use Rattle.rdl_scope.specs.ItemFaults.{define_fault, instance_fault, own_fault, default_fault, dynamic_fault, excluded_by, reached_before}
use Rattle.rdl_scope.specs.Target.{instance_before}
use Rattle.rdl_scope.specs.Types.{last_definition}
use Rattle.rdl_scope.specs.Value.{is_false, last_default, own_before}
use Rattle.rdl_places.proofs.CleanItems.{bodies_are_clean_by_items}
use Rattle.rdl_seen.specs.declared.alert.Alert.{Alert}
use Rattle.rdl_seen.specs.Clean.{kind_in, kind_of}
use Rattle.rdl_seen.specs.Inside.{Inside, no_instances}
use Rattle.rdl_seen.specs.Layouts.{Laying}
use Rattle.rdl_seen.specs.Meaning.{around_before}
use Rattle.rdl_seen.specs.Node.{Around}
use Rattle.rdl_seen.specs.OneByOne.{slot_of_item, instances_before}
use Rattle.rdl_seen.specs.Slots.{Slots}
use Rattle.rdl_seen.proofs.OneByOne.{slots_are_of_items}
use Rattle.rdl_renew.specs.Deaf.{is_first_settled}
use Rattle.rdl_renew.specs.Judged.{LoneFaultsAreTheirs, LoneItemsAreClean, LoneBodiesAreClean, SettledItemsStayClean}
use Rattle.rdl_renew.specs.StayClean.{LeadsToSameKind}
use Rattle.rdl_renew.proofs.Alone.{two_true, was_false, none_clash}
use Rattle.rdl_renew.proofs.DeafSlots.{slots_tell_deafness, settled_slots_are_deaf}
use Rattle.rdl_renew.proofs.StayClean.{own_same, clean_items_stay_clean}
use Rattle.rdl_renew.proofs.TakenOver.{same_items_stay}

never : (b : Bool) → (b && false) ≡ false
never true = refl
never false = refl

pub lone_faults_are_theirs : LoneFaultsAreTheirs
lone_faults_are_theirs lay a around body i (Define name c) alone =
    ap (λ (z : Bool). define_fault around z c.kind) (was_false (is_some (last_definition name i body)) alone)
lone_faults_are_theirs lay a around body i (Instance s (Named t)) alone =
    ap (λ (z : Bool). instance_fault around z s (kind_of t (around_before lay i a body))) (was_false (is_some (instance_before s.name i body)) alone)
lone_faults_are_theirs lay a around body i (Instance s (Anonymous c)) alone =
    ap (λ (z : Bool). instance_fault around z s (Some c.kind)) (was_false (is_some (instance_before s.name i body)) alone)
lone_faults_are_theirs lay a around body i (Own p v) alone =
    let excluded = excluded_by i body (property_of p) in
    let two = two_true (not (is_some (own_before p i body))) (not (not (is_false v) && excluded)) alone in
    ap (λ (z : Bool). own_fault around z excluded (property_of p) v) (was_false (is_some (own_before p i body)) two.0)
    ∙ own_same around excluded false (property_of p) v (was_false (not (is_false v) && excluded) two.1 ∙ sym (never (not (is_false v))))
lone_faults_are_theirs lay a around body i (Default p v) alone =
    ap (λ (z : Bool). default_fault z (property_of p) v) (was_false (is_some (last_default p i body)) alone)
lone_faults_are_theirs lay a around body i (Dynamic t p v) alone =
    ap (λ (z : Bool). dynamic_fault z (property_of p) v (kind_in t (instances_before lay i a no_instances body))) (was_false (reached_before t p i body) alone)

pub lone_items_are_clean : LoneItemsAreClean
lone_items_are_clean lay a around body i y alone clean = (ap (λ f. is_none f) (lone_faults_are_theirs lay a around body i y alone) ∙ clean.0, clean.1)

pub lone_bodies_are_clean : LoneBodiesAreClean
lone_bodies_are_clean lay a around body alone each =
    bodies_are_clean_by_items lay a around body (λ i y got. lone_items_are_clean lay a around body i y (alone i y got) (each i y got))

-- ---- Settled ones.

-- a dynamic assignment isn't settled
leads_the_same : (lay : Laying) (x : Alert) (a : Around) (m n : Inside) (y : Item) → is_first_settled x (slot_of_item lay a m y) ≡ true → LeadsToSameKind m n y
leads_the_same lay x a m n (Define name c) e = tt
leads_the_same lay x a m n (Instance s of) e = tt
leads_the_same lay x a m n (Own p v) e = tt
leads_the_same lay x a m n (Default p v) e = tt
leads_the_same lay x a m n (Dynamic t p v) e = absurd cc

one_slot : {p q : Slots} → ◌≡◌ {A = Option Slots} (Some p) (Some q) → p ≡ q
one_slot e = cc

pub settled_items_stay_clean : SettledItemsStayClean
settled_items_stay_clean lay x m old now a b around to described ordered tells but clean alone i n y s up got h there settled =
    let before = around_before lay n a old in
    let behind = instances_before lay n a no_instances old in
    let now_behind = instances_before lay i b no_instances now in
    let was = slots_are_of_items lay a no_instances old n y (same_items_stay m old now i n y described got h) in
    let same : slot_of_item lay before behind y ≡ s = one_slot (sym was ∙ there) in
    let told : is_first_settled x (slot_of_item lay before behind y) ≡ true = subst (λ z. is_first_settled x z ≡ true) (sym same) settled in
    clean_items_stay_clean lay x m old now a b around to described ordered tells but clean i n y up got h
    (slots_tell_deafness lay x before behind now_behind y (settled_slots_are_deaf x (slot_of_item lay before behind y) told))
    (leads_the_same lay x before behind now_behind y told) (λ j z l here. inr (none_clash now alone j i z y l here got))
