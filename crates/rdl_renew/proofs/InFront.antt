-- A dynamic assignment in front of all that differs.
use Rattle.std.proofs.Common.{◌≡◌, ℕ, zero, suc, ◌<◌, ◌≤◌, ◌&&◌, ◌||◌, ◌==◌, not, true, false, List, [], ◌∷◌, ◌++◌, Option, Some, None, refl, sym, ap, subst, ◌∙◌, arith, inr}
use Rattle.std.specs.Prelude.{slice_get, option_map}
use Rattle.std.specs.Int.Bits.{and_zero_r}
use Rattle.std.proofs.lemmas.Bool.{and_parts, eqb-true}
use Rattle.rdl_tree.specs.Items.{Items}
use Rattle.rdl_tree.specs.View as tree
use Rattle.rdl_tree.specs.declared.description.Item.{Item}
use Rattle.rdl_tree.specs.declared.description.Item.TheVariants.{Define, Instance, Own, Default, Dynamic}
use Rattle.rdl_tree.specs.declared.description.Of.{Of}
use Rattle.rdl_tree.specs.declared.description.Of.TheVariants.{Named, Anonymous}
use Rattle.rdl_tree.specs.declared.shell.Kind.{Kind}
use Rattle.rdl_tree.specs.declared.shell.Kind.TheVariants.{Addrmap, Regfile, Reg, Field}
use Rattle.rdl_tree.specs.declared.shell.Shell.{Shell}
use Rattle.rdl_scope.specs.Closed.{lookup}
use Rattle.rdl_marks.specs.Describes.{IsItem}
use Rattle.rdl_marks.specs.Marks.{no_firsts, no_marks}
use Rattle.rdl_marks.specs.View.{Trace, same_item}
use Rattle.rdl_nodes.specs.View.{slots_of}
use Rattle.rdl_nodes.specs.declared.node.Slot.{Slot}
use Rattle.rdl_places.proofs.Reached.{part_within, of_within, instances_behind, none_before, one_behind}
use Rattle.rdl_seen.specs.declared.alert.Alert.{Alert}
use Rattle.rdl_seen.specs.declared.seen.Seen.{Seen}
use Rattle.rdl_seen.specs.Agree.{shown}
use Rattle.rdl_seen.specs.Alert.{no_alert, is_silent, reaches_as, AgreeBut}
use Rattle.rdl_seen.specs.Inside.{Inside, no_instances, with_instance, asked, verdict_of}
use Rattle.rdl_seen.specs.Layouts.{Laying}
use Rattle.rdl_seen.specs.Clean.{kind_in}
use Rattle.rdl_seen.specs.Meaning.{around_before, kept_at}
use Rattle.rdl_seen.specs.Names.{is_no_name}
use Rattle.rdl_seen.specs.Node.{Known, Around, node, body_of, within_type}
use Rattle.rdl_seen.specs.OneByOne.{slot_at, slot_of_item, instances_before, IsDeaf}
use Rattle.rdl_seen.specs.Passing.{behind_item}
use Rattle.rdl_seen.specs.PropertySet.{is_no_property}
use Rattle.rdl_seen.specs.Slots.{Slots, no_slots, slot, written, Node}
use Rattle.rdl_seen.proofs.Alerts.{unreached_are_known}
use Rattle.rdl_seen.proofs.OneByOne.{slots_are_of_items}
use Rattle.rdl_renew.specs.declared.done.Done.{Done}
use Rattle.rdl_renew.specs.declared.done.Reach.{Reach}
use Rattle.rdl_renew.specs.AlikeSlots.{tells_of_width}
use Rattle.rdl_renew.specs.Along.{AreUntouched}
use Rattle.rdl_renew.specs.Counting.{CountsItem}
use Rattle.rdl_renew.specs.Fronts.{front_of, fronts}
use Rattle.rdl_renew.specs.InFront.{is_first_dynamic, IsInFront}
use Rattle.rdl_renew.specs.Onward.{DiffersNoMoreBehind}
use Rattle.rdl_renew.specs.Renewing.{Renewing, AreDone, IsNext}
use Rattle.rdl_renew.specs.StayClean.{LeadsToSameKind}
use Rattle.rdl_renew.specs.StillClean.{IsCleanStill}
use Rattle.rdl_renew.proofs.Alone.{none_clash}
use Rattle.rdl_renew.proofs.CountSteps.{passed_counted}
use Rattle.rdl_renew.proofs.DeafSlots.{same_item_stays}
use Rattle.rdl_renew.proofs.FrontSlots.{fronts_are_slots, got_front}
use Rattle.rdl_renew.proofs.OneDone.{around_here, done_many, one_done}
use Rattle.rdl_renew.proofs.Raises.{with_none}
use Rattle.rdl_renew.proofs.SideBySide.{no_more_differs_before}
use Rattle.rdl_renew.proofs.StayClean.{clean_items_stay_clean}
use Rattle.rdl_renew.proofs.TakenOver.{same_items_stay, slots_are_taken_over}

-- ---- An alert that tells of nothing.

pub silent_is : (x : Alert) → is_silent x ≡ true → x ≡ no_alert
silent_is x e =
    let outer = and_parts (is_no_property x.properties && is_no_name x.types) (is_no_name x.inside) e in
    let inner = and_parts (is_no_property x.properties) (is_no_name x.types) outer.0 in
    let properties = eqb-true x.properties.bits 0 inner.0 in
    let types = eqb-true x.types.bits 0 inner.1 in
    let inside = eqb-true x.inside.bits 0 outer.1 in
    λ j. record { properties = record { bits = properties j }; types = record { bits = types j }; inside = record { bits = inside j } }

no_one_listens : (s : Seen) → reaches_as true no_alert s ≡ false
no_one_listens s = λ j. not (and_zero_r s.takes.bits j == 0) || not (and_zero_r s.asks.bits j == 0) || true && not (and_zero_r s.asks.bits j == 0)

-- ---- Instances before items that see the same.

all_shown : (o p : Option Known) → option_map (shown true) o ≡ option_map (shown true) p → o ≡ p
all_shown None None e = refl
all_shown None (Some k) e = absurd cc
all_shown (Some k) None e = absurd cc
all_shown (Some k) (Some l) e = e

part_same : (lay : Laying) (a b : Around) (k : Kind) (body : Items) → AgreeBut no_alert a b → part_within lay a k body ≡ part_within lay b k body
part_same lay a b Addrmap body but = ap (λ (k : Known). k.within) (sym (unreached_are_known lay no_alert a b Addrmap body but (no_one_listens (node lay a Addrmap body).core.seen)))
part_same lay a b Regfile body but = ap (λ (k : Known). k.within) (sym (unreached_are_known lay no_alert a b Regfile body but (no_one_listens (node lay a Regfile body).core.seen)))
part_same lay a b Reg body but = ap (λ (k : Known). k.within) (sym (unreached_are_known lay no_alert a b Reg body but (no_one_listens (node lay a Reg body).core.seen)))
part_same lay a b Field body but = refl

inside_same : (lay : Laying) (a b : Around) (of : Of) → AgreeBut no_alert a b → of_within lay a of ≡ of_within lay b of
inside_same lay a b (Named t) but = ap within_type (all_shown (lookup t a.types) (lookup t b.types) (but.types true t refl))
inside_same lay a b (Anonymous c) but = part_same lay a b c.kind c.body but

one_same : (lay : Laying) (a b : Around) (y : Item) (m : Inside) → AgreeBut no_alert a b → instances_behind lay a y m ≡ instances_behind lay b y m
one_same lay a b (Define name c) m but = refl
one_same lay a b (Instance s of) m but = ap (λ w. with_instance s.name w m) (inside_same lay a b of but)
one_same lay a b (Own p v) m but = refl
one_same lay a b (Default p v) m but = refl
one_same lay a b (Dynamic t p v) m but = refl

-- so many items are the same in both bodies, and see the same
pub record AreSame (lay : Laying) (old now : Items) (a b : Around) (count : ℕ) : Type 0 where
  pub items : (j : ℕ) → j < count → (y : Item) × IsItem j old y × IsItem j now y
  pub agree : (j : ℕ) → j < count → AgreeBut no_alert (around_before lay j a old) (around_before lay j b now)

fewer : (lay : Laying) (old now : Items) (a b : Around) (count : ℕ) → AreSame lay old now a b (suc count) → AreSame lay old now a b count
fewer lay old now a b count same = record { items = λ j l. same.items j (omega (arith, l)); agree = λ j l. same.agree j (omega (arith, l)) }

pub instances_same : (lay : Laying) (old now : Items) (a b : Around) (count : ℕ) → AreSame lay old now a b count → instances_before lay count a no_instances old ≡ instances_before lay count b no_instances now
instances_same lay old now a b zero same = none_before lay a no_instances old ∙ sym (none_before lay b no_instances now)
instances_same lay old now a b (suc n) same =
    let low : n < suc n = omega arith in
    let y = (same.items n low).0 in
    let before = instances_same lay old now a b n (fewer lay old now a b n same) in
    one_behind lay a no_instances old n y (same.items n low).1
    ∙ (ap (instances_behind lay (around_before lay n a old) y) before
    ∙ (one_same lay (around_before lay n a old) (around_before lay n b now) y (instances_before lay n b no_instances now) (same.agree n low) ∙ sym (one_behind lay b no_instances now n y (same.items n low).2)))

-- ---- A dynamic assignment among them.

no_part : {A : Type 0} (lay : Laying) (a : Around) (m : Inside) (s : Shell) (k : Kind) (body : Items)
    → is_first_dynamic (slot_of_item lay a m (Instance s (Anonymous (record { kind = k; body = body })))) ≡ true → A
no_part lay a m s Addrmap body e = absurd cc
no_part lay a m s Regfile body e = absurd cc
no_part lay a m s Reg body e = absurd cc
no_part lay a m s Field body e = absurd cc

deaf_in_front : (lay : Laying) (x : Alert) (a : Around) (m n : Inside) (y : Item) → is_first_dynamic (slot_of_item lay a m y) ≡ true → m ≡ n → IsDeaf lay x a m n y
deaf_in_front lay x a m n (Define name c) e same = absurd cc
deaf_in_front lay x a m n (Instance s (Named t)) e same = absurd cc
deaf_in_front lay x a m n (Instance s (Anonymous c)) e same = no_part lay a m s c.kind c.body e
deaf_in_front lay x a m n (Own p v) e same = absurd cc
deaf_in_front lay x a m n (Default p v) e same = absurd cc
deaf_in_front lay x a m n (Dynamic t p v) e same = ap (verdict_of (asked p v) t) same

same_kind_in_front : (lay : Laying) (a : Around) (m n : Inside) (y : Item) → is_first_dynamic (slot_of_item lay a m y) ≡ true → m ≡ n → LeadsToSameKind m n y
same_kind_in_front lay a m n (Define name c) e same = tt
same_kind_in_front lay a m n (Instance s of) e same = tt
same_kind_in_front lay a m n (Own p v) e same = tt
same_kind_in_front lay a m n (Default p v) e same = tt
same_kind_in_front lay a m n (Dynamic t p v) e same = ap (kind_in t) same

brings_nothing : (lay : Laying) (x : Alert) (a b c : Around) (m : Inside) (y : Item) → is_first_dynamic (slot_of_item lay a m y) ≡ true
    → (AgreeBut x b c → AgreeBut x (behind_item lay b y) (behind_item lay c y)) × ((behind_item lay c y).defaults ≡ c.defaults)
brings_nothing lay x a b c m (Define name k) e = absurd cc
brings_nothing lay x a b c m (Instance s of) e = (λ but. but, refl)
brings_nothing lay x a b c m (Own p v) e = (λ but. but, refl)
brings_nothing lay x a b c m (Default p v) e = absurd cc
brings_nothing lay x a b c m (Dynamic t p v) e = (λ but. but, refl)

no_node : (s : Slots) (k : Node) → is_first_dynamic s ≡ true → kept_at 0 s ≡ Some k → ⊥
no_node no_slots k e f = absurd cc
no_node (slot s rest) k e f = absurd cc
no_node (written w core inside rest) k e f = absurd cc

earlier : (xs : List Item) (n j : ℕ) (x : Item) → slice_get xs n ≡ Some x → j < n → (y : Item) × (slice_get xs j ≡ Some y)
earlier [] n j x got l = absurd cc
earlier (z ∷ xs) zero j x got l = absurd (omega (arith, l))
earlier (z ∷ xs) (suc n) zero x got l = (z, refl)
earlier (z ∷ xs) (suc n) (suc j) x got l = earlier xs n j x got (omega (arith, l))

one_trace : {p q : Trace} → ◌≡◌ {A = Option Trace} (Some p) (Some q) → p ≡ q
one_trace e = cc

same_number : (k n : ℕ) → same_item k ≡ same_item n → k ≡ n
same_number k n e = cc

one_slot : {p q : Slots} → ◌≡◌ {A = Option Slots} (Some p) (Some q) → p ≡ q
one_slot e = cc

module _ (lay : Laying) (r : Renewing) (n : ℕ) (d : Done) (y : Item) (number front : ℕ) (s : Slot) (xs : List Slot) (next : IsNext lay r n d y (same_item number)) (of : r.slots ≡ slots_of xs)
    (kept : slice_get xs number ≡ Some s) (h : IsInFront d front s) (ahead : AreUntouched r.marks front) where
  abbrev b : Around
  b = around_here lay r

  abbrev x : Alert
  x = d.reach.alert

  low : n < front
  low = let many = done_many lay r n d next.done in let l = h.within in omega (arith, many, l)

  number_is : number ≡ n
  number_is = same_number number n (one_trace (sym next.told ∙ ahead n low))

  agree : (j : ℕ) (z : Item) → j ≤ n → IsItem j r.now z → AgreeBut no_alert (around_before lay j r.saw r.old) (around_before lay j b r.now)
  agree j z l got =
      subst (λ q. AgreeBut q (around_before lay j r.saw r.old) (around_before lay j b r.now)) (silent_is x h.silent)
      (no_more_differs_before lay x r.marks r.old r.now r.saw b n next.became.describes next.became.in_order next.done.tells next.done.agree j j no_firsts no_marks z l got
      (ahead j (omega (arith, l, low))) refl)

  same : AreSame lay r.old r.now r.saw b n
  same = record {
    items = λ j l.
        let z = earlier (tree.list_of r.now) n j y next.there l in
        (z.0, same_items_stay r.marks r.old r.now j j z.0 next.became.describes z.1 (ahead j (omega (arith, l, low))), z.1);
    agree = λ j l. let z = earlier (tree.list_of r.now) n j y next.there l in agree j z.0 (omega (arith, l)) z.1;
  }

  instances : instances_before lay number r.saw no_instances r.old ≡ instances_before lay n b no_instances r.now
  instances = ap (λ k. instances_before lay k r.saw no_instances r.old) number_is ∙ instances_same lay r.old r.now r.saw b n same

  was : IsItem number r.old y
  was = same_items_stay r.marks r.old r.now n number y next.became.describes next.there next.told

  there : slot_at number (body_of lay r.saw r.old).slots ≡ Some (front_of s)
  there = ap (slot_at number) (sym next.became.kept ∙ of) ∙ (fronts_are_slots xs number ∙ got_front xs number s kept)

  dynamic : is_first_dynamic (slot_of_item lay (around_before lay number r.saw r.old) (instances_before lay number r.saw no_instances r.old) y) ≡ true
  dynamic = ap is_first_dynamic (one_slot (sym (slots_are_of_items lay r.saw no_instances r.old number y was) ∙ there)) ∙ h.dynamic

  deaf : IsDeaf lay x (around_before lay number r.saw r.old) (instances_before lay number r.saw no_instances r.old) (instances_before lay n b no_instances r.now) y
  deaf = deaf_in_front lay x (around_before lay number r.saw r.old) (instances_before lay number r.saw no_instances r.old) (instances_before lay n b no_instances r.now) y dynamic instances

  -- its slot is the old one, and nothing differs behind it
  pub front_done : (e : Done) → fronts e.slots.items ≡ fronts d.slots.items ++ front_of s ∷ [] → e.reach ≡ d.reach → AreDone lay r (suc n) e
  front_done e slots reach =
      one_done lay r n d e (front_of s) no_alert next.became next.done slots
      (slots_are_taken_over lay x r.marks r.old r.now r.saw b n next.became.describes next.became.in_order next.done.tells next.done.agree n number y (let l : n ≤ n = omega arith in l) next.there next.told deaf ∙ there)
      (ap (λ (z : Reach). z.defaults) reach ∙ (next.done.defaults ∙ sym stay.1))
      (ap (λ (z : Reach). z.alert) reach ∙ sym (with_none x))
      (subst (λ z. DiffersNoMoreBehind lay z r.marks r.old r.now r.saw b n) (sym (with_none x)) stay.0)
    where
      nothing : (AgreeBut x (around_before lay number r.saw r.old) (around_before lay n b r.now) → AgreeBut x (behind_item lay (around_before lay number r.saw r.old) y) (behind_item lay (around_before lay n b r.now) y))
          × ((behind_item lay (around_before lay n b r.now) y).defaults ≡ (around_before lay n b r.now).defaults)
      nothing = brings_nothing lay x (around_before lay number r.saw r.old) (around_before lay number r.saw r.old) (around_before lay n b r.now) (instances_before lay number r.saw no_instances r.old) y dynamic

      stay : DiffersNoMoreBehind lay x r.marks r.old r.now r.saw b n × ((around_before lay (suc n) b r.now).defaults ≡ (around_before lay n b r.now).defaults)
      stay = same_item_stays lay x r.marks r.old r.now r.saw b n number y was next.there next.told nothing.0 nothing.1

  -- it has no fault, where it had none
  pub front_clean : IsCleanStill lay r n y
  front_clean = λ clean alone.
      clean_items_stay_clean lay x r.marks r.old r.now r.saw b r.around n next.became.describes next.became.in_order next.done.tells next.done.agree clean n number y (let l : n ≤ n = omega arith in l)
      next.there next.told deaf
      (same_kind_in_front lay (around_before lay number r.saw r.old) (instances_before lay number r.saw no_instances r.old) (instances_before lay n b no_instances r.now) y dynamic instances)
      (λ j z l here. inr (none_clash r.now alone j n z y l here next.there))

  -- and nothing is placed for it
  pub front_counted : (e : Done) (a : ℕ) → AreDone lay r (suc n) e → fronts e.slots.items ≡ fronts d.slots.items ++ front_of s ∷ [] → CountsItem lay r (tells_of_width x) n (same_item number) y a a
  front_counted e a done more = passed_counted lay r n d e y number s xs a next of kept (λ k is. absurd (no_node (front_of s) k h.dynamic is)) done more
