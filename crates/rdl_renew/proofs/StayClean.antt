-- The items of a body that stayed as they were, and had no fault, still have none.
use Rattle.std.proofs.Common.{◌≡◌, ℕ, suc, Bool, true, false, List, [], ◌∷◌, Option, Some, None, option_map, refl, sym, ap, ◌∙◌, ◌⊎◌, inl, inr}
use Rattle.std.specs.Prelude.{◌&&◌, not}
use Rattle.std.specs.Option.{is_some, is_none}
use Rattle.rdl_tree.specs.Component.{holder_kind}
use Rattle.rdl_tree.specs.Items.{Items, no_items, plain, holder, named, own, default, dynamic, Holder, define, anonymous}
use Rattle.rdl_tree.specs.Properties.{property_of, takes}
use Rattle.rdl_tree.specs.declared.description.Item.{Item}
use Rattle.rdl_tree.specs.declared.description.Item.TheVariants.{Define, Instance, Own, Default, Dynamic}
use Rattle.rdl_tree.specs.declared.description.Of.TheVariants.{Named, Anonymous}
use Rattle.rdl_tree.specs.declared.fault.FaultKind.{FaultKind}
use Rattle.rdl_tree.specs.declared.fault.FaultKind.TheVariants.{AssignedTwice, Exclusive, NotOfKind, WrongValue}
use Rattle.rdl_tree.specs.declared.property.Property.{Property}
use Rattle.rdl_tree.specs.declared.shell.Kind.{Kind}
use Rattle.rdl_tree.specs.declared.shell.Kind.TheVariants.{Addrmap, Regfile, Reg, Field}
use Rattle.rdl_tree.specs.declared.shell.Shell.{Shell}
use Rattle.rdl_tree.specs.declared.value.Value.{Value}
use Rattle.rdl_scope.specs.Closed.{lookup}
use Rattle.rdl_scope.specs.ItemFaults.{define_fault, instance_fault, own_fault, default_fault, dynamic_fault, excluded_by, first_of, is_of, reached_before}
use Rattle.rdl_scope.specs.Target.{instance_before}
use Rattle.rdl_scope.specs.Types.{last_definition}
use Rattle.rdl_scope.specs.Value.{is_false, last_default, own_before}
use Rattle.rdl_seen.specs.declared.alert.Alert.{Alert}
use Rattle.rdl_seen.specs.declared.seen.Seen.{Seen}
use Rattle.rdl_seen.specs.Alert.{AgreeBut}
use Rattle.rdl_seen.specs.Clean.{are_clean, is_clean, kind_of, plain_fault, holder_fault}
use Rattle.rdl_seen.specs.Inside.{Inside, no_instances}
use Rattle.rdl_seen.specs.Layouts.{Laying}
use Rattle.rdl_seen.specs.Meaning.{around_before}
use Rattle.rdl_seen.specs.Names.{class_of, has_class}
use Rattle.rdl_seen.specs.Node.{Known, Around, after_plain, after_holder, plain_instances, holder_instances, known}
use Rattle.rdl_seen.specs.OneByOne.{instances_before, IsDeaf, IsDeafPart}
use Rattle.rdl_seen.proofs.Alerts.{unreached_are_kept, both_lack}
use Rattle.rdl_seen.proofs.Around.{same_seen}
use Rattle.rdl_marks.specs.Marks.{Marks, no_firsts, no_marks}
use Rattle.rdl_renew.specs.Alone.{stands_alone}
use Rattle.rdl_places.specs.Judged.{item_fault}
use Rattle.rdl_places.specs.ScopeLaws.{IsCleanInside}
use Rattle.rdl_renew.specs.StayClean.{LeadsToSameKind, CleanItemsStayClean}
use Rattle.rdl_renew.proofs.Alone.{two_true, and_true, was_false, clean_stand_alone, stands_alone_still}
use Rattle.rdl_places.proofs.CleanItems.{items_are_clean_in_bodies}
use Rattle.rdl_renew.proofs.SideBySide.{no_more_differs_before}
use Rattle.rdl_renew.specs.Alone.{clashes}
use Rattle.rdl_renew.specs.TakenOver.{IsAsItWas, IsAsItWasOutside}
use Rattle.rdl_renew.proofs.TakenOver.{same_items_stay}

-- ---- Faults of one item, which stands alone in both bodies.

-- a body of a field that has no fault holds what sees nothing
no_holder : (body : Items) (n : ℕ) (h : Holder) → is_none (holder_fault (Some Field) body n h) ≡ true → ⊥
unfolding define_fault instance_fault
no_holder body n (define m k) e = by (is_some (last_definition m n body)) e
  where
    by : (twice : Bool) → is_none (define_fault (Some Field) twice k) ≡ true → ⊥
    by true g = absurd cc
    by false g = absurd cc
no_holder body n (anonymous s k) e = by (is_some (instance_before s.name n body)) e
  where
    by : (twice : Bool) → is_none (instance_fault (Some Field) twice s (Some k)) ≡ true → ⊥
    by true g = absurd cc
    by false g = absurd cc

no_named : (twice : Bool) (s : Shell) (o : Option Kind) → is_none (instance_fault (Some Field) twice s o) ≡ true → ⊥
unfolding instance_fault
no_named true s None e = absurd cc
no_named true s (Some k) e = absurd cc
no_named false s None e = absurd cc
no_named false s (Some k) e = absurd cc

field_stays : (lay : Laying) (a b : Around) (body : Items) (n : ℕ) (t : Items) → are_clean lay a (Some Field) body n no_instances t ≡ true → are_clean lay b (Some Field) body n no_instances t ≡ true
field_stays lay a b body n no_items e = refl
field_stays lay a b body n (plain (named s t) rest) e =
    absurd
    (no_named (is_some (instance_before s.name n body)) s (kind_of t a)
    (two_true (is_none (plain_fault a (Some Field) body n no_instances (named s t))) (are_clean lay a (Some Field) body (suc n) (plain_instances a (named s t) no_instances) rest) e).0)
field_stays lay a b body n (plain (own p v) rest) e =
    let two = two_true (is_none (plain_fault a (Some Field) body n no_instances (own p v))) (are_clean lay a (Some Field) body (suc n) no_instances rest) e in
    and_true (is_none (plain_fault b (Some Field) body n no_instances (own p v))) (are_clean lay b (Some Field) body (suc n) no_instances rest) two.0
    (field_stays lay a b body (suc n) rest two.1)
field_stays lay a b body n (plain (default p v) rest) e =
    let two = two_true (is_none (plain_fault a (Some Field) body n no_instances (default p v))) (are_clean lay (after_plain (default p v) a) (Some Field) body (suc n) no_instances rest) e in
    and_true (is_none (plain_fault b (Some Field) body n no_instances (default p v))) (are_clean lay (after_plain (default p v) b) (Some Field) body (suc n) no_instances rest) two.0
    (field_stays lay (after_plain (default p v) a) (after_plain (default p v) b) body (suc n) rest two.1)
field_stays lay a b body n (plain (dynamic t p v) rest) e =
    let two = two_true (is_none (plain_fault a (Some Field) body n no_instances (dynamic t p v))) (are_clean lay a (Some Field) body (suc n) no_instances rest) e in
    and_true (is_none (plain_fault b (Some Field) body n no_instances (dynamic t p v))) (are_clean lay b (Some Field) body (suc n) no_instances rest) two.0
    (field_stays lay a b body (suc n) rest two.1)
field_stays lay a b body n (holder h inner rest) e =
    let c = known lay a (holder_kind h) inner in
    absurd
    (no_holder body n h
    (two_true (is_none (holder_fault (Some Field) body n h))
    (are_clean lay a (Some (holder_kind h)) inner 0 no_instances inner && are_clean lay (after_holder h c a) (Some Field) body (suc n) (holder_instances h c no_instances) rest) e).0)

-- the fault of an item asks of the items before it no more than whether it stands alone
pub own_same : (around : Option Kind) (excluded other : Bool) (o : Option Property) (v : Value) → (not (is_false v) && excluded) ≡ (not (is_false v) && other) → own_fault around false excluded o v ≡ own_fault around false other o v
unfolding own_fault
own_same around excluded other None v e = refl
own_same around excluded other (Some p) v e = λ i. own_by (is_of around p) (takes p v) (e i)
  where
    own_by : Bool → Bool → Bool → Option FaultKind
    own_by of fits ex = first_of ((not of, NotOfKind) ∷ (not fits, WrongValue) ∷ (false, AssignedTwice) ∷ (ex, Exclusive) ∷ [])

-- two tests that are both false
both_false : (a b : Bool) → a ≡ false → b ≡ false → a ≡ b
both_false a b e g = e ∙ sym g

-- the same kinds are seen
same_kind : (o p : Option Known) → option_map (λ (k : Known). k.seen) o ≡ option_map (λ (k : Known). k.seen) p → option_map (λ (k : Known). k.seen.kind) o ≡ option_map (λ (k : Known). k.seen.kind) p
same_kind None None e = refl
same_kind None (Some k) e = absurd cc
same_kind (Some k) None e = absurd cc
same_kind (Some k) (Some l) e = let same : k.seen ≡ l.seen = cc in ap (λ (s : Seen). Some s.kind) same

no_inside : (z : Bool) → (false && z) ≡ false
no_inside z = refl

-- it has no fault, nor has any inside it
abbrev IsCleanItem : Laying → Around → Option Kind → (body : Items) → ℕ → Inside → Item → Type 0
IsCleanItem lay a around body n before y = (is_none (item_fault a around body n before y) ≡ true) × IsCleanInside lay a y

-- of one item, in the two bodies
module _ (lay : Laying) (x : Alert) (around : Option Kind) (old now : Items) (a b : Around) (m w : Inside) (but : AgreeBut x a b) where
  kinds_stay : (t : List ℕ) → has_class x.types (class_of t) ≡ false → kind_of t b ≡ kind_of t a
  kinds_stay t deaf =
      let found = but.types false t (both_lack (has_class x.types (class_of t)) (false && has_class x.inside (class_of t)) deaf (no_inside (has_class x.inside (class_of t)))) in
      sym (same_kind (lookup t a.types) (lookup t b.types) (same_seen false (lookup t a.types) (lookup t b.types) found))

  inside_stays : (k : Kind) (body : Items) → IsDeafPart k lay x a (record { kind = k; body = body }) → is_clean lay a k body ≡ true → is_clean lay b k body ≡ true
  inside_stays Addrmap body deaf e = (unreached_are_kept lay x a b Addrmap body but deaf).1 ∙ e
  inside_stays Regfile body deaf e = (unreached_are_kept lay x a b Regfile body but deaf).1 ∙ e
  inside_stays Reg body deaf e = (unreached_are_kept lay x a b Reg body but deaf).1 ∙ e
  inside_stays Field body deaf e = field_stays lay a b body 0 body e

  -- it stands alone in both
  item_stays : (n i : ℕ) (y : Item) → stands_alone old n y ≡ true → stands_alone now i y ≡ true → IsDeaf lay x a m w y → LeadsToSameKind m w y → IsCleanItem lay a around old n m y
      → IsCleanItem lay b around now i w y
  item_stays n i (Define name c) was is deaf leads e =
      let alone = both_false (is_some (last_definition name i now)) (is_some (last_definition name n old)) (was_false (is_some (last_definition name i now)) is) (was_false (is_some (last_definition name n old)) was) in
      (ap (λ (z : Bool). is_none (define_fault around z c.kind)) alone ∙ e.0, (unreached_are_kept lay x a b c.kind c.body but deaf).1 ∙ e.1)
  item_stays n i (Instance s (Named t)) was is deaf leads e =
      let alone = both_false (is_some (instance_before s.name i now)) (is_some (instance_before s.name n old)) (was_false (is_some (instance_before s.name i now)) is) (was_false (is_some (instance_before s.name n old)) was) in
      let kinds = kinds_stay t deaf in
      ((λ j. is_none (instance_fault around (alone j) s (kinds j))) ∙ e.0, tt)
  item_stays n i (Instance s (Anonymous c)) was is deaf leads e =
      let alone = both_false (is_some (instance_before s.name i now)) (is_some (instance_before s.name n old)) (was_false (is_some (instance_before s.name i now)) is) (was_false (is_some (instance_before s.name n old)) was) in
      (ap (λ (z : Bool). is_none (instance_fault around z s (Some c.kind))) alone ∙ e.0, inside_stays c.kind c.body deaf e.1)
  item_stays n i (Own p v) was is deaf leads e =
      let first = two_true (not (is_some (own_before p n old))) (not (not (is_false v) && excluded_by n old (property_of p))) was in
      let second = two_true (not (is_some (own_before p i now))) (not (not (is_false v) && excluded_by i now (property_of p))) is in
      let none_now = was_false (is_some (own_before p i now)) second.0 in
      let none_old = was_false (is_some (own_before p n old)) first.0 in
      let same =
      both_false (not (is_false v) && excluded_by i now (property_of p)) (not (is_false v) && excluded_by n old (property_of p))
      (was_false (not (is_false v) && excluded_by i now (property_of p)) second.1) (was_false (not (is_false v) && excluded_by n old (property_of p)) first.1) in (
        ap (λ (z : Bool). is_none (own_fault around z (excluded_by i now (property_of p)) (property_of p) v)) none_now
            ∙ (ap (λ o. is_none o) (own_same around (excluded_by i now (property_of p)) (excluded_by n old (property_of p)) (property_of p) v same)
            ∙ (ap (λ (z : Bool). is_none (own_fault around z (excluded_by n old (property_of p)) (property_of p) v)) (sym none_old) ∙ e.0)),
        tt,
      )
  item_stays n i (Default p v) was is deaf leads e =
      let alone = both_false (is_some (last_default p i now)) (is_some (last_default p n old)) (was_false (is_some (last_default p i now)) is) (was_false (is_some (last_default p n old)) was) in
      (ap (λ (z : Bool). is_none (default_fault z (property_of p) v)) alone ∙ e.0, tt)
  item_stays n i (Dynamic t p v) was is deaf leads e =
      let alone = both_false (reached_before t p i now) (reached_before t p n old) (was_false (reached_before t p i now) is) (was_false (reached_before t p n old) was) in
      ((λ j. is_none (dynamic_fault (alone j) (property_of p) v (sym leads j))) ∙ e.0, tt)

or_outside : (m : Marks) (j : ℕ) (A : Type 0) → ((k : ℕ) × IsAsItWas m j k) ⊎ A → ((k : ℕ) × IsAsItWasOutside m j k) ⊎ A
or_outside m j A (inl h) = inl (h.0, (no_marks, None, h.1))
or_outside m j A (inr a) = inr a

pub clean_items_stay_clean : CleanItemsStayClean
clean_items_stay_clean lay x m old now a b around to described ordered tells but clean i n y up got h deaf leads others =
    let was = same_items_stay m old now i n y described got h in
    let before = no_more_differs_before lay x m old now a b to described ordered tells but i n no_firsts no_marks y up got h refl in
    item_stays lay x around old now (around_before lay n a old) (around_before lay i b now) (instances_before lay n a no_instances old) (instances_before lay i b no_instances now) before n i y
    (clean_stand_alone lay a around no_instances old clean n y was)
    (stands_alone_still m old now described (clean_stand_alone lay a around no_instances old clean) i n y got (no_marks, None, h)
    (λ j z l there. or_outside m j (clashes y z ≡ false) (others j z l there))) deaf leads (items_are_clean_in_bodies lay a around old clean n y was)
