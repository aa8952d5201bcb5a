-- What an alert tells of the components that stand behind it.
use Rattle.std.proofs.Common.{◌≡◌, ℕ, zero, suc, ◌^◌, ◌==◌, min, Bool, true, false, not, ◌&&◌, ◌||◌, ◌⊎◌, inl, inr, List, Option, Some, None, option_map, bytes_eq, if◌then◌else◌, bit_and, bit_or, ne_eqb, subst, refl, sym, ap, ◌∙◌, arith}
use Rattle.std.specs.Int.{bit_at}
use Rattle.std.proofs.lemmas.Bool.{both_ways}
use Rattle.std.proofs.lemmas.Nat.{and_comm}
use Rattle.std.proofs.lemmas.Nat.Bits.{bit_at-zero, bit_at_and}
use Rattle.std.proofs.lemmas.Slice.Eq.{bytes_eq-Decides}
use Rattle.rdl_tree.specs.Items.{Items, Plain, named, own, default, dynamic}
use Rattle.rdl_tree.specs.Properties.{property_of}
use Rattle.rdl_tree.specs.declared.property.Property.{Property}
use Rattle.rdl_tree.specs.declared.property.Property.TheVariants.{Addressing, Alignment, Regwidth, Accesswidth, Fieldwidth, Sw, Reset}
use Rattle.rdl_tree.specs.declared.shell.Kind.{Kind}
use Rattle.rdl_tree.specs.declared.value.Value.{Value}
use Rattle.rdl_scope.specs.Closed.{lookup}
use Rattle.rdl_seen.specs.declared.alert.Alert.{Alert}
use Rattle.rdl_seen.specs.declared.property_set.PropertySet.{PropertySet}
use Rattle.rdl_seen.specs.declared.seen.Seen.{Seen}
use Rattle.rdl_seen.specs.declared.values.Values.{Values}
use Rattle.rdl_seen.specs.Agree.{SameValues, shown, shown_of, AgreeOn}
use Rattle.rdl_seen.specs.Alert.{no_alert, with_alert, reaches, reaches_as, is_told, AgreeBut}
use Rattle.rdl_seen.specs.AlertLaws.{UnreachedAreKept, UnreachedAreKnown, NothingDiffers, MoreMayDiffer, StaysBehind, StaysBehindType, TypesComeAndGo, DefaultsComeAndGo}
use Rattle.rdl_seen.specs.Layouts.{Laying}
use Rattle.rdl_seen.specs.Names.{meet, class_of, has_class}
use Rattle.rdl_seen.specs.Node.{Known, Around, with_type, with_default, after_plain, node, known}
use Rattle.rdl_seen.specs.PropertySet.{bit_of, set_of, set_named, do_properties_meet, has_property, without_properties}
use Rattle.rdl_seen.specs.Values.{put_named}
use Rattle.rdl_seen.proofs.Bits.{bit_cases, lacks_from, meet_or, has_own, has_first, has_second, less_parts, lacks_none}
use Rattle.rdl_seen.proofs.Clean.{faults_coincide}
use Rattle.rdl_seen.proofs.Stated.{same_covered, put_named_same}
use Rattle.rdl_seen.proofs.Unmoved.{coincides, coincides_within, same_values, untaken_found}

-- of two sets that have nothing in common, the second lacks what the first has
no_common : (a b : ℕ) → meet a b ≡ false → bit_and a b ≡ 0
no_common a b h = into (bit_and a b) h
  where
    into : (n : ℕ) → not (n == 0) ≡ false → n ≡ 0
    into zero h = refl
    into (suc n) h =
        let other : suc n ≡ 0 → ⊥ = λ e. absurd (omega arith) in
        absurd (both_ways (not (suc n == 0)) h (ap (λ (t : Bool). not t) (ne_eqb (suc n) 0 other)))

lacks_other : (a b k : ℕ) → meet a b ≡ false → meet a (2 ^ k) ≡ true → meet b (2 ^ k) ≡ false
lacks_other a b k apart has =
    elim (bit_cases b k) [
      | inl y ↦ lacks_from b k y
      | inr y ↦ elim (bit_cases a k) [
        | inl x ↦ absurd (both_ways (meet a (2 ^ k)) (lacks_from a k x) has)
        | inr x ↦
            let both : bit_at (bit_and a b) k ≡ min (bit_at a k) (bit_at b k) = bit_at_and a b k in
            let none : bit_at (bit_and a b) k ≡ 0 = ap (λ n. bit_at n k) (no_common a b apart) ∙ bit_at-zero k in
            absurd (omega (arith, both, none, x, y))
      ]
    ]

neither : (x y : Bool) → (x || y) ≡ false → (x ≡ false) × (y ≡ false)
neither false y h = (refl, h)
neither true y h = absurd cc

and_false : (x y z : Bool) → (x && y) ≡ false → (y ≡ false → z ≡ false) → (x && z) ≡ false
and_false true y z h f = f h
and_false false y z h f = refl

pub both_lack : (x y : Bool) → x ≡ false → y ≡ false → (x || y) ≡ false
both_lack x y e f = ap (λ (z : Bool). z || y) e ∙ f

-- who isn't reached agrees as far as it listens
agree_on : (deep : Bool) (x : Alert) (a b : Around) (s : Seen) → AgreeBut x a b → reaches_as deep x s ≡ false → AgreeOn deep s.asks s.takes a b
agree_on deep x a b s but unreached =
    let two = neither (do_properties_meet s.takes x.properties || meet s.asks.bits x.types.bits) (deep && meet s.asks.bits x.inside.bits) unreached in
    let one = neither (do_properties_meet s.takes x.properties) (meet s.asks.bits x.types.bits) two.0 in
    let other : (k : ℕ) → meet s.takes.bits (2 ^ k) ≡ true → meet x.properties.bits (2 ^ k) ≡ false = λ k. lacks_other s.takes.bits x.properties.bits k one.0 in
    record {
      types = λ name has. but.types deep name
          (both_lack (has_class x.types (class_of name)) (deep && has_class x.inside (class_of name))
          (lacks_other s.asks.bits x.types.bits (class_of name) one.1 has)
          (and_false deep (meet s.asks.bits x.inside.bits) (has_class x.inside (class_of name)) two.1 (λ e. lacks_other s.asks.bits x.inside.bits (class_of name) e has)));
      defaults = record {
        addressing = λ has. (but.defaults Addressing (other 0 has)).addressing (has_own 0);
        alignment = λ has. (but.defaults Alignment (other 1 has)).alignment (has_own 1);
        regwidth = λ has. (but.defaults Regwidth (other 2 has)).regwidth (has_own 2);
        accesswidth = λ has. (but.defaults Accesswidth (other 3 has)).accesswidth (has_own 3);
        fieldwidth = λ has. (but.defaults Fieldwidth (other 4 has)).fieldwidth (has_own 4);
        sw = λ has. (but.defaults Sw (other 5 has)).sw (has_own 5);
        reset = λ has. (but.defaults Reset (other 6 has)).reset (has_own 6);
      };
    }

pub unreached_are_kept : UnreachedAreKept
unreached_are_kept lay x a b k body but unreached =
    let s = (node lay a k body).core.seen in
    let agree = agree_on s.is_assigned x a b s but unreached in
    (coincides lay a b k body agree, faults_coincide lay a b k body agree)

pub unreached_are_known : UnreachedAreKnown
unreached_are_known lay x a b k body but unreached = coincides_within lay a b k body (agree_on true x a b (node lay a k body).core.seen but unreached)

pub nothing_differs : NothingDiffers
nothing_differs a = record { types = λ deep name h. refl; defaults = λ p h. same_values (set_of p) a.defaults }

-- what differs in less differs in no more
wider : (deep : Bool) (x y : Alert) (class : ℕ) → is_told deep (with_alert x y) class ≡ false → is_told deep x class ≡ false
wider deep x y class h =
    let two = neither (has_class (with_alert x y).types class) (deep && has_class (with_alert x y).inside class) h in
    both_lack (has_class x.types class) (deep && has_class x.inside class)
    (neither (has_class x.types class) (has_class y.types class) (sym (meet_or x.types.bits y.types.bits class) ∙ two.0)).0
    (and_false deep (has_class (with_alert x y).inside class) (has_class x.inside class) two.1
    (λ e. (neither (has_class x.inside class) (has_class y.inside class) (sym (meet_or x.inside.bits y.inside.bits class) ∙ e)).0))

wider_after : (deep : Bool) (x y : Alert) (class : ℕ) → is_told deep (with_alert y x) class ≡ false → is_told deep x class ≡ false
wider_after deep x y class h =
    let two = neither (has_class (with_alert y x).types class) (deep && has_class (with_alert y x).inside class) h in
    both_lack (has_class x.types class) (deep && has_class x.inside class)
    (neither (has_class y.types class) (has_class x.types class) (sym (meet_or y.types.bits x.types.bits class) ∙ two.0)).1
    (and_false deep (has_class (with_alert y x).inside class) (has_class x.inside class) two.1
    (λ e. (neither (has_class y.inside class) (has_class x.inside class) (sym (meet_or y.inside.bits x.inside.bits class) ∙ e)).1))

-- each property is one of the seven, which is one bit, or none of them
one_bit : (p : Property) → ((k : ℕ) × (bit_of p ≡ 2 ^ k)) ⊎ (bit_of p ≡ 0)
one_bit Addressing = inl (0, refl)
one_bit Alignment = inl (1, refl)
one_bit Regwidth = inl (2, refl)
one_bit Accesswidth = inl (3, refl)
one_bit Fieldwidth = inl (4, refl)
one_bit Sw = inl (5, refl)
one_bit Reset = inl (6, refl)
one_bit p = inr refl

same_nothing : (v w : Values) → SameValues (record { bits = 0 }) v w
same_nothing v w = record {
  addressing = λ has. absurd (both_ways (meet 0 (2 ^ 0)) (lacks_none 0) has);
  alignment = λ has. absurd (both_ways (meet 0 (2 ^ 1)) (lacks_none 1) has);
  regwidth = λ has. absurd (both_ways (meet 0 (2 ^ 2)) (lacks_none 2) has);
  accesswidth = λ has. absurd (both_ways (meet 0 (2 ^ 3)) (lacks_none 3) has);
  fieldwidth = λ has. absurd (both_ways (meet 0 (2 ^ 4)) (lacks_none 4) has);
  sw = λ has. absurd (both_ways (meet 0 (2 ^ 5)) (lacks_none 5) has);
  reset = λ has. absurd (both_ways (meet 0 (2 ^ 6)) (lacks_none 6) has);
}

by_bit : (p : Property) (v w : Values) → ((k : ℕ) → bit_of p ≡ 2 ^ k → SameValues (set_of p) v w) → SameValues (set_of p) v w
by_bit p v w f =
    elim (one_bit p) [
      | inl one ↦ f one.0 one.1
      | inr none ↦ subst (λ b. SameValues (record { bits = b }) v w) (sym none) (same_nothing v w)
    ]

lacks_less : (a b c k : ℕ) → c ≡ 2 ^ k → meet (bit_or a b) c ≡ false → (meet a c ≡ false) × (meet b c ≡ false)
lacks_less a b c k e h =
    let two = neither (meet a (2 ^ k)) (meet b (2 ^ k)) (sym (meet_or a b k) ∙ (ap (meet (bit_or a b)) (sym e) ∙ h)) in
    (ap (meet a) e ∙ two.0, ap (meet b) e ∙ two.1)

pub more_may_differ : MoreMayDiffer
more_may_differ x y a b but = (
  record {
    types = λ deep name h. but.types deep name (wider deep x y (class_of name) h);
    defaults = λ p h. by_bit p a.defaults b.defaults (λ k e. but.defaults p (lacks_less x.properties.bits y.properties.bits (bit_of p) k e h).0);
  },
  record {
    types = λ deep name h. but.types deep name (wider_after deep x y (class_of name) h);
    defaults = λ p h. by_bit p a.defaults b.defaults (λ k e. but.defaults p (lacks_less y.properties.bits x.properties.bits (bit_of p) k e h).1);
  },
)

pub stays_behind : StaysBehind
stays_behind x a b (named s t) but = record { types = but.types; defaults = but.defaults }
stays_behind x a b (own p v) but = record { types = but.types; defaults = but.defaults }
stays_behind x a b (dynamic t p v) but = record { types = but.types; defaults = but.defaults }
stays_behind x a b (default q v) but = record {
  types = but.types;
  defaults = λ p h.
      put_named_same q v (set_of p) a.defaults b.defaults
      (same_covered (set_of p) (without_properties (set_of p) (set_named q)) a.defaults b.defaults
      (λ k has. let parts = less_parts (bit_of p) (set_named q).bits k has in parts.has) (but.defaults p h));
}

same_either : (deep z : Bool) (k l : Known) (o p : Option Known) → (z ≡ true → shown deep k ≡ shown deep l) → option_map (shown deep) o ≡ option_map (shown deep) p
    → option_map (shown deep) (if z then Some k else o) ≡ option_map (shown deep) (if z then Some l else p)
same_either deep true k l o p same other = ap Some (same refl)
same_either deep false k l o p same other = other

class_same : (name other : List ℕ) → bytes_eq name other ≡ true → class_of other ≡ class_of name
class_same name other e = ap class_of (sym ((bytes_eq-Decides name other).0 e))

pub stays_behind_type : StaysBehindType
stays_behind_type x a b name k l same but = record {
  types = λ deep other h.
      same_either deep (bytes_eq name other) k l (lookup other a.types) (lookup other b.types)
      (λ e. same deep (ap (is_told deep x) (sym (class_same name other e)) ∙ h)) (but.types deep other h);
  defaults = but.defaults;
}

-- a name that isn't told of isn't that of a definition which is
another : (x : Alert) (deep : Bool) (name other : List ℕ) → has_class x.types (class_of name) ≡ true → is_told deep x (class_of other) ≡ false → bytes_eq name other ≡ true → ⊥
another x deep name other told h e =
    let lacks = (neither (has_class x.types (class_of other)) (deep && has_class x.inside (class_of other)) h).0 in
    both_ways (has_class x.types (class_of other)) lacks (ap (has_class x.types) (class_same name other e) ∙ told)

unseen : (deep z : Bool) (k : Known) (o p : Option Known) → (z ≡ true → ⊥) → option_map (shown deep) o ≡ option_map (shown deep) p
    → option_map (shown deep) o ≡ option_map (shown deep) (if z then Some k else p)
unseen deep true k o p never same = absurd (never refl)
unseen deep false k o p never same = same

pub types_come_and_go : TypesComeAndGo
types_come_and_go x a b name k told but = (
  record {
    types = λ deep other h. unseen deep (bytes_eq name other) k (lookup other a.types) (lookup other b.types) (another x deep name other told h) (but.types deep other h);
    defaults = but.defaults;
  },
  record {
    types = λ deep other h. sym (unseen deep (bytes_eq name other) k (lookup other b.types) (lookup other a.types) (another x deep name other told h) (sym (but.types deep other h)));
    defaults = but.defaults;
  },
)

same_through : (s : PropertySet) (u v w : Values) → SameValues s u v → SameValues s v w → SameValues s u w
same_through s u v w e f = record {
  addressing = λ has. e.addressing has ∙ f.addressing has;
  alignment = λ has. e.alignment has ∙ f.alignment has;
  regwidth = λ has. e.regwidth has ∙ f.regwidth has;
  accesswidth = λ has. e.accesswidth has ∙ f.accesswidth has;
  fieldwidth = λ has. e.fieldwidth has ∙ f.fieldwidth has;
  sw = λ has. e.sw has ∙ f.sw has;
  reset = λ has. e.reset has ∙ f.reset has;
}

same_back : (s : PropertySet) (v w : Values) → SameValues s v w → SameValues s w v
same_back s v w e = record {
  addressing = λ has. sym (e.addressing has);
  alignment = λ has. sym (e.alignment has);
  regwidth = λ has. sym (e.regwidth has);
  accesswidth = λ has. sym (e.accesswidth has);
  fieldwidth = λ has. sym (e.fieldwidth has);
  sw = λ has. sym (e.sw has);
  reset = λ has. sym (e.reset has);
}

meet_comm : (a b : ℕ) → meet a b ≡ meet b a
meet_comm a b = ap (λ n. not (n == 0)) (and_comm a b)

false_unless : (z : Bool) → (z ≡ true → ⊥) → z ≡ false
false_unless true never = absurd (never refl)
false_unless false never = refl

-- a property that isn't told of isn't that of a default which is
other_default : (x : Alert) (p : Property) (q : List ℕ) (v : Value) (w : Values) → ((k : ℕ) → meet (set_named q).bits (2 ^ k) ≡ true → meet x.properties.bits (2 ^ k) ≡ true)
    → has_property x.properties p ≡ false → SameValues (set_of p) w (put_named q v w)
other_default x p q v w told h =
    by_bit p w (put_named q v w)
    (λ k e. untaken_found (property_of q) v (set_of p) w
    (false_unless (do_properties_meet (set_of p) (set_named q))
    (λ has. both_ways (meet x.properties.bits (2 ^ k)) (ap (meet x.properties.bits) (sym e) ∙ h)
    (told k (ap (meet (set_named q).bits) (sym e) ∙ (meet_comm (set_named q).bits (bit_of p) ∙ has))))))

pub defaults_come_and_go : DefaultsComeAndGo
defaults_come_and_go x a b q v told but = (
  record {
    types = but.types;
    defaults = λ p h. same_through (set_of p) a.defaults b.defaults (put_named q v b.defaults) (but.defaults p h) (other_default x p q v b.defaults told h);
  },
  record {
    types = but.types;
    defaults = λ p h.
        same_through (set_of p) (put_named q v a.defaults) a.defaults b.defaults (same_back (set_of p) a.defaults (put_named q v a.defaults) (other_default x p q v a.defaults told h)) (but.defaults p h);
  },
)
