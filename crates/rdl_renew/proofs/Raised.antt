-- What the changes of a body raise tells of all of them.
use Rattle.std.proofs.Common.{◌≡◌, ℕ, zero, suc, ◌+◌, ◌-◌, ◌^◌, ◌<◌, ◌≤◌, ◌==◌, Bool, true, false, not, ◌&&◌, if◌then◌else◌, List, [], ◌∷◌, length, drop, Option, Some, None, ◌⊎◌, inl, inr, refl, sym, ap, subst, ◌∙◌, arith, unwrap_or}
use Rattle.std.specs.Prelude.{slice_get}
use Rattle.std.proofs.lemmas.Bool.{both_ways, eqb-true}
use Rattle.rdl_tree.specs.Items.{Items}
use Rattle.rdl_tree.specs.View as tree
use Rattle.rdl_tree.specs.declared.description.Component.{Component}
use Rattle.rdl_tree.specs.declared.description.Item.{Item}
use Rattle.rdl_tree.specs.declared.description.Item.TheVariants.{Define, Instance, Own, Default, Dynamic}
use Rattle.rdl_tree.specs.declared.description.Of.TheVariants.{Named, Anonymous}
use Rattle.rdl_tree.proofs.Rounds as tree_rounds
use Rattle.rdl_marks.specs.Describes.{Describes, IsItem, times, AreFrom, restored}
use Rattle.rdl_marks.specs.InOrder.{moved_times}
use Rattle.rdl_marks.specs.Marks.{Firsts, no_firsts, Marks}
use Rattle.rdl_marks.specs.View.{Trace, new_item, old_item, same_item, traces_of, list_of}
use Rattle.rdl_marks.specs.Was.{trace_of}
use Rattle.rdl_marks.proofs.From.{IsFrom, AreSo, first_from, none_more, get_from, same_from}
use Rattle.rdl_marks.proofs.Rounds.{traces_of-list_of}
use Rattle.rdl_seen.specs.declared.alert.Alert.{Alert}
use Rattle.rdl_seen.specs.Alert.{no_alert, with_alert, AgreeBut}
use Rattle.rdl_seen.specs.Layouts.{Laying}
use Rattle.rdl_seen.specs.Meaning.{around_before}
use Rattle.rdl_seen.specs.Names.{class_of}
use Rattle.rdl_seen.specs.Node.{Around}
use Rattle.rdl_seen.specs.Passing.{behind_item, AreSeenBut, Tells}
use Rattle.rdl_seen.specs.PropertySet.{set_named}
use Rattle.rdl_seen.proofs.Bits.{has_own, has_first, has_second}
use Rattle.rdl_seen.proofs.Passing.{some_same, items_come_and_go, items_stay}
use Rattle.rdl_renew.specs.Raised.{told_of, is_absent, brings_the_same, item_raises, gone_raises, all_raise, raised, HasAll, AlertsAddUp, HasAllOfIt, TellsOfChanges, RaisedTells, RaisedTellsBehind, RaisedTellsOfAll}
use Rattle.rdl_renew.proofs.SideBySide.{get_drop, rest_items, is_told, listed}

-- ---- Alerts.

parts : (x y z : Alert) → HasAll x (with_alert y z) → HasAll x y × HasAll x z
parts x y z h = (
  record {
    properties = λ k has. h.properties k (has_first y.properties.bits z.properties.bits k has);
    types = λ k has. h.types k (has_first y.types.bits z.types.bits k has);
    inside = λ k has. h.inside k (has_first y.inside.bits z.inside.bits k has);
  },
  record {
    properties = λ k has. h.properties k (has_second y.properties.bits z.properties.bits k has);
    types = λ k has. h.types k (has_second y.types.bits z.types.bits k has);
    inside = λ k has. h.inside k (has_second y.inside.bits z.inside.bits k has);
  },
)

pub alerts_add_up : AlertsAddUp
alerts_add_up x y = parts (with_alert x y) x y (record { properties = λ k has. has; types = λ k has. has; inside = λ k has. has })

pub has_all_of_it : HasAllOfIt
has_all_of_it x y z f g = record {
  properties = λ k has. f.properties k (g.properties k has);
  types = λ k has. f.types k (g.types k has);
  inside = λ k has. f.inside k (g.inside k has);
}

tells_of : (x : Alert) (y : Item) → HasAll x (told_of y) → Tells x y
tells_of x (Define n c) h = h.types (class_of n) (has_second 0 (2 ^ class_of n) (class_of n) (has_own (class_of n)))
tells_of x (Instance s of) h = tt
tells_of x (Own p v) h = tt
tells_of x (Default p v) h = λ k has. h.properties k (has_second 0 (set_named p).bits k has)
tells_of x (Dynamic t p v) h = tt

all_have : (f : Trace → Item → Alert) (x : Alert) (es : List Trace) (xs : List Item) (i : ℕ) (e : Trace) (y : Item) → HasAll x (all_raise f es xs) → slice_get es i ≡ Some e → slice_get xs i ≡ Some y → HasAll x (f e y)
all_have f x [] xs i e y h p q = absurd cc
all_have f x (d ∷ es) [] i e y h p q = absurd cc
all_have f x (d ∷ es) (z ∷ xs) zero e y h p q =
    let one : d ≡ e = cc in
    let two : z ≡ y = cc in
    subst (λ k. HasAll x (f k y)) one (subst (λ k. HasAll x (f d k)) two (parts x (f d z) (all_raise f es xs) h).0)
all_have f x (d ∷ es) (z ∷ xs) (suc i) e y h p q = all_have f x es xs i e y (parts x (f d z) (all_raise f es xs) h).1 p q

-- an item that brings something else raises both
brought : (x : Alert) (k : ℕ) (f : Firsts) (m : Marks) (y : Item) → brings_the_same f ≡ false → HasAll x (item_raises (old_item k f m) y) → HasAll x (told_of (restored f y)) × HasAll x (told_of y)
brought x k f m y e h =
    parts x (told_of (restored f y)) (told_of y)
    (subst (λ (b : Bool). HasAll x (if b then no_alert else with_alert (told_of (restored f y)) (told_of y))) e h)

moved_brings : (f : Firsts) → f.is_moved ≡ true → brings_the_same f ≡ false
moved_brings f e = ap (λ (b : Bool). not b && is_absent f.defined && is_absent f.value) e

-- ---- The old item.

same_there : (old : Items) (n : ℕ) (y z : Item) → IsItem n old y → IsItem n old z → y ≡ z
same_there old n y z f g = some_same y z (sym f ∙ g)

-- who tells of an item with what stood first in it tells of the old item
tells_old : (old : Items) (n : ℕ) (f : Firsts) (m : Marks) (y z : Item) (x : Alert) → IsFrom old (old_item n f m) y → IsItem n old z → Tells x (restored f y) → Tells x z
tells_old old n f m (Define k c) z x h is t =
    subst (Tells x) (same_there old n (Define (unwrap_or f.defined k) (record { kind = c.kind; body = h.0.0 })) z h.0.1 is) t
tells_old old n f m (Instance s (Named u)) z x h is t = subst (Tells x) (same_there old n (restored f (Instance s (Named u))) z h.0 is) t
tells_old old n f m (Instance s (Anonymous c)) z x h is t =
    subst (Tells x) (same_there old n (Instance (unwrap_or f.shell s) (Anonymous (record { kind = c.kind; body = h.0.0 }))) z h.0.1 is) t
tells_old old n f m (Own p v) z x h is t = subst (Tells x) (same_there old n (restored f (Own p v)) z h.0 is) t
tells_old old n f m (Default p v) z x h is t = subst (Tells x) (same_there old n (restored f (Default p v)) z h.0 is) t
tells_old old n f m (Dynamic u p v) z x h is t = subst (Tells x) (same_there old n (restored f (Dynamic u p v)) z h.0 is) t

-- ---- Items that are gone, or were moved.

abbrev one_if : Bool → ℕ
one_if b = if b then 1 else 0

tells_gone : (old : Items) (x : Alert) (n : ℕ) (z : Item) (es : List Trace) (rest : List Item) (xs : List Item) → AreSo old es rest xs → HasAll x (all_raise gone_raises es xs)
    → 0 < times n (traces_of es) → IsItem n old z → Tells x z
tells_gone old x n z [] rest xs so h l is = absurd (omega arith)
tells_gone old x n z (e ∷ es) rest [] so h l is = absurd (none_more old e (traces_of es) rest so)
tells_gone old x n z (new_item ∷ es) rest (y ∷ ys) so h l is =
    tells_gone old x n z es rest ys (first_from old new_item (traces_of es) rest y (tree.items_of ys) so).1 (parts x (told_of y) (all_raise gone_raises es ys) h).1 l is
tells_gone old x n z (old_item k f m ∷ es) rest (y ∷ ys) so h l is = by (λ (g : 0 < times n (traces_of es)). tells_gone old x n z es rest ys both.1 has.1 g is) (k == n) refl
  where
    both : IsFrom old (old_item k f m) y × AreSo old es rest ys
    both = first_from old (old_item k f m) (traces_of es) rest y (tree.items_of ys) so

    has : HasAll x (told_of (restored f y)) × HasAll x (all_raise gone_raises es ys)
    has = parts x (told_of (restored f y)) (all_raise gone_raises es ys) h

    by : (0 < times n (traces_of es) → Tells x z) → (b : Bool) → (k == n) ≡ b → Tells x z
    by more true e = tells_old old n f m y z x (subst (λ j. IsFrom old (old_item j f m) y) (eqb-true k n e) both.0) is (tells_of x (restored f y) has.0)
    by more false e =
        let other : one_if (k == n) ≡ 0 = ap one_if e in
        more (omega (arith, l, other))

tells_moved : (old : Items) (x : Alert) (n : ℕ) (z : Item) (es : List Trace) (rest : List Item) (xs : List Item) → AreSo old es rest xs → HasAll x (all_raise item_raises es xs)
    → 0 < moved_times n (traces_of es) → IsItem n old z → Tells x z
tells_moved old x n z [] rest xs so h l is = absurd (omega arith)
tells_moved old x n z (e ∷ es) rest [] so h l is = absurd (none_more old e (traces_of es) rest so)
tells_moved old x n z (new_item ∷ es) rest (y ∷ ys) so h l is =
    tells_moved old x n z es rest ys (first_from old new_item (traces_of es) rest y (tree.items_of ys) so).1 (parts x (told_of y) (all_raise item_raises es ys) h).1 l is
tells_moved old x n z (old_item k f m ∷ es) rest (y ∷ ys) so h l is =
    by (λ (g : 0 < moved_times n (traces_of es)). tells_moved old x n z es rest ys both.1 has.1 g is) f.is_moved (k == n) refl refl
  where
    both : IsFrom old (old_item k f m) y × AreSo old es rest ys
    both = first_from old (old_item k f m) (traces_of es) rest y (tree.items_of ys) so

    has : HasAll x (item_raises (old_item k f m) y) × HasAll x (all_raise item_raises es ys)
    has = parts x (item_raises (old_item k f m) y) (all_raise item_raises es ys) h

    other : (a b : Bool) → f.is_moved ≡ a → (k == n) ≡ b → (a && b) ≡ false → one_if (f.is_moved && (k == n)) ≡ 0
    other a b d e none = (λ i. one_if (d i && e i)) ∙ ap one_if none

    by : (0 < moved_times n (traces_of es) → Tells x z) → (a b : Bool) → f.is_moved ≡ a → (k == n) ≡ b → Tells x z
    by more true true d e =
        tells_old old n f m y z x (subst (λ j. IsFrom old (old_item j f m) y) (eqb-true k n e) both.0) is
        (tells_of x (restored f y) (brought x k f m y (moved_brings f d) has.0).0)
    by more true false d e = more (omega (arith, l, other true false d e refl))
    by more false b d e = more (omega (arith, l, other false b d e refl))

-- ---- Items that are there.

-- each item that was there became of its old one
pub from_there : (m : Marks) (old now : Items) (i : ℕ) (e : Trace) (y : Item) → Describes m old now → IsItem i now y → trace_of m i ≡ Some e → IsFrom old e y
from_there m old now i e y d got h = by (is_told m i e h).is
  where
    es : List Trace
    es = list_of m.traces

    by : (slice_get es i ≡ Some e) ⊎ ((length es ≤ i) × (same_item (m.behind + (i - length es)) ≡ e)) → IsFrom old e y
    by (inl g) = get_from old i e es (drop m.behind (tree.list_of old)) y (tree.list_of now) g got (listed m old now d)
    by (inr g) =
        let l = g.0 in
        let at : length es + (i - length es) ≡ i = omega (arith, l) in
        let here = rest_items old es (drop m.behind (tree.list_of old)) (tree.list_of now) (i - length es) (listed m old now d) in
        subst (λ c. IsFrom old c y) g.1
        (same_from old (m.behind + (i - length es)) y
        (sym (get_drop (tree.list_of old) m.behind (i - length es)) ∙ (sym here ∙ (ap (slice_get (tree.list_of now)) at ∙ got))))

abbrev firsts_in : Trace → Firsts
firsts_in new_item = no_firsts
firsts_in (old_item n f m) = f

abbrev is_new : Trace → Bool
is_new new_item = true
is_new (old_item n f m) = false

module _ (x : Alert) (m : Marks) (old now : Items) (d : Describes m old now) (h : HasAll x (raised m now)) where
  abbrev es : List Trace
  es = list_of m.traces

  here : HasAll x (all_raise item_raises (list_of m.traces) (tree.list_of now))
  here = (parts x (all_raise item_raises (list_of m.traces) (tree.list_of now)) (all_raise gone_raises (list_of m.gone) (tree.list_of m.items)) h).0

  there : HasAll x (all_raise gone_raises (list_of m.gone) (tree.list_of m.items))
  there = (parts x (all_raise item_raises (list_of m.traces) (tree.list_of now)) (all_raise gone_raises (list_of m.gone) (tree.list_of m.items)) h).1

  gone_listed : AreSo old (list_of m.gone) [] (tree.list_of m.items)
  gone_listed =
      subst (λ t. AreFrom old t [] (tree.items_of (tree.list_of m.items))) (sym (traces_of-list_of m.gone))
      (subst (AreFrom old m.gone []) (sym (tree_rounds.items_of-list_of m.items)) d.gone)

  tells_new : (i : ℕ) (y : Item) → IsItem i now y → trace_of m i ≡ Some new_item → Tells x y
  tells_new i y got t = by (is_told m i new_item t).is
    where
      by : (slice_get (list_of m.traces) i ≡ Some new_item) ⊎ ((length (list_of m.traces) ≤ i) × (same_item (m.behind + (i - length (list_of m.traces))) ≡ new_item)) → Tells x y
      by (inl g) = tells_of x y (all_have item_raises x (list_of m.traces) (tree.list_of now) i new_item y here g got)
      by (inr g) = let no : false ≡ true = ap is_new g.1 in absurd cc

  tells_both : (i n : ℕ) (firsts : Firsts) (inside : Marks) (y : Item) → trace_of m i ≡ Some (old_item n firsts inside) → brings_the_same firsts ≡ false → IsItem i now y
      → HasAll x (told_of (restored firsts y)) × HasAll x (told_of y)
  tells_both i n firsts inside y t other got = by (is_told m i (old_item n firsts inside) t).is
    where
      by : (slice_get (list_of m.traces) i ≡ Some (old_item n firsts inside)) ⊎ ((length (list_of m.traces) ≤ i) × (same_item (m.behind + (i - length (list_of m.traces))) ≡ old_item n firsts inside))
          → HasAll x (told_of (restored firsts y)) × HasAll x (told_of y)
      by (inl g) = brought x n firsts inside y other (all_have item_raises x (list_of m.traces) (tree.list_of now) i (old_item n firsts inside) y here g got)
      by (inr g) =
          let same : true ≡ brings_the_same firsts = ap (λ e. brings_the_same (firsts_in e)) g.1 in
          absurd (both_ways (brings_the_same firsts) other (sym same))

  tells : TellsOfChanges x m old now
  tells = record {
    gone = λ n y is e.
        let one : 0 < times n (traces_of (list_of m.gone)) = subst (λ t. 0 < times n t) (sym (traces_of-list_of m.gone)) (omega (arith, e)) in
        tells_gone old x n y (list_of m.gone) [] (tree.list_of m.items) gone_listed there one is;
    moved_away = λ n y is e.
        let one : 0 < moved_times n (traces_of (list_of m.traces)) = subst (λ t. 0 < moved_times n t) (sym (traces_of-list_of m.traces)) (omega (arith, e)) in
        tells_moved old x n y (list_of m.traces) (drop m.behind (tree.list_of old)) (tree.list_of now) (listed m old now d) here one is;
    new = tells_new;
    moved_here = λ i n firsts inside y got t moved. tells_of x y (tells_both i n firsts inside y t (moved_brings firsts moved) got).1;
    changed = λ i n firsts inside z y t other is got.
        let both = tells_both i n firsts inside y t other got in
        (tells_old old n firsts inside y z x (from_there m old now i (old_item n firsts inside) y d got t) is (tells_of x (restored firsts y) both.0), tells_of x y both.1);
  }

pub raised_tells : RaisedTells
raised_tells x m old now d h = tells x m old now d h

-- ---- Items that bring the same.

absent : {X : Type 0} (o : Option X) (v : X) → is_absent o ≡ true → unwrap_or o v ≡ v
absent None v e = refl
absent (Some w) v e = absurd cc

others : (a b c : Bool) → (a && b && c) ≡ true → (b ≡ true) × (c ≡ true)
others true true true e = (refl, refl)
others true true false e = absurd cc
others true false c e = absurd cc
others false b c e = absurd cc

stays_same : (lay : Laying) (x : Alert) (a b : Around) (old : Items) (n : ℕ) (f : Firsts) (m : Marks) (y z : Item) → IsFrom old (old_item n f m) y → IsItem n old z → brings_the_same f ≡ true
    → ((name : List ℕ) (c d : Component) → Define name d ≡ y → IsItem n old (Define name c) → AreSeenBut lay x a b name c d) → AgreeBut x a b → AgreeBut x (behind_item lay a z) (behind_item lay b y)
stays_same lay x a b old n f m (Define k c) z h is same seen but =
    let none = (others (not f.is_moved) (is_absent f.defined) (is_absent f.value) same).0 in
    let e : Component = record { kind = c.kind; body = h.0.0 } in
    let first : IsItem n old (Define k e) = subst (λ (j : List ℕ). IsItem n old (Define j e)) (absent f.defined k none) h.0.1 in
    subst (λ w. AgreeBut x (behind_item lay a w) (behind_item lay b (Define k c))) (same_there old n (Define k e) z first is)
    (items_stay (Define k e) c lay x a b (seen k e c refl first) but)
stays_same lay x a b old n f m (Instance s (Named u)) z h is same seen but =
    subst (λ w. AgreeBut x (behind_item lay a w) b) (same_there old n (restored f (Instance s (Named u))) z h.0 is) but
stays_same lay x a b old n f m (Instance s (Anonymous c)) z h is same seen but =
    subst (λ w. AgreeBut x (behind_item lay a w) b)
    (same_there old n (Instance (unwrap_or f.shell s) (Anonymous (record { kind = c.kind; body = h.0.0 }))) z h.0.1 is) but
stays_same lay x a b old n f m (Own p v) z h is same seen but = subst (λ w. AgreeBut x (behind_item lay a w) b) (same_there old n (restored f (Own p v)) z h.0 is) but
stays_same lay x a b old n f m (Default p v) z h is same seen but =
    let none = (others (not f.is_moved) (is_absent f.defined) (is_absent f.value) same).1 in
    let first : IsItem n old (Default p v) = subst (λ w. IsItem n old (Default p w)) (absent f.value v none) h.0 in
    subst (λ w. AgreeBut x (behind_item lay a w) (behind_item lay b (Default p v))) (same_there old n (Default p v) z first is) (items_stay (Default p v) lay x a b but)
stays_same lay x a b old n f m (Dynamic u p v) z h is same seen but = subst (λ w. AgreeBut x (behind_item lay a w) b) (same_there old n (restored f (Dynamic u p v)) z h.0 is) but

pub raised_tells_behind : RaisedTellsBehind
raised_tells_behind lay x m old now a b i d h seen n firsts inside z y t unmoved is got but = stay (brings_the_same firsts) refl
  where
    stay : (s : Bool) → brings_the_same firsts ≡ s → AgreeBut x (behind_item lay (around_before lay n a old) z) (behind_item lay (around_before lay i b now) y)
    stay true e =
        stays_same lay x (around_before lay n a old) (around_before lay i b now) old n firsts inside y z (from_there m old now i (old_item n firsts inside) y d got t) is e
        (λ name c c2 same first. seen n firsts inside name c c2 t e first (got ∙ ap Some (sym same)) but) but
    stay false e =
        let two = (raised_tells x m old now d h).changed i n firsts inside z y t e is got in
        (items_come_and_go lay x (around_before lay n a old) (behind_item lay (around_before lay i b now) y) z two.0
        (items_come_and_go lay x (around_before lay n a old) (around_before lay i b now) y two.1 but).0).1

pub raised_tells_of_all : RaisedTellsOfAll
raised_tells_of_all lay x m old now a b to d h seen =
    let all = raised_tells x m old now d h in
    record {
      gone = all.gone;
      moved_away = all.moved_away;
      new = all.new;
      moved_here = all.moved_here;
      stayed = λ i n firsts inside z y low t unmoved is got but. raised_tells_behind lay x m old now a b i d h (seen i low) n firsts inside z y t unmoved is got but;
    }
