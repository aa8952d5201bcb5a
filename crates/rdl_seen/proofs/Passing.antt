-- What differs behind items that came, went or stayed.
use Rattle.std.proofs.Common.{◌≡◌, ℕ, zero, suc, ◌+◌, ◌-◌, ◌≤◌, ◌<◌, Bool, List, [], Option, Some, None, refl, sym, ap, subst, ◌∙◌, arith, ◌⊎◌, inl, inr}
use Rattle.std.specs.Prelude.{slice_get}
use Rattle.rdl_tree.specs.Component.{holder_kind}
use Rattle.rdl_tree.specs.Items.{Items, no_items, plain, holder, Plain, named, own, default, dynamic, Holder, define, anonymous}
use Rattle.rdl_tree.specs.View.{list_of, plain_item, holder_item}
use Rattle.rdl_tree.specs.declared.description.Item.{Item}
use Rattle.rdl_tree.specs.declared.description.Item.TheVariants.{Define, Instance, Own, Default, Dynamic}
use Rattle.rdl_seen.specs.declared.alert.Alert.{Alert}
use Rattle.rdl_seen.specs.Alert.{AgreeBut}
use Rattle.rdl_seen.specs.Layouts.{Laying}
use Rattle.rdl_seen.specs.Meaning.{around_before}
use Rattle.rdl_seen.specs.Node.{Around, after_plain, after_holder, known}
use Rattle.rdl_seen.specs.Passing.{behind_item, Tells, StandsBehindItem, ItemsComeAndGo, ItemsStay, ItemsArePassedOver}
use Rattle.rdl_seen.proofs.Alerts.{stays_behind, stays_behind_type, types_come_and_go, defaults_come_and_go}

plain_behind : (lay : Laying) (a : Around) (p : Plain) → after_plain p a ≡ behind_item lay a (plain_item p)
plain_behind lay a (named s t) = refl
plain_behind lay a (own p v) = refl
plain_behind lay a (default p v) = refl
plain_behind lay a (dynamic t p v) = refl

holder_behind : (lay : Laying) (a : Around) (h : Holder) (body : Items) → after_holder h (known lay a (holder_kind h) body) a ≡ behind_item lay a (holder_item h body)
holder_behind lay a (define n k) body = refl
holder_behind lay a (anonymous s k) body = refl

pub some_same : (x y : Item) → ◌≡◌ {A = Option Item} (Some x) (Some y) → x ≡ y
some_same x y e = cc

pub before_none : (lay : Laying) (a : Around) (t : Items) → around_before lay 0 a t ≡ a
before_none lay a no_items = refl
before_none lay a (plain p rest) = refl
before_none lay a (holder h body rest) = refl

pub stands_behind_item : StandsBehindItem
stands_behind_item lay a no_items i x got = absurd cc
stands_behind_item lay a (plain p rest) zero x got =
    before_none lay (after_plain p a) rest ∙ (plain_behind lay a p ∙ ap (behind_item lay a) (some_same (plain_item p) x got))
stands_behind_item lay a (plain p rest) (suc i) x got = stands_behind_item lay (after_plain p a) rest i x got
stands_behind_item lay a (holder h body rest) zero x got =
    before_none lay (after_holder h (known lay a (holder_kind h) body) a) rest ∙ (holder_behind lay a h body ∙ ap (behind_item lay a) (some_same (holder_item h body) x got))
stands_behind_item lay a (holder h body rest) (suc i) x got = stands_behind_item lay (after_holder h (known lay a (holder_kind h) body) a) rest i x got

pub items_come_and_go : ItemsComeAndGo
items_come_and_go lay x a b (Define n c) told but =
    ((types_come_and_go x a b n (known lay b c.kind c.body) told but).0, (types_come_and_go x a b n (known lay a c.kind c.body) told but).1)
items_come_and_go lay x a b (Instance s of) told but = (but, but)
items_come_and_go lay x a b (Own p v) told but = (but, but)
items_come_and_go lay x a b (Default p v) told but = defaults_come_and_go x a b p v told but
items_come_and_go lay x a b (Dynamic t p v) told but = (but, but)

pub items_stay : ItemsStay
items_stay (Define n c) = λ d lay x a b seen but. stays_behind_type x a b n (known lay a c.kind c.body) (known lay b d.kind d.body) seen but
items_stay (Instance s of) = λ lay x a b but. but
items_stay (Own p v) = λ lay x a b but. but
items_stay (Default p v) = λ lay x a b but. stays_behind x a b (default p v) but
items_stay (Dynamic t p v) = λ lay x a b but. but

past : (lay : Laying) (a : Around) (t : Items) (i : ℕ) → slice_get (list_of t) i ≡ None → around_before lay (suc i) a t ≡ around_before lay i a t
past lay a no_items zero none = refl
past lay a no_items (suc i) none = refl
past lay a (plain p rest) zero none = absurd cc
past lay a (plain p rest) (suc i) none = past lay (after_plain p a) rest i none
past lay a (holder h body rest) zero none = absurd cc
past lay a (holder h body rest) (suc i) none = past lay (after_holder h (known lay a (holder_kind h) body) a) rest i none

one_more : (lay : Laying) (x : Alert) (a b : Around) (t : Items) (k : ℕ) → ((y : Item) → slice_get (list_of t) k ≡ Some y → Tells x y)
    → AgreeBut x (around_before lay k a t) b → AgreeBut x (around_before lay (suc k) a t) b
one_more lay x a b t k told but = into (slice_get (list_of t) k) refl
  where
    into : (o : Option Item) → slice_get (list_of t) k ≡ o → AgreeBut x (around_before lay (suc k) a t) b
    into None none = subst (λ z. AgreeBut x z b) (sym (past lay a t k none)) but
    into (Some y) got =
        subst (λ z. AgreeBut x z b) (sym (stands_behind_item lay a t k y got)) ((items_come_and_go lay x (around_before lay k a t) b y (told y got) but).1)

pub items_are_passed_over : ItemsArePassedOver
items_are_passed_over lay x a b t i j l told but = by (j - i) j (omega (arith, l)) told
  where
    by : (n j : ℕ) → j ≡ i + n → ((k : ℕ) (y : Item) → i ≤ k → k < j → slice_get (list_of t) k ≡ Some y → Tells x y) → AgreeBut x (around_before lay j a t) b
    by zero j e told = subst (λ k. AgreeBut x (around_before lay k a t) b) (let s : i ≡ j = omega (arith, e) in s) but
    by (suc n) j e told =
        let s : suc (i + n) ≡ j = omega (arith, e) in
        subst (λ k. AgreeBut x (around_before lay k a t) b) s
        (one_more lay x a b t (i + n) (λ y got. told (i + n) y (omega arith) (omega (arith, s)) got)
        (by n (i + n) refl (λ k y low high got. told k y low (omega (arith, high, s)) got)))
