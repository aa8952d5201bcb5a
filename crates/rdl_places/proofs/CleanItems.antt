-- A body has no fault exactly where each of its items has none.
use Rattle.std.proofs.Common.{◌≡◌, ℕ, zero, suc, ◌+◌, Bool, true, Option, Some, refl, sym, ap, subst, ◌∙◌, arith}
use Rattle.std.specs.Prelude.{◌&&◌, slice_get}
use Rattle.std.specs.Option.{is_none}
use Rattle.std.proofs.lemmas.Bool.{and_from, and_parts}
use Rattle.rdl_tree.specs.Component.{holder_kind}
use Rattle.rdl_tree.specs.Items.{Items, no_items, plain, holder, Plain, named, own, default, dynamic, Holder, define, anonymous}
use Rattle.rdl_tree.specs.View.{list_of, plain_item, holder_item}
use Rattle.rdl_tree.specs.declared.shell.Kind.{Kind}
use Rattle.rdl_tree.specs.declared.description.Item.{Item}
use Rattle.rdl_seen.specs.Clean.{plain_fault, holder_fault, are_clean, is_clean}
use Rattle.rdl_seen.specs.Inside.{Inside, no_instances}
use Rattle.rdl_seen.specs.Layouts.{Laying}
use Rattle.rdl_seen.specs.Meaning.{around_before}
use Rattle.rdl_seen.specs.Node.{Around, after_plain, after_holder, plain_instances, holder_instances, known}
use Rattle.rdl_seen.specs.OneByOne.{instances_before}
use Rattle.rdl_seen.proofs.Passing.{some_same}
use Rattle.rdl_places.specs.Judged.{item_fault}
use Rattle.rdl_places.specs.ScopeLaws.{IsCleanInside, BodiesAreCleanByItems, ItemsAreCleanInBodies}

first : (x y : Bool) → (x && y) ≡ true → x ≡ true
first x y h = (and_parts x y h).0

second : (x y : Bool) → (x && y) ≡ true → y ≡ true
second x y h = (and_parts x y h).1

-- ---- Single items.

plain_is : (a : Around) (around : Option Kind) (body : Items) (n : ℕ) (m : Inside) (p : Plain) → item_fault a around body n m (plain_item p) ≡ plain_fault a around body n m p
plain_is a around body n m (named s t) = refl
plain_is a around body n m (own p v) = refl
plain_is a around body n m (default p v) = refl
plain_is a around body n m (dynamic t p v) = refl

holder_is : (a : Around) (around : Option Kind) (body : Items) (n : ℕ) (m : Inside) (h : Holder) (inner : Items) → item_fault a around body n m (holder_item h inner) ≡ holder_fault around body n h
holder_is a around body n m (define name k) inner = refl
holder_is a around body n m (anonymous s k) inner = refl

nothing_inside : (lay : Laying) (a : Around) (p : Plain) → IsCleanInside lay a (plain_item p)
nothing_inside lay a (named s t) = tt
nothing_inside lay a (own p v) = tt
nothing_inside lay a (default p v) = tt
nothing_inside lay a (dynamic t p v) = tt

inside_from : (lay : Laying) (a : Around) (h : Holder) (inner : Items) → IsCleanInside lay a (holder_item h inner) → is_clean lay a (holder_kind h) inner ≡ true
inside_from lay a (define name k) inner is = is
inside_from lay a (anonymous s k) inner is = is

inside_to : (lay : Laying) (a : Around) (h : Holder) (inner : Items) → is_clean lay a (holder_kind h) inner ≡ true → IsCleanInside lay a (holder_item h inner)
inside_to lay a (define name k) inner is = is
inside_to lay a (anonymous s k) inner is = is

-- ---- From number n on.

-- an item has no fault by this, and none inside it has
abbrev IsClean : Laying → Around → Option Kind → Items → ℕ → Inside → Item → Type 0
IsClean lay a around body n m x = (is_none (item_fault a around body n m x) ≡ true) × IsCleanInside lay a x

-- each of these items, of which the first is item n of the body
abbrev AreEach : Laying → Around → Option Kind → Items → ℕ → Inside → Items → Type 0
AreEach lay a around body n m t =
    (i k : ℕ) (x : Item) → k ≡ n + i → slice_get (list_of t) i ≡ Some x → IsClean lay (around_before lay i a t) around body k (instances_before lay i a m t) x

clean_from : (lay : Laying) (a : Around) (around : Option Kind) (body : Items) (n : ℕ) (m : Inside) (t : Items) → AreEach lay a around body n m t → are_clean lay a around body n m t ≡ true
clean_from lay a around body n m no_items each = refl
clean_from lay a around body n m (plain p rest) each =
    let here : IsClean lay a around body n m (plain_item p) = each 0 n (plain_item p) (omega arith) refl in
    and_from (is_none (plain_fault a around body n m p)) (are_clean lay (after_plain p a) around body (suc n) (plain_instances a p m) rest)
    (ap (λ f. is_none f) (sym (plain_is a around body n m p)) ∙ here.0)
    (clean_from lay (after_plain p a) around body (suc n) (plain_instances a p m) rest (λ i k x e got. each (suc i) k x (omega (arith, e)) got))
clean_from lay a around body n m (holder h inner rest) each =
    let z = known lay a (holder_kind h) inner in
    let here : IsClean lay a around body n m (holder_item h inner) = each 0 n (holder_item h inner) (omega arith) refl in
    and_from (is_none (holder_fault around body n h))
    (are_clean lay a (Some (holder_kind h)) inner 0 no_instances inner && are_clean lay (after_holder h z a) around body (suc n) (holder_instances h z m) rest)
    (ap (λ f. is_none f) (sym (holder_is a around body n m h inner)) ∙ here.0)
    (and_from (are_clean lay a (Some (holder_kind h)) inner 0 no_instances inner) (are_clean lay (after_holder h z a) around body (suc n) (holder_instances h z m) rest)
    (inside_from lay a h inner here.1)
    (clean_from lay (after_holder h z a) around body (suc n) (holder_instances h z m) rest (λ i k x e got. each (suc i) k x (omega (arith, e)) got)))

clean_to : (lay : Laying) (a : Around) (around : Option Kind) (body : Items) (n : ℕ) (m : Inside) (t : Items) → are_clean lay a around body n m t ≡ true
    → (i k : ℕ) (x : Item) → k ≡ n + i → slice_get (list_of t) i ≡ Some x → IsClean lay (around_before lay i a t) around body k (instances_before lay i a m t) x
clean_to lay a around body n m no_items is i k x e got = absurd cc
clean_to lay a around body n m (plain p rest) is zero k x e got =
    let here : n ≡ k = omega (arith, e) in
    let fault = first (is_none (plain_fault a around body n m p)) (are_clean lay (after_plain p a) around body (suc n) (plain_instances a p m) rest) is in
    subst (λ j. IsClean lay a around body j m x) here
    (subst (IsClean lay a around body n m) (some_same (plain_item p) x got) (ap (λ f. is_none f) (plain_is a around body n m p) ∙ fault, nothing_inside lay a p))
clean_to lay a around body n m (plain p rest) is (suc i) k x e got =
    clean_to lay (after_plain p a) around body (suc n) (plain_instances a p m) rest
    (second (is_none (plain_fault a around body n m p)) (are_clean lay (after_plain p a) around body (suc n) (plain_instances a p m) rest) is) i k x (omega (arith, e)) got
clean_to lay a around body n m (holder h inner rest) is zero k x e got =
    let z = known lay a (holder_kind h) inner in
    let here : n ≡ k = omega (arith, e) in
    let more = are_clean lay (after_holder h z a) around body (suc n) (holder_instances h z m) rest in
    let deep = are_clean lay a (Some (holder_kind h)) inner 0 no_instances inner in
    let fault = first (is_none (holder_fault around body n h)) (deep && more) is in
    let inside = first deep more (second (is_none (holder_fault around body n h)) (deep && more) is) in
    subst (λ j. IsClean lay a around body j m x) here
    (subst (IsClean lay a around body n m) (some_same (holder_item h inner) x got) (ap (λ f. is_none f) (holder_is a around body n m h inner) ∙ fault, inside_to lay a h inner inside))
clean_to lay a around body n m (holder h inner rest) is (suc i) k x e got =
    let z = known lay a (holder_kind h) inner in
    let more = are_clean lay (after_holder h z a) around body (suc n) (holder_instances h z m) rest in
    let deep = are_clean lay a (Some (holder_kind h)) inner 0 no_instances inner in
    clean_to lay (after_holder h z a) around body (suc n) (holder_instances h z m) rest
    (second deep more (second (is_none (holder_fault around body n h)) (deep && more) is)) i k x (omega (arith, e)) got

pub bodies_are_clean_by_items : BodiesAreCleanByItems
bodies_are_clean_by_items lay a around body each =
    clean_from lay a around body 0 no_instances body
    (λ i k x e got. let same : i ≡ k = omega (arith, e) in subst (λ j. IsClean lay (around_before lay i a body) around body j (instances_before lay i a no_instances body) x) same (each i x got))

pub items_are_clean_in_bodies : ItemsAreCleanInBodies
items_are_clean_in_bodies lay a around body is = λ i x got. clean_to lay a around body 0 no_instances body is i i x (omega arith) got
