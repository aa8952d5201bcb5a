-- Items that may not stand in one body together, and that those which stayed still don't.
use Rattle.std.proofs.Common.{◌≡◌, ℕ, zero, suc, ◌+◌, ◌<◌, ◌≤◌, Bool, true, false, cond, if◌then◌else◌, List, [], ◌∷◌, Option, Some, None, ◌⊎◌, inl, inr, bytes_eq, refl, sym, ap, subst, ◌∙◌, arith}
use Rattle.std.specs.Prelude.{◌&&◌, ◌||◌, not, slice_get, option_and_then}
use Rattle.std.specs.Cmp.Lexicographic.{pointwise}
use Rattle.std.specs.List.{list_any}
use Rattle.std.specs.Option.{is_some, is_none, option_or}
use Rattle.std.proofs.lemmas.Bool.{cases_lt}
use Rattle.std.proofs.lemmas.Slice.Eq.{bytes_eq-Decides}
use Rattle.rdl_tree.specs.Component.{holder_kind}
use Rattle.rdl_tree.specs.Items.{Items, no_items, plain, holder, Plain, named, own, default, dynamic, Holder, define, anonymous}
use Rattle.rdl_tree.specs.Properties.{row, property_of, takes}
use Rattle.rdl_tree.specs.View.{list_of, plain_item, holder_item}
use Rattle.rdl_tree.specs.declared.description.Item.{Item}
use Rattle.rdl_tree.specs.declared.description.Item.TheVariants.{Define, Instance, Own, Default, Dynamic}
use Rattle.rdl_tree.specs.declared.fault.FaultKind.{FaultKind}
use Rattle.rdl_tree.specs.declared.fault.FaultKind.TheVariants.{AssignedTwice, Exclusive, NoSuchTarget, NotDynamic, NotOfKind, WrongValue}
use Rattle.rdl_tree.specs.declared.property.Property.{Property}
use Rattle.rdl_tree.specs.declared.property.Property.TheVariants.{Rclr, Rset, Onread, Woclr, Woset, Onwrite, We, Wel, Swwe, Swwel}
use Rattle.rdl_tree.specs.declared.shell.Kind.{Kind}
use Rattle.rdl_tree.specs.declared.shell.Shell.{Shell}
use Rattle.rdl_tree.specs.declared.value.Value.{Value}
use Rattle.rdl_scope.specs.ItemFaults.{define_fault, instance_fault, own_fault, default_fault, dynamic_fault, excluded_by, first_of, is_of, is_set, reached_before, rivals}
use Rattle.rdl_scope.specs.Keys.{has_key, key_before}
use Rattle.rdl_scope.specs.Target.{instance_before}
use Rattle.rdl_scope.specs.Types.{last_definition}
use Rattle.rdl_scope.specs.Value.{is_false, last_default, own_before}
use Rattle.rdl_scope.specs.Walk.{defaulted_by, is_definition, is_instance, owned_by}
use Rattle.rdl_scope.proofs.Instances.{instance-suc}
use Rattle.rdl_scope.proofs.Repeats.{dynamic-key, key-suc}
use Rattle.rdl_scope.proofs.Searches.{last-suc}
use Rattle.rdl_scope.proofs.ValueSearches.{own-suc, default-suc}
use Rattle.rdl_marks.specs.Describes.{IsItem}
use Rattle.rdl_marks.specs.View.{old_item}
use Rattle.rdl_marks.specs.Was.{number_of, was}
use Rattle.rdl_marks.proofs.Apart.{had_other_numbers}
use Rattle.rdl_seen.specs.Clean.{are_clean, plain_fault, holder_fault, kind_of, kind_in}
use Rattle.rdl_seen.specs.Inside.{Inside, no_instances}
use Rattle.rdl_seen.specs.Layouts.{Laying}
use Rattle.rdl_seen.specs.Node.{Around, after_plain, after_holder, plain_instances, holder_instances, known}
use Rattle.rdl_seen.proofs.Puts.{name-of}
use Rattle.rdl_renew.specs.Alone.{is_rival, clashes, stands_alone, AllStandAlone, CleanStandAlone, ClashesAreTurned, StandsAloneByItems, NoneClash, StandsAloneStill}
use Rattle.rdl_renew.specs.TakenOver.{retyped, IsAsItWasOutside}
use Rattle.rdl_renew.proofs.Outside.{untyped, item_untyped, clash_same}
use Rattle.rdl_renew.proofs.Raised.{from_there}

-- ---- Tests.

both : (a b : Bool) → (a || b) ≡ false → (a ≡ false) × (b ≡ false)
both true b e = absurd cc
both false b e = (refl, e)

neither : (a b : Bool) → a ≡ false → b ≡ false → (a || b) ≡ false
neither true b e g = absurd cc
neither false b e g = g

pub two_true : (a b : Bool) → (a && b) ≡ true → (a ≡ true) × (b ≡ true)
two_true true b e = (refl, e)
two_true false b e = absurd cc

pub and_true : (a b : Bool) → a ≡ true → b ≡ true → (a && b) ≡ true
and_true true b e g = g
and_true false b e g = absurd cc

not_false : (a : Bool) → a ≡ false → not a ≡ true
not_false true e = absurd cc
not_false false e = refl

pub was_false : (a : Bool) → not a ≡ true → a ≡ false
was_false true e = absurd cc
was_false false e = refl

same_test : (a b : Bool) → (a ≡ true → b ≡ true) → (b ≡ true → a ≡ true) → a ≡ b
same_test true b f g = sym (f refl)
same_test false true f g = absurd (let no : false ≡ true = g refl in cc)
same_test false false f g = refl

-- ---- A search among the first n of some items, one item more at each step.

module _ (xs : List Item) (P : ℕ → Bool) (t : Option Item → Bool) (first : P 0 ≡ false) (next : (n : ℕ) → P (suc n) ≡ (P n || t (slice_get xs n))) (no : t None ≡ false) where
  none_found : (n : ℕ) → ((k : ℕ) (z : Item) → k < n → slice_get xs k ≡ Some z → t (Some z) ≡ false) → P n ≡ false
  none_found zero h = first
  none_found (suc n) h = next n ∙ neither (P n) (t (slice_get xs n)) (none_found n (λ k z l got. h k z (omega (arith, l)) got)) (by (slice_get xs n) refl)
    where
      by : (o : Option Item) → slice_get xs n ≡ o → t (slice_get xs n) ≡ false
      by None e = ap t e ∙ no
      by (Some z) e = ap t e ∙ h n z (omega arith) e

  each_other : (n : ℕ) → P n ≡ false → (k : ℕ) (z : Item) → k < n → slice_get xs k ≡ Some z → t (Some z) ≡ false
  each_other zero e k z l got = absurd (omega (arith, l))
  each_other (suc n) e k z l got = by (λ m. each_other n (both (P n) (t (slice_get xs n)) (sym (next n) ∙ e)).0 k z m got) (cases_lt k n)
    where
      parts : (P n ≡ false) × (t (slice_get xs n) ≡ false)
      parts = both (P n) (t (slice_get xs n)) (sym (next n) ∙ e)

      by : (k < n → t (Some z) ≡ false) → ((k < n) ⊎ (n ≤ k)) → t (Some z) ≡ false
      by before (inl m) = before m
      by before (inr m) = let same : k ≡ n = omega (arith, l, m) in ap t (sym got) ∙ (ap (λ j. t (slice_get xs j)) same ∙ parts.1)

some_or : {X : Type 0} (a b : Option X) → is_some (option_or a b) ≡ (is_some a || is_some b)
some_or None b = refl
some_or (Some x) b = refl

some_cond : {X : Type 0} (b : Bool) (x : X) (o : Option X) → is_some (cond b (Some x) o) ≡ (is_some o || b)
some_cond true x None = refl
some_cond true x (Some y) = refl
some_cond false x None = refl
some_cond false x (Some y) = refl

some_turned : {X : Type 0} (a b : Option X) → is_some (option_or a b) ≡ (is_some b || is_some a)
some_turned None None = refl
some_turned None (Some y) = refl
some_turned (Some x) None = refl
some_turned (Some x) (Some y) = refl

or_turned : (a b : Bool) → (a || b) ≡ (b || a)
or_turned true true = refl
or_turned true false = refl
or_turned false true = refl
or_turned false false = refl

abbrev definitions : List ℕ → Items → ℕ → Bool
definitions q body n = is_some (last_definition q n body)

next_definition : (q : List ℕ) (body : Items) (n : ℕ) → definitions q body (suc n) ≡ (definitions q body n || is_definition q (slice_get (list_of body) n))
next_definition q body n = ap (λ o. is_some o) (last-suc q n body) ∙ some_cond (is_definition q (slice_get (list_of body) n)) n (last_definition q n body)

abbrev instances : List ℕ → Items → ℕ → Bool
instances q body n = is_some (instance_before q n body)

next_instance : (q : List ℕ) (body : Items) (n : ℕ) → instances q body (suc n) ≡ (instances q body n || is_instance q (slice_get (list_of body) n))
next_instance q body n =
    ap (λ o. is_some o) (instance-suc q n body)
    ∙ (some_or (instance_before q n body) (cond (is_instance q (slice_get (list_of body) n)) (Some n) None)
    ∙ ap (λ z. is_some (instance_before q n body) || z) (some_cond (is_instance q (slice_get (list_of body) n)) n None))

abbrev owns : List ℕ → Items → ℕ → Bool
owns q body n = is_some (own_before q n body)

next_own : (q : List ℕ) (body : Items) (n : ℕ) → owns q body (suc n) ≡ (owns q body n || is_some (owned_by q (slice_get (list_of body) n)))
next_own q body n = ap (λ o. is_some o) (own-suc q n body) ∙ some_or (own_before q n body) (owned_by q (slice_get (list_of body) n))

abbrev defaults : List ℕ → Items → ℕ → Bool
defaults q body n = is_some (last_default q n body)

next_default : (q : List ℕ) (body : Items) (n : ℕ) → defaults q body (suc n) ≡ (defaults q body n || is_some (defaulted_by q (slice_get (list_of body) n)))
next_default q body n = ap (λ o. is_some o) (default-suc q n body) ∙ some_turned (defaulted_by q (slice_get (list_of body) n)) (last_default q n body)

-- an item that has the key, if there is one
abbrev keyed : List (List ℕ) → Option Item → Bool
keyed key None = false
keyed key (Some x) = has_key key x

abbrev keys : List (List ℕ) → List Item → ℕ → Bool
keys key xs n = key_before key n xs

no_key_more : (key : List (List ℕ)) (n : ℕ) (xs : List Item) → slice_get xs n ≡ None → key_before key (suc n) xs ≡ key_before key n xs
no_key_more key zero [] e = refl
no_key_more key (suc n) [] e = refl
no_key_more key zero (x ∷ xs) e = absurd cc
no_key_more key (suc n) (x ∷ xs) e = ap (λ z. has_key key x || z) (no_key_more key n xs e)

or_false : (a : Bool) → a ≡ (a || false)
or_false true = refl
or_false false = refl

next_key : (key : List (List ℕ)) (xs : List Item) (n : ℕ) → keys key xs (suc n) ≡ (keys key xs n || keyed key (slice_get xs n))
next_key key xs n = by (slice_get xs n) refl
  where
    by : (o : Option Item) → slice_get xs n ≡ o → key_before key (suc n) xs ≡ (key_before key n xs || keyed key o)
    by None e = no_key_more key n xs e ∙ or_false (key_before key n xs)
    by (Some x) e = key-suc key n xs x e ∙ or_turned (has_key key x) (key_before key n xs)

first_key : (key : List (List ℕ)) (xs : List Item) → keys key xs 0 ≡ false
first_key key [] = refl
first_key key (x ∷ xs) = refl

-- ---- Rivals.

any_none : {X : Type 0} (f g : X → Bool) (xs : List X) → ((x : X) → f x ≡ false → g x ≡ false) → list_any f xs ≡ false → list_any g xs ≡ false
any_none f g [] h e = refl
any_none f g (x ∷ xs) h e = let two = both (f x) (list_any f xs) e in neither (g x) (list_any g xs) (h x two.0) (any_none f g xs h two.1)

set_or : (a b : Option Value) → is_set a ≡ false → is_set b ≡ false → is_set (option_or a b) ≡ false
set_or None b e g = g
set_or (Some v) b e g = e

none_set : (q : List ℕ) (body : Items) (n : ℕ) → ((k : ℕ) (z : Item) → k < n → IsItem k body z → is_set (owned_by q (Some z)) ≡ false) → is_set (own_before q n body) ≡ false
none_set q body zero h = refl
none_set q body (suc n) h =
    ap is_set (own-suc q n body)
    ∙ set_or (own_before q n body) (owned_by q (slice_get (list_of body) n)) (none_set q body n (λ k z l got. h k z (omega (arith, l)) got)) (by (slice_get (list_of body) n) refl)
  where
    by : (o : Option Item) → slice_get (list_of body) n ≡ o → is_set (owned_by q (slice_get (list_of body) n)) ≡ false
    by None e = ap (λ o. is_set (owned_by q o)) e
    by (Some z) e = ap (λ o. is_set (owned_by q o)) e ∙ h n z (omega arith) e

no_rival_set : (body : Items) (n : ℕ) (rs : List Property) → ((k : ℕ) (z : Item) → k < n → IsItem k body z → list_any (λ r. is_set (owned_by (row r).name (Some z))) rs ≡ false)
    → list_any (λ r. is_set (own_before (row r).name n body)) rs ≡ false
no_rival_set body n [] h = refl
no_rival_set body n (r ∷ rs) h =
    let parts : (k : ℕ) (z : Item) → k < n → IsItem k body z → (is_set (owned_by (row r).name (Some z)) ≡ false) × (list_any (λ r. is_set (owned_by (row r).name (Some z))) rs ≡ false) =
    λ k z l got. both (is_set (owned_by (row r).name (Some z))) (list_any (λ r. is_set (owned_by (row r).name (Some z))) rs) (h k z l got) in
    neither (is_set (own_before (row r).name n body)) (list_any (λ r. is_set (own_before (row r).name n body)) rs)
    (none_set (row r).name body n (λ k z l got. (parts k z l got).0)) (no_rival_set body n rs (λ k z l got. (parts k z l got).1))

-- the first own assignment of a property is found behind it
found_behind : (q : List ℕ) (body : Items) (k n : ℕ) (w : Value) → own_before q k body ≡ None → owned_by q (slice_get (list_of body) k) ≡ Some w → k < n → own_before q n body ≡ Some w
found_behind q body k zero w none e l = absurd (omega (arith, l))
found_behind q body k (suc n) w none e l = own-suc q n body ∙ by (λ m. found_behind q body k n w none e m) (cases_lt k n)
  where
    by : (k < n → own_before q n body ≡ Some w) → ((k < n) ⊎ (n ≤ k)) → option_or (own_before q n body) (owned_by q (slice_get (list_of body) n)) ≡ Some w
    by before (inl m) = ap (λ o. option_or o (owned_by q (slice_get (list_of body) n))) (before m)
    by before (inr m) = let same : n ≡ k = omega (arith, l, m) in ap (λ j. option_or (own_before q j body) (owned_by q (slice_get (list_of body) j))) same ∙ (λ i. option_or (none i) (e i))

no_some : {X : Type 0} (o : Option X) → not (is_some o) ≡ true → o ≡ None
no_some None e = refl
no_some (Some x) e = absurd cc

-- a rival among the items that all stand alone is the one that is found
not_set : (body : Items) → AllStandAlone body → (k n : ℕ) (z : Item) → k < n → IsItem k body z → (r : Property) → is_set (own_before (row r).name n body) ≡ false
    → is_set (owned_by (row r).name (Some z)) ≡ false
not_set body all k n (Define m c) l got r e = refl
not_set body all k n (Instance s of) l got r e = refl
not_set body all k n (Default p v) l got r e = refl
not_set body all k n (Dynamic t p v) l got r e = refl
not_set body all k n (Own q w) l got r e = by (bytes_eq q (row r).name) refl
  where
    by : (t : Bool) → bytes_eq q (row r).name ≡ t → is_set (if t then Some w else None) ≡ false
    by false is = refl
    by true is =
        let same : q ≡ (row r).name = (bytes_eq-Decides q (row r).name).0 is in
        let alone = two_true (not (is_some (own_before q k body))) (not (not (is_false w) && excluded_by k body (property_of q))) (all k (Own q w) got) in
        let none : own_before (row r).name k body ≡ None = subst (λ p. own_before p k body ≡ None) same (no_some (own_before q k body) alone.0) in
        let owned : owned_by (row r).name (slice_get (list_of body) k) ≡ Some w = ap (owned_by (row r).name) got ∙ ap (λ t. if t then Some w else None) is in
        sym (ap is_set (found_behind (row r).name body k n w none owned l)) ∙ e

-- ---- Both ways.

equal_turned : (p q : List ℕ) → bytes_eq p q ≡ bytes_eq q p
equal_turned p q =
    same_test (bytes_eq p q) (bytes_eq q p) (λ e. (bytes_eq-Decides q p).1 (sym ((bytes_eq-Decides p q).0 e))) (λ e. (bytes_eq-Decides p q).1 (sym ((bytes_eq-Decides q p).0 e)))

texts_turned : (x y : List (List ℕ)) → pointwise bytes_eq x y ≡ pointwise bytes_eq y x
texts_turned [] [] = refl
texts_turned [] (b ∷ y) = refl
texts_turned (a ∷ x) [] = refl
texts_turned (a ∷ x) (b ∷ y) = λ i. equal_turned a b i && texts_turned x y i

-- a name among those of these properties
abbrev is_among : List ℕ → List Property → Bool
is_among q rs = list_any (λ r. bytes_eq q (row r).name) rs

abbrev excludes : Option Property → List ℕ → Bool
excludes None q = false
excludes (Some p) q = is_among q (rivals p)

one_of : (q : List ℕ) (a : Property) (r : List ℕ) → excludes (property_of (row a).name) r ≡ true → is_among q (a ∷ []) ≡ true → excludes (property_of q) r ≡ true
one_of q a r h e = by (bytes_eq q (row a).name) refl e
  where
    by : (t : Bool) → bytes_eq q (row a).name ≡ t → (t || false) ≡ true → excludes (property_of q) r ≡ true
    by true is g = ap (λ z. excludes (property_of z) r) ((bytes_eq-Decides q (row a).name).0 is) ∙ h
    by false is g = absurd cc

two_of : (q : List ℕ) (a b : Property) (r : List ℕ) → excludes (property_of (row a).name) r ≡ true → excludes (property_of (row b).name) r ≡ true → is_among q (a ∷ b ∷ []) ≡ true
    → excludes (property_of q) r ≡ true
two_of q a b r h g e = by (bytes_eq q (row a).name) refl e
  where
    by : (t : Bool) → bytes_eq q (row a).name ≡ t → (t || is_among q (b ∷ [])) ≡ true → excludes (property_of q) r ≡ true
    by true is f = ap (λ z. excludes (property_of z) r) ((bytes_eq-Decides q (row a).name).0 is) ∙ h
    by false is f = one_of q b r g f

rivals_turned : (p : Property) (q : List ℕ) → is_among q (rivals p) ≡ true → excludes (property_of q) (row p).name ≡ true
unfolding rivals property_of
rivals_turned Rclr q e = two_of q Rset Onread (row Rclr).name refl refl e
rivals_turned Rset q e = two_of q Rclr Onread (row Rset).name refl refl e
rivals_turned Onread q e = two_of q Rclr Rset (row Onread).name refl refl e
rivals_turned Woclr q e = two_of q Woset Onwrite (row Woclr).name refl refl e
rivals_turned Woset q e = two_of q Woclr Onwrite (row Woset).name refl refl e
rivals_turned Onwrite q e = two_of q Woclr Woset (row Onwrite).name refl refl e
rivals_turned We q e = one_of q Wel (row We).name refl e
rivals_turned Wel q e = one_of q We (row Wel).name refl e
rivals_turned Swwe q e = one_of q Swwel (row Swwe).name refl e
rivals_turned Swwel q e = one_of q Swwe (row Swwel).name refl e
rivals_turned p q e = absurd cc

excluded_turned : (p q : List ℕ) → excludes (property_of p) q ≡ true → excludes (property_of q) p ≡ true
excluded_turned p q e = by (property_of p) refl e
  where
    by : (o : Option Property) → property_of p ≡ o → excludes o q ≡ true → excludes (property_of q) p ≡ true
    by None is g = absurd cc
    by (Some r) is g = subst (λ z. excludes (property_of q) z ≡ true) (sym (name-of p r is)) (rivals_turned r q g)

set_if : (t : Bool) (w : Value) → is_set (if t then Some w else None) ≡ (not (is_false w) && t)
set_if true w = by (is_false w)
  where
    by : (b : Bool) → not b ≡ (not b && true)
    by true = refl
    by false = refl
set_if false w = by (is_false w)
  where
    by : (b : Bool) → false ≡ (not b && false)
    by true = refl
    by false = refl

and_or : (a b c : Bool) → (a && b || a && c) ≡ (a && (b || c))
and_or true b c = refl
and_or false b c = refl

and_none : (a : Bool) → false ≡ (a && false)
and_none true = refl
and_none false = refl

any_set : (q : List ℕ) (w : Value) (rs : List Property) → list_any (λ r. is_set (owned_by (row r).name (Some (Own q w)))) rs ≡ (not (is_false w) && is_among q rs)
any_set q w [] = and_none (not (is_false w))
any_set q w (r ∷ rs) =
    (λ i. set_if (bytes_eq q (row r).name) w i || any_set q w rs i) ∙ and_or (not (is_false w)) (bytes_eq q (row r).name) (is_among q rs)

rival_own : (o : Option Property) (q : List ℕ) (w : Value) → is_rival o (Own q w) ≡ (not (is_false w) && excludes o q)
rival_own None q w = and_none (not (is_false w))
rival_own (Some p) q w = any_set q w (rivals p)

some_if : (t : Bool) (w : Value) → is_some (if t then Some w else None) ≡ t
some_if true w = refl
some_if false w = refl

own_clash : (p : List ℕ) (v : Value) (q : List ℕ) (w : Value) → clashes (Own p v) (Own q w) ≡ (bytes_eq q p || not (is_false v) && (not (is_false w) && excludes (property_of p) q))
own_clash p v q w = λ i. some_if (bytes_eq q p) w i || not (is_false v) && rival_own (property_of p) q w i

and_swap : (a b c d : Bool) → c ≡ d → (a && (b && c)) ≡ (b && (a && d))
and_swap true true c d e = e
and_swap true false c d e = refl
and_swap false true c d e = refl
and_swap false false c d e = refl

owns_turned : (p : List ℕ) (v : Value) (q : List ℕ) (w : Value) → clashes (Own p v) (Own q w) ≡ clashes (Own q w) (Own p v)
owns_turned p v q w =
    own_clash p v q w
    ∙ ((λ i. equal_turned q p i
    || and_swap (not (is_false v)) (not (is_false w)) (excludes (property_of p) q) (excludes (property_of q) p)
    (same_test (excludes (property_of p) q) (excludes (property_of q) p) (excluded_turned p q) (excluded_turned q p)) i)
    ∙ sym (own_clash q w p v))

-- an own assignment clashes with no item of another kind
own_other : (a : Bool) (o : Option Property) (z : Item) → ((q : List ℕ) → owned_by q (Some z) ≡ None) → (a && is_rival o z) ≡ false
own_other false o z h = refl
own_other true None z h = refl
own_other true (Some p) z h = none (rivals p)
  where
    none : (rs : List Property) → list_any (λ r. is_set (owned_by (row r).name (Some z))) rs ≡ false
    none [] = refl
    none (r ∷ rs) = neither (is_set (owned_by (row r).name (Some z))) (list_any (λ r. is_set (owned_by (row r).name (Some z))) rs) (ap is_set (h (row r).name)) (none rs)

pub clashes_are_turned : ClashesAreTurned
clashes_are_turned (Define n c) (Define m d) = equal_turned m n
clashes_are_turned (Define n c) (Instance s of) = refl
clashes_are_turned (Define n c) (Own q w) = sym (own_other (not (is_false w)) (property_of q) (Define n c) (λ p. refl))
clashes_are_turned (Define n c) (Default q w) = refl
clashes_are_turned (Define n c) (Dynamic u q w) = refl
clashes_are_turned (Instance s o) (Define m d) = refl
clashes_are_turned (Instance s o) (Instance t of) = equal_turned t.name s.name
clashes_are_turned (Instance s o) (Own q w) = sym (own_other (not (is_false w)) (property_of q) (Instance s o) (λ p. refl))
clashes_are_turned (Instance s o) (Default q w) = refl
clashes_are_turned (Instance s o) (Dynamic u q w) = refl
clashes_are_turned (Own p v) (Define m d) = own_other (not (is_false v)) (property_of p) (Define m d) (λ q. refl)
clashes_are_turned (Own p v) (Instance s of) = own_other (not (is_false v)) (property_of p) (Instance s of) (λ q. refl)
clashes_are_turned (Own p v) (Own q w) = owns_turned p v q w
clashes_are_turned (Own p v) (Default q w) = own_other (not (is_false v)) (property_of p) (Default q w) (λ r. refl)
clashes_are_turned (Own p v) (Dynamic u q w) = own_other (not (is_false v)) (property_of p) (Dynamic u q w) (λ r. refl)
clashes_are_turned (Default p v) (Define m d) = refl
clashes_are_turned (Default p v) (Instance s of) = refl
clashes_are_turned (Default p v) (Own q w) = sym (own_other (not (is_false w)) (property_of q) (Default p v) (λ r. refl))
clashes_are_turned (Default p v) (Default q w) = some_if (bytes_eq q p) w ∙ (equal_turned q p ∙ sym (some_if (bytes_eq p q) v))
clashes_are_turned (Default p v) (Dynamic u q w) = refl
clashes_are_turned (Dynamic t p v) (Define m d) = refl
clashes_are_turned (Dynamic t p v) (Instance s of) = refl
clashes_are_turned (Dynamic t p v) (Own q w) = sym (own_other (not (is_false w)) (property_of q) (Dynamic t p v) (λ r. refl))
clashes_are_turned (Dynamic t p v) (Default q w) = refl
clashes_are_turned (Dynamic t p v) (Dynamic u q w) = texts_turned (q ∷ u) (p ∷ t)

-- ---- Alone, item by item.

own_alone : (body : Items) (n : ℕ) (p : List ℕ) (v : Value) → ((k : ℕ) (z : Item) → k < n → IsItem k body z → clashes (Own p v) z ≡ false)
    → not (not (is_false v) && excluded_by n body (property_of p)) ≡ true
own_alone body n p v h = by (is_false v) (property_of p) (λ k z l got. (both (is_some (owned_by p (Some z))) (not (is_false v) && is_rival (property_of p) z) (h k z l got)).1)
  where
    by : (b : Bool) (o : Option Property) → ((k : ℕ) (z : Item) → k < n → IsItem k body z → (not b && is_rival o z) ≡ false) → not (not b && excluded_by n body o) ≡ true
    by true o g = refl
    by false None g = refl
    by false (Some q) g = not_false (excluded_by n body (Some q)) (no_rival_set body n (rivals q) g)

pub stands_alone_by_items : StandsAloneByItems
stands_alone_by_items body n (Define m c) h = not_false (definitions m body n) (none_found (list_of body) (definitions m body) (is_definition m) refl (next_definition m body) refl n h)
stands_alone_by_items body n (Instance s of) h = not_false (instances s.name body n) (none_found (list_of body) (instances s.name body) (is_instance s.name) refl (next_instance s.name body) refl n h)
stands_alone_by_items body n (Own p v) h =
    and_true (not (owns p body n)) (not (not (is_false v) && excluded_by n body (property_of p)))
    (not_false (owns p body n)
    (none_found (list_of body) (owns p body) (λ o. is_some (owned_by p o)) refl (next_own p body) refl n
    (λ k z l got. (both (is_some (owned_by p (Some z))) (not (is_false v) && is_rival (property_of p) z) (h k z l got)).0)))
    (own_alone body n p v h)
stands_alone_by_items body n (Default p v) h = not_false (defaults p body n) (none_found (list_of body) (defaults p body) (λ o. is_some (defaulted_by p o)) refl (next_default p body) refl n h)
stands_alone_by_items body n (Dynamic t p v) h =
    not_false (reached_before t p n body)
    (sym (dynamic-key t p n body)
    ∙ none_found (list_of body) (keys (p ∷ t) (list_of body)) (keyed (p ∷ t)) (first_key (p ∷ t) (list_of body)) (next_key (p ∷ t) (list_of body)) refl n h)

pub none_clash : NoneClash
none_clash body all k n z (Define m c) l here got =
    each_other (list_of body) (definitions m body) (is_definition m) refl (next_definition m body) refl n (was_false (definitions m body n) (all n (Define m c) got)) k z l here
none_clash body all k n z (Instance s of) l here got =
    each_other (list_of body) (instances s.name body) (is_instance s.name) refl (next_instance s.name body) refl n (was_false (instances s.name body n) (all n (Instance s of) got)) k z l here
none_clash body all k n z (Own p v) l here got =
    let alone = two_true (not (owns p body n)) (not (not (is_false v) && excluded_by n body (property_of p))) (all n (Own p v) got) in
    neither (is_some (owned_by p (Some z))) (not (is_false v) && is_rival (property_of p) z)
    (each_other (list_of body) (owns p body) (λ o. is_some (owned_by p o)) refl (next_own p body) refl n (was_false (owns p body n) alone.0) k z l here)
    (by (is_false v) (property_of p) alone.1)
  where
    by : (b : Bool) (o : Option Property) → not (not b && excluded_by n body o) ≡ true → (not b && is_rival o z) ≡ false
    by true o e = refl
    by false None e = refl
    by false (Some q) e =
        any_none (λ r. is_set (own_before (row r).name n body)) (λ r. is_set (owned_by (row r).name (Some z))) (rivals q) (λ r g. not_set body all k n z l here r g)
        (was_false (excluded_by n body (Some q)) e)
none_clash body all k n z (Default p v) l here got =
    each_other (list_of body) (defaults p body) (λ o. is_some (defaulted_by p o)) refl (next_default p body) refl n (was_false (defaults p body n) (all n (Default p v) got)) k z l here
none_clash body all k n z (Dynamic t p v) l here got =
    each_other (list_of body) (keys (p ∷ t) (list_of body)) (keyed (p ∷ t)) (first_key (p ∷ t) (list_of body)) (next_key (p ∷ t) (list_of body)) refl n
    (dynamic-key t p n body ∙ was_false (reached_before t p n body) (all n (Dynamic t p v) got)) k z l here

-- ---- Those that stayed.

pub stands_alone_still : StandsAloneStill
stands_alone_still m old now d all i n y got h others = stands_alone_by_items now i y each
  where
    was_n : was m i ≡ Some n
    was_n = ap (option_and_then number_of) h.2

    -- what stood there
    first : (j k : ℕ) (z : Item) → IsItem j now z → IsAsItWasOutside m j k → (w : Item) × IsItem k old w × (untyped w ≡ untyped z)
    first j k z there g = item_untyped old k g.1 g.0 z (from_there m old now j (old_item k (retyped g.1) g.0) z d there g.2)

    kept : (j k : ℕ) (z : Item) → j < i → IsItem j now z → IsAsItWasOutside m j k → clashes y z ≡ false
    kept j k z l there g = by (cases_lt k n) (cases_lt n k)
      where
        by : ((k < n) ⊎ (n ≤ k)) → ((n < k) ⊎ (k ≤ n)) → clashes y z ≡ false
        by (inl b) o = let v = first i n y got h in let w = first j k z there g in clash_same y z v.0 w.0 v.2 w.2 ∙ none_clash old all k n w.0 v.0 b w.1 v.1
        by (inr b) (inl c) =
            let v = first i n y got h in
            let w = first j k z there g in
            clashes_are_turned y z ∙ (clash_same z y w.0 v.0 w.2 v.2 ∙ none_clash old all n k v.0 w.0 c v.1 w.1)
        by (inr b) (inr c) =
            let same : k ≡ n = omega (arith, b, c) in
            let one : j ≡ i = had_other_numbers m old now d j i n (ap (option_and_then number_of) g.2 ∙ ap Some same) was_n in
            absurd (omega (arith, l, one))

    each : (j : ℕ) (z : Item) → j < i → IsItem j now z → clashes y z ≡ false
    each j z l there = by (others j z l there)
      where
        by : ((k : ℕ) × IsAsItWasOutside m j k) ⊎ (clashes y z ≡ false) → clashes y z ≡ false
        by (inl g) = kept j g.0 z l there g.1
        by (inr e) = e

-- ---- Where no item has a fault.

once : (a b : Bool) (f g : FaultKind) (fs : List (Bool × FaultKind)) → is_none (first_of ((a, f) ∷ fs)) ≡ true → not a ≡ true
once true b f g fs e = absurd cc
once false b f g fs e = refl

define_once : (around : Option Kind) (twice : Bool) (k : Kind) → is_none (define_fault around twice k) ≡ true → not twice ≡ true
unfolding define_fault
define_once around true k e = absurd cc
define_once around false k e = refl

instance_once : (around : Option Kind) (twice : Bool) (s : Shell) (o : Option Kind) → is_none (instance_fault around twice s o) ≡ true → not twice ≡ true
unfolding instance_fault
instance_once around true s None e = absurd cc
instance_once around true s (Some k) e = absurd cc
instance_once around false s o e = refl

last_two : (a b c d : Bool) (f g h k : FaultKind) → is_none (first_of ((a, f) ∷ (b, g) ∷ (c, h) ∷ (d, k) ∷ [])) ≡ true → (not c && not d) ≡ true
last_two true b c d f g h k e = absurd cc
last_two false true c d f g h k e = absurd cc
last_two false false true d f g h k e = absurd cc
last_two false false false true f g h k e = absurd cc
last_two false false false false f g h k e = refl

third : (a b c : Bool) (f g h : FaultKind) (fs : List (Bool × FaultKind)) → is_none (first_of ((a, f) ∷ (b, g) ∷ (c, h) ∷ fs)) ≡ true → not c ≡ true
third true b c f g h fs e = absurd cc
third false true c f g h fs e = absurd cc
third false false true f g h fs e = absurd cc
third false false false f g h fs e = refl

second : (a b : Bool) (f g : FaultKind) (fs : List (Bool × FaultKind)) → is_none (first_of ((a, f) ∷ (b, g) ∷ fs)) ≡ true → not b ≡ true
second true b f g fs e = absurd cc
second false true f g fs e = absurd cc
second false false f g fs e = refl

own_once : (around : Option Kind) (twice excluded : Bool) (o : Option Property) (v : Value) → is_none (own_fault around twice excluded o v) ≡ true → (not twice && not (not (is_false v) && excluded)) ≡ true
unfolding own_fault
own_once around twice excluded None v e = absurd cc
own_once around twice excluded (Some p) v e = last_two (not (is_of around p)) (not (takes p v)) twice (not (is_false v) && excluded) NotOfKind WrongValue AssignedTwice Exclusive e

default_once : (twice : Bool) (o : Option Property) (v : Value) → is_none (default_fault twice o v) ≡ true → not twice ≡ true
unfolding default_fault
default_once twice None v e = absurd cc
default_once twice (Some p) v e = second (not (takes p v)) twice WrongValue AssignedTwice [] e

dynamic_once : (twice : Bool) (o : Option Property) (v : Value) (kind : Option Kind) → is_none (dynamic_fault twice o v kind) ≡ true → not twice ≡ true
unfolding dynamic_fault
dynamic_once twice None v kind e = absurd cc
dynamic_once twice (Some p) v kind e =
    third (is_some kind && not (is_of kind p)) (not (takes p v)) twice NotOfKind WrongValue AssignedTwice ((is_none kind, NoSuchTarget) ∷ (not (row p).dynamic, NotDynamic) ∷ []) e

plain_alone : (a : Around) (around : Option Kind) (body : Items) (n : ℕ) (before : Inside) (p : Plain) → is_none (plain_fault a around body n before p) ≡ true → stands_alone body n (plain_item p) ≡ true
plain_alone a around body n before (named s t) e = instance_once around (is_some (instance_before s.name n body)) s (kind_of t a) e
plain_alone a around body n before (own p v) e = own_once around (is_some (own_before p n body)) (excluded_by n body (property_of p)) (property_of p) v e
plain_alone a around body n before (default p v) e = default_once (is_some (last_default p n body)) (property_of p) v e
plain_alone a around body n before (dynamic t p v) e = dynamic_once (reached_before t p n body) (property_of p) v (kind_in t before) e

holder_alone : (around : Option Kind) (body : Items) (n : ℕ) (h : Holder) (inner : Items) → is_none (holder_fault around body n h) ≡ true → stands_alone body n (holder_item h inner) ≡ true
holder_alone around body n (define m k) inner e = define_once around (is_some (last_definition m n body)) k e
holder_alone around body n (anonymous s k) inner e = instance_once around (is_some (instance_before s.name n body)) s (Some k) e

clean_from : (lay : Laying) (a : Around) (around : Option Kind) (body : Items) (n : ℕ) (before : Inside) (t : Items) → are_clean lay a around body n before t ≡ true
    → (k j : ℕ) (y : Item) → n + k ≡ j → slice_get (list_of t) k ≡ Some y → stands_alone body j y ≡ true
clean_from lay a around body n before no_items e k j y at got = absurd cc
clean_from lay a around body n before (plain p rest) e zero j y at got =
    let two = two_true (is_none (plain_fault a around body n before p)) (are_clean lay (after_plain p a) around body (suc n) (plain_instances a p before) rest) e in
    let same : plain_item p ≡ y = cc in
    let here : n ≡ j = omega (arith, at) in
    (λ i. stands_alone body (sym here i) (sym same i)) ∙ plain_alone a around body n before p two.0
clean_from lay a around body n before (plain p rest) e (suc k) j y at got =
    let two = two_true (is_none (plain_fault a around body n before p)) (are_clean lay (after_plain p a) around body (suc n) (plain_instances a p before) rest) e in
    clean_from lay (after_plain p a) around body (suc n) (plain_instances a p before) rest two.1 k j y (omega (arith, at)) got
clean_from lay a around body n before (holder h inner rest) e zero j y at got =
    let c = known lay a (holder_kind h) inner in
    let two =
    two_true (is_none (holder_fault around body n h))
    (are_clean lay a (Some (holder_kind h)) inner 0 no_instances inner && are_clean lay (after_holder h c a) around body (suc n) (holder_instances h c before) rest) e in
    let same : holder_item h inner ≡ y = cc in
    let here : n ≡ j = omega (arith, at) in
    (λ i. stands_alone body (sym here i) (sym same i)) ∙ holder_alone around body n h inner two.0
clean_from lay a around body n before (holder h inner rest) e (suc k) j y at got =
    let c = known lay a (holder_kind h) inner in
    let two =
    two_true (is_none (holder_fault around body n h))
    (are_clean lay a (Some (holder_kind h)) inner 0 no_instances inner && are_clean lay (after_holder h c a) around body (suc n) (holder_instances h c before) rest) e in
    let more =
    two_true (are_clean lay a (Some (holder_kind h)) inner 0 no_instances inner) (are_clean lay (after_holder h c a) around body (suc n) (holder_instances h c before) rest) two.1 in
    clean_from lay (after_holder h c a) around body (suc n) (holder_instances h c before) rest more.1 k j y (omega (arith, at)) got

pub clean_stand_alone : CleanStandAlone
clean_stand_alone lay a around before body e n y got = clean_from lay a around body 0 before body e n n y (let same : 0 + n ≡ n = omega arith in same) got
