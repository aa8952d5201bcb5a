-- Keys of dynamic assignments: what one more key leaves of all.
use Rattle.std.proofs.Common.{◌≡◌, ◌⊎◌, inl, inr, ℕ, zero, suc, refl, sym, ap, ◌∙◌, subst, Bool, true, false, ◌&&◌, List, [], ◌∷◌, ◌++◌, length, Option, Some, None, ⊎_elim}
use Rattle.std.specs.Prelude.{◌||◌, bytes_eq}
use Rattle.std.specs.List.{slice_get, slice_set, list_any}
use Rattle.std.specs.Ordering.{is_eq, nat_cmp, ordering_then, match_ordering}
use Rattle.std.specs.declared.cmp.Ordering.{Ordering}
use Rattle.std.specs.declared.cmp.Ordering.TheVariants.{Less, Equal, Greater}
use Rattle.std.specs.Cmp.{nat_cmp_is}
use Rattle.std.specs.Cmp.Lexicographic.{pointwise, slice_cmp, bytes_decides}
use Rattle.std.specs.BTreeSet.{BTreeSet, insert_key, contains}
use Rattle.std.proofs.lemmas.Bool.{cases_Bool, cond-true, cond-false}
use Rattle.std.proofs.lemmas.List.{length-set}
use Rattle.std.proofs.lemmas.Map.Lookups.{exact_unsigned}
use Rattle.std.proofs.lemmas.Map.Text.{is_eq-slice_cmp}
use denote.Ref.{Bor}
use Rattle.rdl_scope.specs.Spot.{slot_of}
use Rattle.rdl_scope.specs.KeySpot.{names, key_front, key_slot, is_of, spot_in, spot_under, key_spot, is_in, is_at, OtherKey, texts, has_names, is_other, is_noted}
use Rattle.rdl_scope.specs.declared.key_spot.Key.{Key}
use Rattle.rdl_scope.specs.declared.entry.Spot.TheVariants.{Free, Own, Other}
use Rattle.rdl_scope.proofs.Repeats.{texts-same}
use Rattle.rdl_scope.proofs.Spots.{set_any, set_same}

-- ---- Names of keys.

texts-self : (x : List (List ℕ)) → pointwise bytes_eq x x ≡ true
texts-self [] = refl
texts-self (a ∷ x) = ap (λ t. t && pointwise bytes_eq x x) ((bytes_decides a a).1 refl) ∙ texts-self x

-- a test of two keys by their names may be turned
texts-turned : (x y : List (List ℕ)) → pointwise bytes_eq x y ≡ pointwise bytes_eq y x
texts-turned x y = by (pointwise bytes_eq x y) (pointwise bytes_eq y x) refl refl
  where
    by : (s t : Bool) → pointwise bytes_eq x y ≡ s → pointwise bytes_eq y x ≡ t → s ≡ t
    by true true e g = refl
    by false false e g = refl
    by true false e g =
        let turned : pointwise bytes_eq y x ≡ true = subst (λ z. pointwise bytes_eq z x ≡ true) (texts-same x y e) (texts-self x) in
        absurd cc
    by false true e g =
        let turned : pointwise bytes_eq x y ≡ true = subst (λ z. pointwise bytes_eq z y ≡ true) (texts-same y x g) (texts-self y) in
        absurd cc

-- ---- Slots.

spot_in-own : (q : List (List ℕ)) (m n : ℕ) (o : Option Key) → spot_in q m o ≡ Own n → is_in q o ≡ true
spot_in-own q m n None h = absurd cc
spot_in-own q m n (Some e) h =
    ⊎_elim
    (λ y. y)
    (λ f. let s : Other ≡ Own n = sym (cond-false (is_of q e) (Own m) Other f) ∙ h in absurd cc)
    (cases_Bool (is_of q e))

spot_in-free : (q : List (List ℕ)) (m s : ℕ) (o : Option Key) → spot_in q m o ≡ Free s → ⊥
spot_in-free q m s None h = absurd cc
spot_in-free q m s (Some e) h =
    ⊎_elim
    (λ y. let s : Own m ≡ Free s = sym (cond-true (is_of q e) (Own m) Other y) ∙ h in absurd cc)
    (λ f. let s : Other ≡ Free s = sym (cond-false (is_of q e) (Own m) Other f) ∙ h in absurd cc)
    (cases_Bool (is_of q e))

spot_in-other : (q : List (List ℕ)) (m : ℕ) (o : Option Key) → spot_in q m o ≡ Other → is_in q o ≡ false
spot_in-other q m None h = refl
spot_in-other q m (Some e) h =
    ⊎_elim
    (λ y. let s : Own m ≡ Other = sym (cond-true (is_of q e) (Own m) Other y) ∙ h in absurd cc)
    (λ f. f)
    (cases_Bool (is_of q e))

module _ (slots : List ℕ) (firsts : List Key) where
  under_own : (q : List (List ℕ)) (n : ℕ) (o : Option ℕ) → spot_under slots firsts q o ≡ Own n → is_at firsts q o ≡ true
  under_own q n None h = absurd cc
  under_own q n (Some zero) h = absurd cc
  under_own q n (Some (suc m)) h = spot_in-own q m n (slice_get firsts m) h

  under_free : (q : List (List ℕ)) (s : ℕ) (o : Option ℕ) → spot_under slots firsts q o ≡ Free s → (o ≡ Some 0) × (s ≡ key_slot slots q)
  under_free q s None h = absurd cc
  under_free q s (Some zero) h = (refl, cc)
  under_free q s (Some (suc m)) h = absurd (spot_in-free q m s (slice_get firsts m) h)

  under_other : (q : List (List ℕ)) (o : Option ℕ) → spot_under slots firsts q o ≡ Other → (is_at firsts q o ≡ false) × (o ≡ Some 0 → ⊥)
  under_other q None h = (refl, λ e. absurd cc)
  under_other q (Some zero) h = absurd cc
  under_other q (Some (suc m)) h = (spot_in-other q m (slice_get firsts m) h, λ e. absurd cc)

  -- a key whose slot has it was noted
  pub own-noted : (q : List (List ℕ)) (n : ℕ) (others : BTreeSet OtherKey) → key_spot slots firsts q ≡ Own n → is_noted slots firsts others q ≡ true
  own-noted q n others h = ap (λ t. t || is_other others q) (under_own q n (slice_get slots (key_slot slots q)) h)

  -- and to note it again changes nothing
  pub own-again : (q : List (List ℕ)) (n : ℕ) (others : BTreeSet OtherKey) → key_spot slots firsts q ≡ Own n → (p : List (List ℕ)) → is_noted slots firsts others p ≡ pointwise bytes_eq q p || is_noted slots firsts others p
  own-again q n others h p = by (pointwise bytes_eq q p) refl
    where
      by : (t : Bool) → pointwise bytes_eq q p ≡ t → is_noted slots firsts others p ≡ t || is_noted slots firsts others p
      by true e = subst (λ z. is_noted slots firsts others z ≡ true) (texts-same q p e) (own-noted q n others h)
      by false e = refl

  free_slot : (q : List (List ℕ)) (s : ℕ) → key_spot slots firsts q ≡ Free s → slice_get slots s ≡ Some 0
  free_slot q s h =
      let free = under_free q s (slice_get slots (key_slot slots q)) h in
      ap (slice_get slots) free.1 ∙ free.0

  -- a key whose slot has nothing wasn't noted
  pub free-new : (q : List (List ℕ)) (s : ℕ) (others : BTreeSet OtherKey) → key_spot slots firsts q ≡ Free s
      → ((p : List (List ℕ)) → slice_get slots (key_slot slots p) ≡ Some 0 → is_other others p ≡ false) → is_noted slots firsts others q ≡ false
  free-new q s others h free =
      let none = (under_free q s (slice_get slots (key_slot slots q)) h).0 in
      ap (λ t. is_at firsts q t || is_other others q) none ∙ free q none

-- one more first key
last_in : (q : List (List ℕ)) (firsts : List Key) (x : Key) → is_in q (slice_get (firsts ++ x ∷ []) (length firsts)) ≡ is_of q x
last_in q [] x = refl
last_in q (y ∷ ys) x = last_in q ys x

appended_in : (q : List (List ℕ)) (firsts : List Key) (m : ℕ) (x : Key) → is_of q x ≡ false → is_in q (slice_get (firsts ++ x ∷ []) m) ≡ is_in q (slice_get firsts m)
appended_in q [] zero x f = f
appended_in q [] (suc m) x f = refl
appended_in q (y ∷ ys) zero x f = refl
appended_in q (y ∷ ys) (suc m) x f = appended_in q ys m x f

appended_at : (q : List (List ℕ)) (firsts : List Key) (x : Key) (o : Option ℕ) → is_of q x ≡ false → is_at (firsts ++ x ∷ []) q o ≡ is_at firsts q o
appended_at q firsts x None f = refl
appended_at q firsts x (Some zero) f = refl
appended_at q firsts x (Some (suc m)) f = appended_in q firsts m x f

module _ (slots : List ℕ) (firsts : List Key) where
  -- a key that is put in the slot that has nothing
  pub free_put : (s k : ℕ) (x : Key) (others : BTreeSet OtherKey) → key_spot slots firsts (names x) ≡ Free s → k ≡ suc (length firsts) → (q : List (List ℕ))
      → is_noted (slice_set slots s k) (firsts ++ x ∷ []) others q ≡ is_of q x || is_noted slots firsts others q
  free_put s k x others h number q =
      ap (λ n. is_at (firsts ++ x ∷ []) q (slice_get (slice_set slots s k) (slot_of (key_front q) n)) || is_other others q) (length-set slots s k)
      ∙ by (is_of q x) refl
    where
      at : slice_get slots s ≡ Some 0
      at = free_slot slots firsts (names x) s h

      its : s ≡ key_slot slots (names x)
      its = (under_free slots firsts (names x) s (slice_get slots (key_slot slots (names x))) h).1

      there : is_at (firsts ++ x ∷ []) q (Some k) ≡ is_of q x
      there = ap (λ n. is_at (firsts ++ x ∷ []) q (Some n)) number ∙ last_in q firsts x

      away : is_of q x ≡ false → ((slice_get (slice_set slots s k) (key_slot slots q) ≡ Some k) × (slice_get slots (key_slot slots q) ≡ Some 0)) ⊎ (slice_get (slice_set slots s k) (key_slot slots q) ≡ slice_get slots (key_slot slots q))
          → is_at (firsts ++ x ∷ []) q (slice_get (slice_set slots s k) (key_slot slots q)) ≡ is_at firsts q (slice_get slots (key_slot slots q))
      away f (inl t) = ap (is_at (firsts ++ x ∷ []) q) t.0 ∙ there ∙ f ∙ sym (ap (is_at firsts q) t.1)
      away f (inr t) = ap (is_at (firsts ++ x ∷ []) q) t ∙ appended_at q firsts x (slice_get slots (key_slot slots q)) f

      by : (t : Bool) → is_of q x ≡ t
          → is_at (firsts ++ x ∷ []) q (slice_get (slice_set slots s k) (key_slot slots q)) || is_other others q ≡ t || (is_at firsts q (slice_get slots (key_slot slots q)) || is_other others q)
      by true y =
          let own : key_slot slots q ≡ s = ap (key_slot slots) (sym (texts-same (names x) q y)) ∙ sym its in
          ap (λ i. is_at (firsts ++ x ∷ []) q (slice_get (slice_set slots s k) i) || is_other others q) own
          ∙ ap (λ o. is_at (firsts ++ x ∷ []) q o || is_other others q) (set_same slots s k at)
          ∙ ap (λ t. t || is_other others q) (there ∙ y)
      by false f = ap (λ t. t || is_other others q) (away f (set_any slots s (key_slot slots q) k at))

  -- slots that have nothing still have none among the others
  pub free_stay : (s k : ℕ) (p : List (List ℕ)) (others : BTreeSet OtherKey) → key_spot slots firsts p ≡ Free s → k ≡ suc (length firsts)
      → ((q : List (List ℕ)) → slice_get slots (key_slot slots q) ≡ Some 0 → is_other others q ≡ false) → (q : List (List ℕ))
      → slice_get (slice_set slots s k) (key_slot (slice_set slots s k) q) ≡ Some 0 → is_other others q ≡ false
  free_stay s k p others h number free q e =
      let here : slice_get (slice_set slots s k) (key_slot slots q) ≡ Some 0 = ap (λ n. slice_get (slice_set slots s k) (slot_of (key_front q) n)) (sym (length-set slots s k)) ∙ e in
      ⊎_elim
      (λ t. let none : Some (suc (length firsts)) ≡ Some 0 = ap (λ z. Some z) (sym number) ∙ sym t.0 ∙ here in absurd cc)
      (λ t. free q (sym t ∙ here))
      (set_any slots s (key_slot slots q) k (free_slot slots firsts p s h))

-- ---- The others.

is_eq-then : (a b : Ordering) → is_eq (ordering_then a b) ≡ is_eq a && is_eq b
is_eq-then Less b = refl
is_eq-then Equal b = refl
is_eq-then Greater b = refl

-- two keys are equal where their texts are
slice_cmp-texts : (x y : List (Bor (List ℕ))) → is_eq (slice_cmp (λ a b. slice_cmp nat_cmp a.now b.now) x y) ≡ pointwise bytes_eq (texts x) (texts y)
slice_cmp-texts [] [] = refl
slice_cmp-texts [] (b ∷ y) = refl
slice_cmp-texts (a ∷ x) [] = refl
slice_cmp-texts (a ∷ x) (b ∷ y) =
    is_eq-then (slice_cmp nat_cmp a.now b.now) (slice_cmp (λ a b. slice_cmp nat_cmp a.now b.now) x y)
    ∙ ap (λ z. is_eq (slice_cmp nat_cmp a.now b.now) && z) (slice_cmp-texts x y)
    ∙ ap (λ z. z && pointwise bytes_eq (texts x) (texts y)) (is_eq-slice_cmp a.now b.now)

-- the order in which the code keeps the others
abbrev pub key_cmp : OtherKey → OtherKey → Ordering
key_cmp x y = ordering_then (nat_cmp x.0 y.0) (slice_cmp (λ a b. slice_cmp nat_cmp a.now b.now) x.1.items y.1.items)

-- a key is equal to another where that has its names
key_cmp-names : (k y : OtherKey) (q : List (List ℕ)) → k.0 ≡ key_front q → texts k.1.items ≡ q → is_eq (key_cmp k y) ≡ has_names q y
key_cmp-names k y q e g =
    is_eq-then (nat_cmp k.0 y.0) (slice_cmp (λ a b. slice_cmp nat_cmp a.now b.now) k.1.items y.1.items)
    ∙ ap (λ z. is_eq (nat_cmp k.0 y.0) && z) (slice_cmp-texts k.1.items y.1.items)
    ∙ ap (λ n. is_eq (nat_cmp n y.0) && pointwise bytes_eq (texts k.1.items) (texts y.1.items)) e
    ∙ ap (λ t. is_eq (nat_cmp (key_front q) y.0) && pointwise bytes_eq t (texts y.1.items)) g

and-no : (a : Bool) → a && false ≡ false
and-no true = refl
and-no false = refl

-- a key behind its front has the names that it has
own-names : (k : OtherKey) (q p : List (List ℕ)) → k.0 ≡ key_front q → texts k.1.items ≡ q → has_names p k ≡ pointwise bytes_eq q p
own-names k q p e g =
    ap (λ t. is_eq (nat_cmp (key_front p) k.0) && pointwise bytes_eq p t) g ∙ ap (λ t. is_eq (nat_cmp (key_front p) k.0) && t) (texts-turned p q)
    ∙ by (pointwise bytes_eq q p) refl
  where
    by : (t : Bool) → pointwise bytes_eq q p ≡ t → is_eq (nat_cmp (key_front p) k.0) && t ≡ t
    by true y = ap (λ b. b && true) (ap is_eq (sym (nat_cmp_is (key_front p) k.0 Equal (ap key_front (sym (texts-same q p y)) ∙ sym e))))
    by false f = and-no (is_eq (nat_cmp (key_front p) k.0))

-- keys that are equal have the same names
equal-names : (p : List (List ℕ)) (k x : OtherKey) → key_cmp k x ≡ Equal → has_names p k ≡ has_names p x
equal-names p k x e = ap (λ n. is_eq (nat_cmp (key_front p) n) && pointwise bytes_eq p (texts k.1.items)) same.0 ∙ ap (λ t. is_eq (nat_cmp (key_front p) x.0) && pointwise bytes_eq p t) same.1
  where
    rest : Ordering
    rest = slice_cmp (λ a b. slice_cmp nat_cmp a.now b.now) k.1.items x.1.items

    by : (o : Ordering) → nat_cmp k.0 x.0 ≡ o → ordering_then o rest ≡ Equal → (k.0 ≡ x.0) × (texts k.1.items ≡ texts x.1.items)
    by Less g h = absurd cc
    by Equal g h = (exact_unsigned k.0 x.0 g, texts-same (texts k.1.items) (texts x.1.items) (sym (slice_cmp-texts k.1.items x.1.items) ∙ ap is_eq h))
    by Greater g h = absurd cc

    same : (k.0 ≡ x.0) × (texts k.1.items ≡ texts x.1.items)
    same = by (nat_cmp k.0 x.0) refl e

or-same : (a b : Bool) → a || b ≡ a || (a || b)
or-same true b = refl
or-same false b = refl

or-swap : (a b c : Bool) → a || (b || c) ≡ b || (a || c)
or-swap true true c = refl
or-swap true false c = refl
or-swap false true c = refl
or-swap false false c = refl

-- one key more among the others
inserted : (p : List (List ℕ)) (xs : List OtherKey) (k : OtherKey) → list_any (has_names p) (insert_key key_cmp xs k) ≡ has_names p k || list_any (has_names p) xs
inserted p [] k = refl
inserted p (x ∷ xs) k = by (key_cmp k x) refl (inserted p xs k)
  where
    by : (o : Ordering) → key_cmp k x ≡ o → list_any (has_names p) (insert_key key_cmp xs k) ≡ has_names p k || list_any (has_names p) xs → list_any (has_names p) (match_ordering o (k ∷ x ∷ xs) (x ∷ xs) (x ∷ insert_key key_cmp xs k)) ≡ has_names p k || (has_names p x || list_any (has_names p) xs)
    by Less e rest = refl
    by Equal e rest = or-same (has_names p x) (list_any (has_names p) xs) ∙ ap (λ t. t || (has_names p x || list_any (has_names p) xs)) (sym (equal-names p k x e))
    by Greater e rest = ap (λ t. has_names p x || t) rest ∙ or-swap (has_names p x) (has_names p k) (list_any (has_names p) xs)

pub other-inserted : (old new : BTreeSet OtherKey) (k : OtherKey) (q : List (List ℕ)) → k.0 ≡ key_front q → texts k.1.items ≡ q → new.keys ≡ insert_key key_cmp old.keys k → (p : List (List ℕ))
    → is_other new p ≡ pointwise bytes_eq q p || is_other old p
other-inserted old new k q e g h p = ap (list_any (has_names p)) h ∙ inserted p old.keys k ∙ ap (λ t. t || is_other old p) (own-names k q p e g)

pub other-contained : (old : BTreeSet OtherKey) (k : OtherKey) (q : List (List ℕ)) → k.0 ≡ key_front q → texts k.1.items ≡ q → contains key_cmp old k ≡ is_other old q
other-contained old k q e g = λ i. list_any (λ y. key_cmp-names k y q e g i) old.keys

module _ (slots : List ℕ) (firsts : List Key) where
  -- a key whose slot another has was noted if it is among the others
  pub other-noted : (q : List (List ℕ)) (others : BTreeSet OtherKey) → key_spot slots firsts q ≡ Other → is_noted slots firsts others q ≡ is_other others q
  other-noted q others h = ap (λ t. t || is_other others q) (under_other slots firsts q (slice_get slots (key_slot slots q)) h).0

  -- it is put among the others
  pub other_put : (q : List (List ℕ)) (old new : BTreeSet OtherKey) → ((p : List (List ℕ)) → is_other new p ≡ pointwise bytes_eq q p || is_other old p) → (p : List (List ℕ))
      → is_noted slots firsts new p ≡ pointwise bytes_eq q p || is_noted slots firsts old p
  other_put q old new h p =
      ap (λ t. is_at firsts p (slice_get slots (key_slot slots p)) || t) (h p) ∙ or-swap (is_at firsts p (slice_get slots (key_slot slots p))) (pointwise bytes_eq q p) (is_other old p)

  pub other_stay : (q : List (List ℕ)) (old new : BTreeSet OtherKey) → key_spot slots firsts q ≡ Other → ((p : List (List ℕ)) → is_other new p ≡ pointwise bytes_eq q p || is_other old p)
      → ((p : List (List ℕ)) → slice_get slots (key_slot slots p) ≡ Some 0 → is_other old p ≡ false) → (p : List (List ℕ)) → slice_get slots (key_slot slots p) ≡ Some 0 → is_other new p ≡ false
  other_stay q old new at h free p e = h p ∙ by (pointwise bytes_eq q p) refl
    where
      by : (t : Bool) → pointwise bytes_eq q p ≡ t → t || is_other old p ≡ false
      by true y = absurd ((under_other slots firsts q (slice_get slots (key_slot slots q)) at).1 (ap (λ z. slice_get slots (key_slot slots z)) (texts-same q p y) ∙ e))
      by false f = free p e
