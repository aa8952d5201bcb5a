-- Maps by name: what a change at one name leaves at any.
use Rattle.std.proofs.Common.{◌≡◌, ◌⊎◌, inl, inr, ◌==◌, ℕ, zero, suc, refl, sym, ap, ◌∙◌, subst, Bool, true, false, ◌&&◌, List, [], ◌∷◌, ◌++◌, length, Option, Some, None, cond, ⊎_elim, get_or}
use Rattle.std.specs.Option.{is_none}
use Rattle.std.specs.Result.{OnOk, OnErr}
use Rattle.std.specs.declared.result.Result.{Result}
use Rattle.std.specs.declared.result.Result.TheVariants.{Ok, Err}
use Rattle.std.specs.List.{slice_get, slice_set}
use Rattle.std.specs.Str.{bytes_eq}
use Rattle.std.specs.Cmp.Lexicographic.{bytes_decides}
use Rattle.std.proofs.lemmas.Bool.{cases_Bool, cond-true, cond-false}
use Rattle.std.proofs.lemmas.List.{length-set}
use Rattle.std.proofs.lemmas.Option.{get_or_from_slice_get}
use Rattle.rdl_scope.specs.Front.{front}
use Rattle.rdl_scope.specs.Spot.{slot_of, slot, is_own, spot_in, spot_under, spot, value_in, value_at}
use Rattle.rdl_scope.specs.declared.entry.Entry.{Entry}
use Rattle.rdl_scope.specs.declared.entry.Spot.TheVariants.{Free, Own, Other}

and-right : (a b : Bool) → a && b ≡ true → b ≡ true
and-right true b h = h
and-right false b h = absurd cc

module _ {V : Type 0} where
  -- the entry with another value
  abbrev pub changed : Entry V → Option V → Entry V
  changed e w = record { front = e.front; name = e.name; value = w }

  -- the same name under another value: all other names find what they found
  kept_in : (q : List ℕ) (other : Option V) (entries : List (Entry V)) (n m : ℕ) (e : Entry V) (w : Option V) → slice_get entries n ≡ Some e → is_own q e ≡ false
      → value_in q other (slice_get (slice_set entries n (changed e w)) m) ≡ value_in q other (slice_get entries m)
  kept_in q other [] n m e w h f = absurd cc
  kept_in q other (x ∷ xs) zero zero e w h f =
      let same : x ≡ e = cc in
      cond-false (is_own q e) w other f ∙ sym (ap (λ (z : Entry V). value_in q other (Some z)) same ∙ cond-false (is_own q e) e.value other f)
  kept_in q other (x ∷ xs) zero (suc m) e w h f = refl
  kept_in q other (x ∷ xs) (suc n) zero e w h f = refl
  kept_in q other (x ∷ xs) (suc n) (suc m) e w h f = kept_in q other xs n m e w h f

  put_in : (entries : List (Entry V)) (n : ℕ) (e x : Entry V) → slice_get entries n ≡ Some e → slice_get (slice_set entries n x) n ≡ Some x
  put_in [] n e x h = absurd cc
  put_in (y ∷ ys) zero e x h = refl
  put_in (y ∷ ys) (suc n) e x h = put_in ys n e x h

  -- one more entry, of another name
  appended_in : (q : List ℕ) (other : Option V) (entries : List (Entry V)) (m : ℕ) (x : Entry V) → is_own q x ≡ false
      → value_in q other (slice_get (entries ++ x ∷ []) m) ≡ value_in q other (slice_get entries m)
  appended_in q other [] zero x f = cond-false (is_own q x) x.value other f
  appended_in q other [] (suc m) x f = refl
  appended_in q other (y ∷ ys) zero x f = refl
  appended_in q other (y ∷ ys) (suc m) x f = appended_in q other ys m x f

  last_in : (entries : List (Entry V)) (x : Entry V) → slice_get (entries ++ x ∷ []) (length entries) ≡ Some x
  last_in [] x = refl
  last_in (y ∷ ys) x = last_in ys x

  -- what the spot of a name says of its slot
  spot_in-own : (q : List ℕ) (m n : ℕ) (o : Option (Entry V)) → spot_in q m o ≡ Own n → (m ≡ n) × (e : Entry V) × (o ≡ Some e) × (is_own q e ≡ true)
  spot_in-own q m n None h = absurd cc
  spot_in-own q m n (Some e) h =
      ⊎_elim
      (λ y. let s : Own m ≡ Own n = sym (cond-true (is_own q e) (Own m) Other y) ∙ h in (cc, e, refl, y))
      (λ f. let s : Other ≡ Own n = sym (cond-false (is_own q e) (Own m) Other f) ∙ h in absurd cc)
      (cases_Bool (is_own q e))

  spot_in-free : (q : List ℕ) (m s : ℕ) (o : Option (Entry V)) → spot_in q m o ≡ Free s → ⊥
  spot_in-free q m s None h = absurd cc
  spot_in-free q m s (Some e) h =
      ⊎_elim
      (λ y. let s : Own m ≡ Free s = sym (cond-true (is_own q e) (Own m) Other y) ∙ h in absurd cc)
      (λ f. let s : Other ≡ Free s = sym (cond-false (is_own q e) (Own m) Other f) ∙ h in absurd cc)
      (cases_Bool (is_own q e))

  spot_in-other : (q : List ℕ) (m : ℕ) (o : Option (Entry V)) (other : Option V) → spot_in q m o ≡ Other → value_in q other o ≡ other
  spot_in-other q m None other h = refl
  spot_in-other q m (Some e) other h =
      ⊎_elim
      (λ y. let s : Own m ≡ Other = sym (cond-true (is_own q e) (Own m) Other y) ∙ h in absurd cc)
      (λ f. cond-false (is_own q e) e.value other f)
      (cases_Bool (is_own q e))

  under_own : (slots : List ℕ) (entries : List (Entry V)) (q : List ℕ) (n : ℕ) (o : Option ℕ) → spot_under slots entries q o ≡ Own n
      → (o ≡ Some (suc n)) × (e : Entry V) × (slice_get entries n ≡ Some e) × (is_own q e ≡ true)
  under_own slots entries q n None h = absurd cc
  under_own slots entries q n (Some zero) h = absurd cc
  under_own slots entries q n (Some (suc m)) h =
      let found = spot_in-own q m n (slice_get entries m) h in
      (ap (λ k. Some (suc k)) found.0, found.1, ap (slice_get entries) (sym found.0) ∙ found.2, found.3)

  under_free : (slots : List ℕ) (entries : List (Entry V)) (q : List ℕ) (s : ℕ) (o : Option ℕ) → spot_under slots entries q o ≡ Free s → (o ≡ Some 0) × (s ≡ slot slots q)
  under_free slots entries q s None h = absurd cc
  under_free slots entries q s (Some zero) h = (refl, cc)
  under_free slots entries q s (Some (suc m)) h = absurd (spot_in-free q m s (slice_get entries m) h)

  under_other : (slots : List ℕ) (entries : List (Entry V)) (q : List ℕ) (o : Option ℕ) (other : Option V) → spot_under slots entries q o ≡ Other
      → (value_at entries q other o ≡ other) × (o ≡ Some 0 → ⊥)
  under_other slots entries q None other h = (refl, λ e. absurd cc)
  under_other slots entries q (Some zero) other h = absurd cc
  under_other slots entries q (Some (suc m)) other h = (spot_in-other q m (slice_get entries m) other h, λ e. absurd cc)

same_name : (name q : List ℕ) → bytes_eq name q ≡ true → name ≡ q
same_name name q y = (bytes_decides name q).0 y

and-no : (a : Bool) → a && false ≡ false
and-no true = refl
and-no false = refl

pub set_same : (l : List ℕ) (s k : ℕ) → slice_get l s ≡ Some 0 → slice_get (slice_set l s k) s ≡ Some k
set_same [] s k h = absurd cc
set_same (x ∷ l) zero k h = refl
set_same (x ∷ l) (suc s) k h = set_same l s k h

pub set_any : (l : List ℕ) (s i k : ℕ) → slice_get l s ≡ Some 0
    → ((slice_get (slice_set l s k) i ≡ Some k) × (slice_get l i ≡ Some 0)) ⊎ (slice_get (slice_set l s k) i ≡ slice_get l i)
set_any [] s i k h = absurd cc
set_any (x ∷ l) zero zero k h = inl (refl, h)
set_any (x ∷ l) zero (suc i) k h = inr refl
set_any (x ∷ l) (suc s) zero k h = inr refl
set_any (x ∷ l) (suc s) (suc i) k h = set_any l s i k h

module _ {V : Type 0} (slots : List ℕ) (entries : List (Entry V)) where
  is_own-other : (name q : List ℕ) (e : Entry V) → e.name.now ≡ name → bytes_eq name q ≡ false → is_own q e ≡ false
  is_own-other name q e h f = ap (λ z. (e.front == front q) && z) (ap (λ z. bytes_eq z q) h ∙ f) ∙ and-no (e.front == front q)

  is_own-name : (name : List ℕ) (e : Entry V) → is_own name e ≡ true → e.name.now ≡ name
  is_own-name name e y = same_name e.name.now name (and-right (e.front == front name) (bytes_eq e.name.now name) y)

  -- the entry of a name's own is there
  pub own_there : (name : List ℕ) (n : ℕ) (x : Entry V) → spot slots entries name ≡ Own n → x ≡ get_or entries n x → slice_get entries n ≡ Some x
  own_there name n x h e =
      let own = under_own slots entries name n (slice_get slots (slot slots name)) h in
      own.2 ∙ ap (λ (z : Entry V). Some z) (sym (e ∙ get_or_from_slice_get entries n own.1 x own.2))

  -- what stands in the entry of a name's own is what the name finds
  pub own_found : (name : List ℕ) (n : ℕ) (o : Option V) (e : Entry V) → spot slots entries name ≡ Own n → slice_get entries n ≡ Some e → value_at entries name o (slice_get slots (slot slots name)) ≡ e.value
  own_found name n o e h g =
      let own = under_own slots entries name n (slice_get slots (slot slots name)) h in
      let same : own.1 ≡ e = cc in
      ap (value_at entries name o) own.0 ∙ ap (value_in name o) own.2 ∙ cond-true (is_own name own.1) own.1.value o own.3 ∙ ap (λ (z : Entry V). z.value) same

  -- another value in the entry of a name's own
  pub own_put : (name : List ℕ) (n : ℕ) (e : Entry V) (w : Option V) (o : List ℕ → Option V) → spot slots entries name ≡ Own n → slice_get entries n ≡ Some e → (q : List ℕ)
      → value_at (slice_set entries n (changed e w)) q (o q) (slice_get slots (slot slots q)) ≡ cond (bytes_eq name q) w (value_at entries q (o q) (slice_get slots (slot slots q)))
  own_put name n e w o h g q =
      let own = under_own slots entries name n (slice_get slots (slot slots name)) h in
      let same : own.1 ≡ e = cc in
      let mine : is_own name e ≡ true = ap (is_own name) (sym same) ∙ own.3 in
      let there : value_at (slice_set entries n (changed e w)) name (o name) (slice_get slots (slot slots name)) ≡ w =
      ap (value_at (slice_set entries n (changed e w)) name (o name)) own.0 ∙ ap (value_in name (o name)) (put_in entries n e (changed e w) g) ∙ cond-true (is_own name e) w (o name) mine in
      ⊎_elim
      (λ y. subst (λ l. value_at (slice_set entries n (changed e w)) l (o l) (slice_get slots (slot slots l)) ≡ w) (same_name name q y) there
      ∙ sym (cond-true (bytes_eq name q) w (value_at entries q (o q) (slice_get slots (slot slots q))) y))
      (λ f. led (is_own-other name q e (is_own-name name e mine) f) (slice_get slots (slot slots q))
      ∙ sym (cond-false (bytes_eq name q) w (value_at entries q (o q) (slice_get slots (slot slots q))) f))
      (cases_Bool (bytes_eq name q))
    where
      led : is_own q e ≡ false → (x : Option ℕ) → value_at (slice_set entries n (changed e w)) q (o q) x ≡ value_at entries q (o q) x
      led f None = refl
      led f (Some zero) = refl
      led f (Some (suc m)) = kept_in q (o q) entries n m e w g f

  -- a name whose slot has nothing finds nothing
  pub free_found : (name : List ℕ) (s : ℕ) (o : Option V) → spot slots entries name ≡ Free s → value_at entries name o (slice_get slots (slot slots name)) ≡ None
  free_found name s o h = ap (value_at entries name o) (under_free slots entries name s (slice_get slots (slot slots name)) h).0

  pub free_slot : (name : List ℕ) (s : ℕ) → spot slots entries name ≡ Free s → slice_get slots s ≡ Some 0
  free_slot name s h =
      let free = under_free slots entries name s (slice_get slots (slot slots name)) h in
      ap (slice_get slots) free.1 ∙ free.0

  -- an entry for a name whose slot has nothing
  pub free_put : (name : List ℕ) (s k : ℕ) (x : Entry V) (o : List ℕ → Option V) → spot slots entries name ≡ Free s → k ≡ suc (length entries) → x.name.now ≡ name → is_own name x ≡ true
      → ((q : List ℕ) → slice_get slots (slot slots q) ≡ Some 0 → is_none (o q) ≡ true) → (q : List ℕ)
      → value_at (entries ++ x ∷ []) q (o q) (slice_get (slice_set slots s k) (slot (slice_set slots s k) q)) ≡ cond (bytes_eq name q) x.value (value_at entries q (o q) (slice_get slots (slot slots q)))
  free_put name s k x o h number named mine free q =
      let at = free_slot name s h in
      let its : s ≡ slot slots name = (under_free slots entries name s (slice_get slots (slot slots name)) h).1 in
      let there : value_at (entries ++ x ∷ []) name (o name) (slice_get (slice_set slots s k) (slot slots name)) ≡ x.value =
      ap (λ i. value_at (entries ++ x ∷ []) name (o name) (slice_get (slice_set slots s k) i)) (sym its)
      ∙ ap (value_at (entries ++ x ∷ []) name (o name)) (set_same slots s k at ∙ ap (λ z. Some z) number)
      ∙ ap (value_in name (o name)) (last_in entries x) ∙ cond-true (is_own name x) x.value (o name) mine in
      ap (λ n. value_at (entries ++ x ∷ []) q (o q) (slice_get (slice_set slots s k) (slot_of (front q) n))) (length-set slots s k)
      ∙ ⊎_elim
      (λ y. subst (λ l. value_at (entries ++ x ∷ []) l (o l) (slice_get (slice_set slots s k) (slot slots l)) ≡ x.value) (same_name name q y) there
      ∙ sym (cond-true (bytes_eq name q) x.value (value_at entries q (o q) (slice_get slots (slot slots q))) y))
      (λ f. away (is_own-other name q x named f) (set_any slots s (slot slots q) k at)
      ∙ sym (cond-false (bytes_eq name q) x.value (value_at entries q (o q) (slice_get slots (slot slots q))) f))
      (cases_Bool (bytes_eq name q))
    where
      none_of : (z : Option V) → is_none z ≡ true → z ≡ None
      none_of None h = refl
      none_of (Some z) h = absurd cc

      led : is_own q x ≡ false → (z : Option ℕ) → value_at (entries ++ x ∷ []) q (o q) z ≡ value_at entries q (o q) z
      led f None = refl
      led f (Some zero) = refl
      led f (Some (suc m)) = appended_in q (o q) entries m x f

      away : is_own q x ≡ false → ((slice_get (slice_set slots s k) (slot slots q) ≡ Some k) × (slice_get slots (slot slots q) ≡ Some 0)) ⊎ (slice_get (slice_set slots s k) (slot slots q) ≡ slice_get slots (slot slots q))
          → value_at (entries ++ x ∷ []) q (o q) (slice_get (slice_set slots s k) (slot slots q)) ≡ value_at entries q (o q) (slice_get slots (slot slots q))
      away f (inl t) =
          ap (value_at (entries ++ x ∷ []) q (o q)) (t.0 ∙ ap (λ z. Some z) number) ∙ ap (value_in q (o q)) (last_in entries x) ∙ cond-false (is_own q x) x.value (o q) f
          ∙ none_of (o q) (free q t.1) ∙ sym (ap (value_at entries q (o q)) t.1)
      away f (inr t) = ap (value_at (entries ++ x ∷ []) q (o q)) t ∙ led f (slice_get slots (slot slots q))

  -- slots that have nothing still have none among the others
  pub free_stay : (name : List ℕ) (s k : ℕ) (o : List ℕ → Option V) → spot slots entries name ≡ Free s → k ≡ suc (length entries)
      → ((q : List ℕ) → slice_get slots (slot slots q) ≡ Some 0 → is_none (o q) ≡ true) → (q : List ℕ)
      → slice_get (slice_set slots s k) (slot (slice_set slots s k) q) ≡ Some 0 → is_none (o q) ≡ true
  free_stay name s k o h number free q e =
      let here : slice_get (slice_set slots s k) (slot slots q) ≡ Some 0 = ap (λ n. slice_get (slice_set slots s k) (slot_of (front q) n)) (sym (length-set slots s k)) ∙ e in
      ⊎_elim
      (λ t. let none : Some (suc (length entries)) ≡ Some 0 = ap (λ z. Some z) (sym number) ∙ sym t.0 ∙ here in absurd cc)
      (λ t. free q (sym t ∙ here))
      (set_any slots s (slot slots q) k (free_slot name s h))

  -- a name whose slot another has finds what stands under it among the others
  pub other_found : (name : List ℕ) (o : Option V) → spot slots entries name ≡ Other → value_at entries name o (slice_get slots (slot slots name)) ≡ o
  other_found name o h = (under_other slots entries name (slice_get slots (slot slots name)) o h).0

  -- a change among the others
  pub other_put : (name : List ℕ) (w : Option V) (o p : List ℕ → Option V) → spot slots entries name ≡ Other → ((q : List ℕ) → p q ≡ cond (bytes_eq name q) w (o q)) → (q : List ℕ)
      → value_at entries q (p q) (slice_get slots (slot slots q)) ≡ cond (bytes_eq name q) w (value_at entries q (o q) (slice_get slots (slot slots q)))
  other_put name w o p h new q =
      ⊎_elim
      (λ y. subst (λ l. value_at entries l (p l) (slice_get slots (slot slots l)) ≡ p l) (same_name name q y) (other_found name (p name) h)
      ∙ new q ∙ cond-true (bytes_eq name q) w (o q) y ∙ sym (cond-true (bytes_eq name q) w (value_at entries q (o q) (slice_get slots (slot slots q))) y))
      (λ f. ap (λ z. value_at entries q z (slice_get slots (slot slots q))) (new q ∙ cond-false (bytes_eq name q) w (o q) f)
      ∙ sym (cond-false (bytes_eq name q) w (value_at entries q (o q) (slice_get slots (slot slots q))) f))
      (cases_Bool (bytes_eq name q))

  pub other_stay : (name : List ℕ) (w : Option V) (o p : List ℕ → Option V) → spot slots entries name ≡ Other → ((q : List ℕ) → p q ≡ cond (bytes_eq name q) w (o q))
      → ((q : List ℕ) → slice_get slots (slot slots q) ≡ Some 0 → is_none (o q) ≡ true) → (q : List ℕ) → slice_get slots (slot slots q) ≡ Some 0 → is_none (p q) ≡ true
  other_stay name w o p h new free q e =
      ⊎_elim
      (λ y. absurd ((under_other slots entries name (slice_get slots (slot slots name)) None h).1 (subst (λ l. slice_get slots (slot slots l) ≡ Some 0) (sym (same_name name q y)) e)))
      (λ f. ap (λ (z : Option V). is_none z) (new q ∙ cond-false (bytes_eq name q) w (o q) f) ∙ free q e)
      (cases_Bool (bytes_eq name q))

-- what follows both where a call answers Ok and where it answers Err
pub either : {A B : Type 0} {P Q R : Type 0} (r : Result A B) → OnOk r P → OnErr r Q → (P → R) → (Q → R) → R
either (Ok x) p q f g = f p
either (Err x) p q f g = g q
