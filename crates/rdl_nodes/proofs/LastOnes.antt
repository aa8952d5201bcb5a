-- What is found by the slots of names.
use Rattle.std.proofs.Common.{◌≡◌, ℕ, zero, suc, ◌<◌, ◌≤◌, List, [], ◌∷◌, ◌++◌, ◌⊎◌, inl, inr, length, take, get_or, true, false, Bool, refl, ap, sym, subst, ◌∙◌, arith}
use Rattle.std.specs.Prelude.{Option, Some, bytes_eq, nat_eq, slice_get, slice_set, if◌then◌else◌}
use Rattle.std.specs.Cmp.Lexicographic.{bytes_decides}
use Rattle.std.proofs.lemmas.Bool.{cases_lt, eq-eqb, eqb-true, eqb-false}
use Rattle.rdl_seen.specs.Inside as seen
use Rattle.rdl_seen.specs.Inside.{how_many, find, no_instances, instance}
use Rattle.rdl_nodes.specs.declared.inside.Instance.{Instance}
use Rattle.rdl_nodes.specs.HeldInside.{with_held, inside_of}
use Rattle.rdl_nodes.specs.Lasting.{slot_of, last_in, links_of, first_of, AreLastsOf, AreLasts}
use Rattle.rdl_nodes.specs.declared.lasts.Lasts.{Lasts}
use Rattle.rdl_nodes.proofs.Instances.{take_one, inside_more, how_many_before, not_here}

-- ---- The first instances, and one more.

element : {X : Type 0} (xs : List X) (n : ℕ) → n < length xs → (x : X) × (x ≡ get_or xs n x)
element [] n less = absurd (omega (arith, less))
element (x ∷ xs) zero less = (x, refl)
element (x ∷ xs) (suc n) less = element xs n (omega (arith, less))

same_element : {X : Type 0} (xs : List X) (n : ℕ) (x y : X) → n < length xs → get_or xs n x ≡ get_or xs n y
same_element [] n x y less = absurd (omega (arith, less))
same_element (z ∷ xs) zero x y less = refl
same_element (z ∷ xs) (suc n) x y less = same_element xs n x y (omega (arith, less))

first_more : (xs : List Instance) (n : ℕ) (x : Instance) → n < length xs → x ≡ get_or xs n x → first_of (suc n) xs ≡ with_held x (first_of n xs)
first_more xs n x less is = ap inside_of (take_one xs n x less is) ∙ inside_more (take n xs) x

last_more : (w b : ℕ) (xs : List Instance) (n : ℕ) (x : Instance) → n < length xs → x ≡ get_or xs n x
    → last_in w b (first_of (suc n) xs) ≡ (if nat_eq (slot_of w x.name.now) b then suc n else last_in w b (first_of n xs))
last_more w b xs n x less is =
    ap (last_in w b) (first_more xs n x less is)
    ∙ ap (λ k. if nat_eq (slot_of w x.name.now) b then suc k else last_in w b (first_of n xs)) (how_many_before xs n less)

links_more : (w : ℕ) (xs : List Instance) (n : ℕ) (x : Instance) → n < length xs → x ≡ get_or xs n x
    → links_of w (first_of (suc n) xs) ≡ links_of w (first_of n xs) ++ last_in w (slot_of w x.name.now) (first_of n xs) ∷ []
links_more w xs n x less is = ap (links_of w) (first_more xs n x less is)

-- ---- The last one of a slot.

few_in : (w b : ℕ) (before : seen.Inside) → last_in w b before ≤ how_many before
few_in w b no_instances = omega arith
few_in w b (instance name number kind spots inside before) = by (few_in w b before) (nat_eq (slot_of w name) b)
  where
    by : last_in w b before ≤ how_many before → (v : Bool) → (if v then suc (how_many before) else last_in w b before) ≤ how_many (instance name number kind spots inside before)
    by few true = omega arith
    by few false = omega (arith, few)

no_more : (xs : List Instance) (n : ℕ) → n ≤ length xs → how_many (first_of n xs) ≤ n
no_more xs zero less = omega arith
no_more xs (suc n) less =
    let x = element xs n (omega (arith, less)) in
    let here = how_many_before xs n (omega (arith, less)) in
    let next = ap how_many (first_more xs n x.0 (omega (arith, less)) x.1) in
    omega (arith, here, next)

pub last_few : (w b : ℕ) (xs : List Instance) (n : ℕ) → n ≤ length xs → last_in w b (first_of n xs) ≤ n
last_few w b xs n less = omega (arith, few_in w b (first_of n xs), no_more xs n less)

-- it has that slot
pub last_has : (w b : ℕ) (xs : List Instance) (n k : ℕ) (x : Instance) → n ≤ length xs → last_in w b (first_of n xs) ≡ suc k → x ≡ get_or xs k x → slot_of w x.name.now ≡ b
last_has w b xs zero k x less last is = absurd (omega (arith, last))
last_has w b xs (suc n) k x less last is =
    let y = element xs n (omega (arith, less)) in
    by y.0 y.1 (nat_eq (slot_of w y.0.name.now) b) refl (last_has w b xs n k x (omega (arith, less)))
  where
    by : (y : Instance) → y ≡ get_or xs n y → (v : Bool) → nat_eq (slot_of w y.name.now) b ≡ v
        → (last_in w b (first_of n xs) ≡ suc k → x ≡ get_or xs k x → slot_of w x.name.now ≡ b) → slot_of w x.name.now ≡ b
    by y there true same before =
        let at : suc n ≡ suc k = sym (last_more w b xs n y (omega (arith, less)) there ∙ ap (λ v. if v then suc n else last_in w b (first_of n xs)) same) ∙ last in
        let here : x ≡ y =
        is ∙ (same_element xs k x y (omega (arith, less, at)) ∙ (ap (λ j. get_or xs j y) (let back : k ≡ n = omega (arith, at) in back) ∙ sym there)) in
        ap (λ (z : Instance). slot_of w z.name.now) here ∙ eqb-true (slot_of w y.name.now) b same
    by y there false other before =
        before (sym (last_more w b xs n y (omega (arith, less)) there ∙ ap (λ v. if v then suc n else last_in w b (first_of n xs)) other) ∙ last) is

other_name : (w : ℕ) (name q : List ℕ) → nat_eq (slot_of w name) (slot_of w q) ≡ false → bytes_eq name q ≡ false
other_name w name q other = by (bytes_eq name q) refl
  where
    by : (v : Bool) → bytes_eq name q ≡ v → v ≡ false
    by false e = refl
    by true e = sym (eq-eqb (slot_of w name) (slot_of w q) (ap (slot_of w) ((bytes_decides name q).0 e))) ∙ other

-- behind it no instance has the name
pub found_last : (w : ℕ) (q : List ℕ) (xs : List Instance) (n : ℕ) → n ≤ length xs → find q (first_of n xs) ≡ find q (first_of (last_in w (slot_of w q) (first_of n xs)) xs)
found_last w q xs zero less = refl
found_last w q xs (suc n) less =
    let x = element xs n (omega (arith, less)) in
    by x.0 x.1 (nat_eq (slot_of w x.0.name.now) (slot_of w q)) refl (found_last w q xs n (omega (arith, less)))
  where
    by : (x : Instance) → x ≡ get_or xs n x → (v : Bool) → nat_eq (slot_of w x.name.now) (slot_of w q) ≡ v
        → find q (first_of n xs) ≡ find q (first_of (last_in w (slot_of w q) (first_of n xs)) xs)
        → find q (first_of (suc n) xs) ≡ find q (first_of (last_in w (slot_of w q) (first_of (suc n) xs)) xs)
    by x is true same before =
        ap (λ m. find q (first_of m xs))
        (sym (last_more w (slot_of w q) xs n x (omega (arith, less)) is ∙ ap (λ v. if v then suc n else last_in w (slot_of w q) (first_of n xs)) same))
    by x is false other before =
        not_here q xs n (suc n) x refl (omega (arith, less)) is (other_name w x.name.now q other)
        ∙ (before
        ∙ ap (λ m. find q (first_of m xs))
        (sym (last_more w (slot_of w q) xs n x (omega (arith, less)) is ∙ ap (λ v. if v then suc n else last_in w (slot_of w q) (first_of n xs)) other)))

-- ---- The links.

at_front : {X : Type 0} (xs ys : List X) (n : ℕ) → n < length xs → slice_get (xs ++ ys) n ≡ slice_get xs n
at_front [] ys n less = absurd (omega (arith, less))
at_front (x ∷ xs) ys zero less = refl
at_front (x ∷ xs) ys (suc n) less = at_front xs ys n (omega (arith, less))

at_end : {X : Type 0} (xs : List X) (x : X) (n : ℕ) → length xs ≡ n → slice_get (xs ++ x ∷ []) n ≡ Some x
at_end [] x zero e = refl
at_end [] x (suc n) e = absurd (omega (arith, e))
at_end (y ∷ xs) x zero e = absurd (omega (arith, e))
at_end (y ∷ xs) x (suc n) e = at_end xs x n (omega (arith, e))

pub longer : {X : Type 0} (xs : List X) (x : X) → length (xs ++ x ∷ []) ≡ suc (length xs)
longer [] x = refl
longer (y ∷ xs) x = ap suc (longer xs x)

links_count : (w : ℕ) (before : seen.Inside) → length (links_of w before) ≡ how_many before
links_count w no_instances = refl
links_count w (instance name number kind spots inside before) =
    omega (arith, longer (links_of w before) (last_in w (slot_of w name) before), links_count w before)

-- a link is the last one of its slot before it
pub link_at : (w : ℕ) (xs : List Instance) (n k : ℕ) (x : Instance) → n ≤ length xs → k < n → x ≡ get_or xs k x
    → slice_get (links_of w (first_of n xs)) k ≡ Some (last_in w (slot_of w x.name.now) (first_of k xs))
link_at w xs zero k x all less is = absurd (omega (arith, less))
link_at w xs (suc n) k x all less is =
    let y = element xs n (omega (arith, all)) in
    let count = links_count w (first_of n xs) ∙ how_many_before xs n (omega (arith, all)) in
    let link = last_in w (slot_of w y.0.name.now) (first_of n xs) in
    ap (λ ls. slice_get ls k) (links_more w xs n y.0 (omega (arith, all)) y.1) ∙ by y.0 y.1 count (cases_lt k n) (λ l. link_at w xs n k x (omega (arith, all)) l is)
  where
    by : (y : Instance) → y ≡ get_or xs n y → length (links_of w (first_of n xs)) ≡ n → (k < n) ⊎ (n ≤ k)
        → (k < n → slice_get (links_of w (first_of n xs)) k ≡ Some (last_in w (slot_of w x.name.now) (first_of k xs)))
        → slice_get (links_of w (first_of n xs) ++ last_in w (slot_of w y.name.now) (first_of n xs) ∷ []) k ≡ Some (last_in w (slot_of w x.name.now) (first_of k xs))
    by y there count (inl l) before = at_front (links_of w (first_of n xs)) (last_in w (slot_of w y.name.now) (first_of n xs) ∷ []) k (omega (arith, count, l)) ∙ before l
    by y there count (inr g) before =
        let at : n ≡ k = omega (arith, less, g) in
        let here : y ≡ x =
        there ∙ (same_element xs n y x (omega (arith, all)) ∙ (ap (λ j. get_or xs j x) at ∙ sym is)) in
        at_end (links_of w (first_of n xs)) (last_in w (slot_of w y.name.now) (first_of n xs)) k (count ∙ at)
        ∙ (λ i. Some (last_in w (slot_of w (here i).name.now) (first_of (at i) xs)))

-- ---- One instance more.

set_same : (xs : List ℕ) (b v : ℕ) → b < length xs → slice_get (slice_set xs b v) b ≡ Some v
set_same [] b v less = absurd (omega (arith, less))
set_same (x ∷ xs) zero v less = refl
set_same (x ∷ xs) (suc b) v less = set_same xs b v (omega (arith, less))

set_other : (xs : List ℕ) (slot v b : ℕ) → (slot ≡ b → ⊥) → slice_get (slice_set xs slot v) b ≡ slice_get xs b
set_other [] slot v b other = refl
set_other (x ∷ xs) zero v zero other = absurd (other refl)
set_other (x ∷ xs) zero v (suc b) other = refl
set_other (x ∷ xs) (suc slot) v zero other = refl
set_other (x ∷ xs) (suc slot) v (suc b) other = set_other xs slot v b (λ e. other (ap suc e))

pub set_length : (xs : List ℕ) (i v : ℕ) → length (slice_set xs i v) ≡ length xs
set_length [] i v = refl
set_length (x ∷ xs) zero v = refl
set_length (x ∷ xs) (suc i) v = ap suc (set_length xs i v)

pub some_is : {X : Type 0} (y x : X) → ◌≡◌ {A = Option X} (Some y) (Some x) → y ≡ x
some_is y x e = cc

pub slots_more : (w n : ℕ) (xs : List Instance) (x : Instance) (slots : List ℕ) → w ≡ length slots → n < length xs → x ≡ get_or xs n x
    → ((b : ℕ) → b < w → slice_get slots b ≡ Some (last_in w b (first_of n xs)))
    → (b : ℕ) → b < w → slice_get (slice_set slots (slot_of w x.name.now) (suc n)) b ≡ Some (last_in w b (first_of (suc n) xs))
slots_more w n xs x slots all within is before b less =
    by (nat_eq (slot_of w x.name.now) b) refl ∙ ap Some (sym (last_more w b xs n x within is))
  where
    by : (v : Bool) → nat_eq (slot_of w x.name.now) b ≡ v
        → slice_get (slice_set slots (slot_of w x.name.now) (suc n)) b ≡ Some (if nat_eq (slot_of w x.name.now) b then suc n else last_in w b (first_of n xs))
    by true same =
        subst (λ k. slice_get (slice_set slots k (suc n)) b ≡ Some (suc n)) (sym (eqb-true (slot_of w x.name.now) b same)) (set_same slots b (suc n) (omega (arith, all, less)))
        ∙ ap (λ v. Some (if v then suc n else last_in w b (first_of n xs))) (sym same)
    by false other =
        set_other slots (slot_of w x.name.now) (suc n) b (eqb-false (slot_of w x.name.now) b other)
        ∙ (before b less ∙ ap (λ v. Some (if v then suc n else last_in w b (first_of n xs))) (sym other))

pub one_more : (xs : List Instance) (w : ℕ) (slots links : List ℕ) (x : Instance) (next : ℕ) → w ≡ length slots → slot_of w x.name.now < w → AreLastsOf xs w slots links
    → length links < length xs → x ≡ get_or xs (length links) x → slice_get slots (slot_of w x.name.now) ≡ Some next
    → AreLastsOf xs w (slice_set slots (slot_of w x.name.now) (suc (length links))) (links ++ next ∷ [])
one_more xs w slots links x next all less are within is there =
    let many = longer links next in
    let link = some_is next (last_in w (slot_of w x.name.now) (first_of (length links) xs)) (sym there ∙ are.last (slot_of w x.name.now) less) in
    record {
      few = omega (arith, many, within);
      some = λ l. omega (arith, less);
      last = λ b l. slots_more w (length links) xs x slots all within is are.last b l ∙ ap (λ k. Some (last_in w b (first_of k xs))) (sym many);
      before =
          (λ i. are.before i ++ link i ∷ [])
          ∙ (sym (links_more w xs (length links) x within is) ∙ ap (λ k. links_of w (first_of k xs)) (sym many));
    }

read_at : {X : Type 0} (xs : List X) (n : ℕ) (x : X) → slice_get xs n ≡ Some x → (n < length xs) × (x ≡ get_or xs n x)
read_at [] n x is = absurd cc
read_at (y ∷ xs) zero x is = (omega arith, sym (some_is y x is))
read_at (y ∷ xs) (suc n) x is = let rest = read_at xs n x is in let less = rest.0 in (omega (arith, less), rest.1)

-- as the code makes them
pub step_made : (xs : List Instance) (l : Lasts) (links : List ℕ) (slot v next : ℕ) (x : Instance) → AreLasts xs l → slot ≡ slot_of (length l.slots.items) x.name.now
    → slot < length l.slots.items → slice_get xs (length l.links.items) ≡ Some x → slice_get l.slots.items slot ≡ Some next
    → links ≡ l.links.items ++ next ∷ [] → v ≡ length links
    → AreLastsOf xs (length (slice_set l.slots.items slot v)) (slice_set l.slots.items slot v) links
step_made xs l links slot v next x are at less there read pushed last =
    let w = length l.slots.items in
    let here = read_at xs (length l.links.items) x there in
    let more = one_more xs w l.slots.items l.links.items x next refl (omega (arith, at, less)) are here.0 here.1 (ap (slice_get l.slots.items) (sym at) ∙ read) in
    let value : suc (length l.links.items) ≡ v = sym (longer l.links.items next) ∙ (ap length (sym pushed) ∙ sym last) in
    let written : slice_set l.slots.items (slot_of w x.name.now) (suc (length l.links.items)) ≡ slice_set l.slots.items slot v = λ j. slice_set l.slots.items (sym at j) (value j) in
    subst (λ m. AreLastsOf xs m (slice_set l.slots.items slot v) links) (sym (set_length l.slots.items slot v))
    (subst (λ ls. AreLastsOf xs w (slice_set l.slots.items slot v) ls) (sym pushed)
    (subst (λ ss. AreLastsOf xs w ss (l.links.items ++ next ∷ [])) written more))

-- ---- Along the instances of a slot.

-- one more than the number of an instance that has the slot of this name, or 0: no instance of the name stands behind it, among the first
-- ones
pub record IsAlong (q : List ℕ) (xs : List Instance) (w n next : ℕ) : Type 0 where
  pub few : next ≤ n
  pub has : (k : ℕ) (x : Instance) → next ≡ suc k → x ≡ get_or xs k x → slot_of w x.name.now ≡ slot_of w q
  pub found : find q (first_of n xs) ≡ find q (first_of next xs)

pub first_along : (q : List ℕ) (xs : List Instance) (w n next : ℕ) → n ≤ length xs → next ≡ last_in w (slot_of w q) (first_of n xs) → IsAlong q xs w n next
first_along q xs w n next all is =
    record {
      few = omega (arith, is, last_few w (slot_of w q) xs n all);
      has = λ k x e at. last_has w (slot_of w q) xs n k x all (sym is ∙ e) at;
      found = found_last w q xs n all ∙ ap (λ k. find q (first_of k xs)) (sym is);
    }

pub next_along : (q : List ℕ) (xs : List Instance) (w n k next : ℕ) (x : Instance) → n ≤ length xs → IsAlong q xs w n (suc k) → x ≡ get_or xs k x → bytes_eq x.name.now q ≡ false
    → next ≡ last_in w (slot_of w x.name.now) (first_of k xs) → IsAlong q xs w n next
next_along q xs w n k next x all along at other is =
    let few = along.few in
    let slot : next ≡ last_in w (slot_of w q) (first_of k xs) = is ∙ ap (λ b. last_in w b (first_of k xs)) (along.has k x refl at) in
    let rest = first_along q xs w k next (omega (arith, all, few)) slot in
    let less = rest.few in
    record {
      few = omega (arith, few, less);
      has = rest.has;
      found = along.found ∙ (not_here q xs k (suc k) x refl (omega (arith, all, few)) at other ∙ rest.found);
    }

-- the link of an instance, as it is read
pub link_read : (xs : List Instance) (w : ℕ) (slots links : List ℕ) (k next : ℕ) (x : Instance) → AreLastsOf xs w slots links → k < length links → x ≡ get_or xs k x
    → slice_get links k ≡ Some next → next ≡ last_in w (slot_of w x.name.now) (first_of k xs)
link_read xs w slots links k next x are less is there =
    let few = are.few in
    some_is next (last_in w (slot_of w x.name.now) (first_of k xs))
    (sym there ∙ (ap (λ ls. slice_get ls k) are.before ∙ link_at w xs (length links) k x few less is))
