-- What is found by the slots of names, and what by numbers.
use Rattle.std.proofs.Common.{◌≡◌, ℕ, zero, suc, ◌+◌, ◌<◌, ◌≤◌, List, [], ◌∷◌, ◌++◌, length, Bool, true, false, Option, Some, None, ◌⊎◌, inl, inr, refl, sym, ap, subst, ◌∙◌, arith}
use Rattle.std.specs.Prelude.{slice_get, slice_set, get_or, bytes_eq, nat_eq, option_and_then, option_map, if◌then◌else◌}
use Rattle.std.specs.Option.{is_some}
use Rattle.std.specs.Cmp.Lexicographic.{bytes_decides}
use Rattle.std.proofs.lemmas.Option.{slice_get_read}
use Rattle.std.proofs.lemmas.Bool.{cases_lt, eq-eqb, eqb-true, eqb-false}
use Rattle.rdl_tree.specs.Items.{Items}
use Rattle.rdl_tree.specs.View.{list_of}
use Rattle.rdl_tree.specs.declared.description.Component.{Component}
use Rattle.rdl_tree.specs.declared.description.Item.{Item}
use Rattle.rdl_tree.specs.declared.description.Item.TheVariants.{Define, Instance, Own, Default, Dynamic}
use Rattle.rdl_tree.specs.declared.description.Of.{Of}
use Rattle.rdl_places.specs.Lasting.{name_of, slot_of, has_slot, last_in, AreLastsOf, AreLasts}
use Rattle.rdl_places.specs.LastNumbers.{is_sought, last_sought}
use Rattle.rdl_places.specs.Reached.{count_of, count_before, FoundAt, component_of, instance_named, find_before}
use Rattle.rdl_places.specs.Scopes.{Place, Holding, definition, holding_at, last_type}
use Rattle.rdl_places.specs.declared.lasts.Link.{Link}
use Rattle.rdl_places.specs.declared.lasts.Lasts.{Lasts}
use Rattle.rdl_places.specs.declared.numbers.Sought.{Sought}
use Rattle.rdl_places.specs.declared.numbers.Sought.TheVariants as sought

-- ---- The last one.

-- none that is sought stands from this number on, among the first items
abbrev pub NoneFrom : Sought → List ℕ → Items → ℕ → ℕ → Type 0
NoneFrom s name t from count = (i : ℕ) → from ≤ i → i < count → is_sought s name (slice_get (list_of t) i) ≡ false

abbrev step : Sought → List ℕ → ℕ → Items → Bool → Option ℕ
step s name i t v = if v then Some i else last_sought s name i t

pub none_sought : (s : Sought) (name : List ℕ) (t : Items) (count : ℕ) → NoneFrom s name t 0 count → last_sought s name count t ≡ None
none_sought s name t zero none = refl
none_sought s name t (suc n) none =
    ap (step s name n t) (none n (omega arith) (omega arith)) ∙ none_sought s name t n (λ i f l. none i f (omega (arith, l)))

pub last_is : (s : Sought) (name : List ℕ) (t : Items) (count k : ℕ) → k < count → is_sought s name (slice_get (list_of t) k) ≡ true → NoneFrom s name t (suc k) count → last_sought s name count t ≡ Some k
last_is s name t zero k less is none = absurd (omega (arith, less))
last_is s name t (suc n) k less is none = by (cases_lt k n)
    (λ l. ap (step s name n t) (none n (omega (arith, l)) (omega arith)) ∙ last_is s name t n k l is (λ i f g. none i f (omega (arith, g))))
  where
    by : (k < n) ⊎ (n ≤ k) → (k < n → last_sought s name (suc n) t ≡ Some k) → last_sought s name (suc n) t ≡ Some k
    by (inl l) below = below l
    by (inr g) below =
        let same : k ≡ n = omega (arith, less, g) in
        subst (λ j. last_sought s name (suc n) t ≡ Some j) (sym same)
        (ap (step s name n t) (subst (λ j. is_sought s name (slice_get (list_of t) j) ≡ true) same is))

-- ---- The items of a slot.

abbrev slot_step : ℕ → ℕ → ℕ → Items → Bool → ℕ
slot_step w slot i t v = if v then suc i else last_in w slot i t

pub few_in : (w slot n : ℕ) (t : Items) → last_in w slot n t ≤ n
few_in w slot zero t = omega arith
few_in w slot (suc n) t = by (few_in w slot n t) (has_slot w slot (name_of (slice_get (list_of t) n)))
  where
    by : last_in w slot n t ≤ n → (v : Bool) → slot_step w slot n t v ≤ suc n
    by few true = omega arith
    by few false = omega (arith, few)

-- the last one has that slot
pub last_has : (w slot n k : ℕ) (t : Items) → last_in w slot n t ≡ suc k → has_slot w slot (name_of (slice_get (list_of t) k)) ≡ true
last_has w slot zero k t last = absurd (omega (arith, last))
last_has w slot (suc n) k t last = by (has_slot w slot (name_of (slice_get (list_of t) n))) refl last (last_has w slot n k t)
  where
    by : (v : Bool) → has_slot w slot (name_of (slice_get (list_of t) n)) ≡ v → slot_step w slot n t v ≡ suc k
        → (last_in w slot n t ≡ suc k → has_slot w slot (name_of (slice_get (list_of t) k)) ≡ true) → has_slot w slot (name_of (slice_get (list_of t) k)) ≡ true
    by true is at before = let same : n ≡ k = omega (arith, at) in subst (λ j. has_slot w slot (name_of (slice_get (list_of t) j)) ≡ true) same is
    by false is at before = before at

-- those behind it have others
pub none_behind : (w slot n i : ℕ) (t : Items) → last_in w slot n t ≤ i → i < n → has_slot w slot (name_of (slice_get (list_of t) i)) ≡ false
none_behind w slot zero i t behind less = absurd (omega (arith, less))
none_behind w slot (suc n) i t behind less = by (has_slot w slot (name_of (slice_get (list_of t) n))) refl behind (cases_lt i n) (none_behind w slot n i t)
  where
    by : (v : Bool) → has_slot w slot (name_of (slice_get (list_of t) n)) ≡ v → slot_step w slot n t v ≤ i → (i < n) ⊎ (n ≤ i)
        → (last_in w slot n t ≤ i → i < n → has_slot w slot (name_of (slice_get (list_of t) i)) ≡ false) → has_slot w slot (name_of (slice_get (list_of t) i)) ≡ false
    by true is at c before = absurd (omega (arith, at, less))
    by false is at (inl l) before = before at l
    by false is at (inr g) before = let same : n ≡ i = omega (arith, less, g) in subst (λ j. has_slot w slot (name_of (slice_get (list_of t) j)) ≡ false) same is

-- ---- What is sought has the slot of its name.

named_has : (w : ℕ) (name q : List ℕ) → bytes_eq q name ≡ true → has_slot w (slot_of w name) (Some q) ≡ true
named_has w name q same = eq-eqb (slot_of w q) (slot_of w name) (ap (slot_of w) ((bytes_decides q name).0 same))

sought_named : (w : ℕ) (s : Sought) (name : List ℕ) (x : Item) → is_sought s name (Some x) ≡ true → has_slot w (slot_of w name) (name_of (Some x)) ≡ true
sought_named w sought.Definition name (Define n c) is = by (bytes_eq n name) refl is
  where
    by : (v : Bool) → bytes_eq n name ≡ v → is_some (if v then Some c else None) ≡ true → has_slot w (slot_of w name) (Some n) ≡ true
    by true same is = named_has w name n same
    by false same is = absurd cc
sought_named w sought.Definition name (Instance s of) is = absurd cc
sought_named w sought.Definition name (Own p v) is = absurd cc
sought_named w sought.Definition name (Default p v) is = absurd cc
sought_named w sought.Definition name (Dynamic t p v) is = absurd cc
sought_named w sought.Instance name (Instance s of) is = by (bytes_eq s.name name) refl is
  where
    by : (v : Bool) → bytes_eq s.name name ≡ v → is_some (if v then Some of else None) ≡ true → has_slot w (slot_of w name) (Some s.name) ≡ true
    by true same is = named_has w name s.name same
    by false same is = absurd cc
sought_named w sought.Instance name (Define n c) is = absurd cc
sought_named w sought.Instance name (Own p v) is = absurd cc
sought_named w sought.Instance name (Default p v) is = absurd cc
sought_named w sought.Instance name (Dynamic t p v) is = absurd cc

sought_has : (w : ℕ) (s : Sought) (name : List ℕ) (o : Option Item) → is_sought s name o ≡ true → has_slot w (slot_of w name) (name_of o) ≡ true
sought_has w sought.Definition name None is = absurd cc
sought_has w sought.Instance name None is = absurd cc
sought_has w s name (Some x) is = sought_named w s name x is

unless_slot : (w : ℕ) (s : Sought) (name : List ℕ) (o : Option Item) → has_slot w (slot_of w name) (name_of o) ≡ false → is_sought s name o ≡ false
unless_slot w s name o other = by (is_sought s name o) refl
  where
    by : (v : Bool) → is_sought s name o ≡ v → v ≡ false
    by false e = refl
    by true e = sym (sought_has w s name o e) ∙ other

-- none stands behind the last item of the slot
pub none_sought_behind : (w : ℕ) (s : Sought) (name : List ℕ) (t : Items) (n : ℕ) → NoneFrom s name t (last_in w (slot_of w name) n t) n
none_sought_behind w s name t n i from less = unless_slot w s name (slice_get (list_of t) i) (none_behind w (slot_of w name) n i t from less)

pub none_so_far : (s : Sought) (name : List ℕ) (t : Items) (next middle count : ℕ) → NoneFrom s name t next middle → NoneFrom s name t middle count → NoneFrom s name t next count
none_so_far s name t next middle count below above i from less = by (cases_lt i middle)
  where
    by : (i < middle) ⊎ (middle ≤ i) → is_sought s name (slice_get (list_of t) i) ≡ false
    by (inl l) = below i from l
    by (inr g) = above i g less

-- nor is the item of this number one
pub none_here : (s : Sought) (name : List ℕ) (t : Items) (k count : ℕ) → (k < count → is_sought s name (slice_get (list_of t) k) ≡ false) → NoneFrom s name t (suc k) count → NoneFrom s name t k count
none_here s name t k count none above i from less = by (cases_lt k i)
  where
    by : (k < i) ⊎ (i ≤ k) → is_sought s name (slice_get (list_of t) i) ≡ false
    by (inl l) = above i l less
    by (inr g) = let same : k ≡ i = omega (arith, from, g) in subst (λ j. is_sought s name (slice_get (list_of t) j) ≡ false) same (none (omega (arith, same, less)))

-- ---- Along the items of a slot.

-- one more than the number of an item that has the slot of this name, or 0: none that is sought stands behind it, among the first ones
pub record IsAlong (s : Sought) (name : List ℕ) (t : Items) (w many count next : ℕ) : Type 0 where
  pub few : next ≤ many
  pub has : (k : ℕ) → next ≡ suc k → has_slot w (slot_of w name) (name_of (slice_get (list_of t) k)) ≡ true
  pub none : NoneFrom s name t next count

pub first_along : (s : Sought) (name : List ℕ) (t : Items) (w many count next : ℕ) → count ≤ many → next ≡ last_in w (slot_of w name) many t → IsAlong s name t w many count next
first_along s name t w many count next few is =
    record {
      few = let at = few_in w (slot_of w name) many t in omega (arith, is, at);
      has = λ k e. last_has w (slot_of w name) many k t (sym is ∙ e);
      none = λ i from less. none_sought_behind w s name t many i (omega (arith, is, from)) (omega (arith, few, less));
    }

pub next_along : (s : Sought) (name : List ℕ) (t : Items) (w many count k next : ℕ) → IsAlong s name t w many count (suc k) → (k < count → is_sought s name (slice_get (list_of t) k) ≡ false)
    → next ≡ last_in w (slot_of w name) k t → IsAlong s name t w many count next
next_along s name t w many count k next along other is =
    let at = few_in w (slot_of w name) k t in
    record {
      few = let some = along.few in omega (arith, is, at, some);
      has = λ j e. last_has w (slot_of w name) k j t (sym is ∙ e);
      none = none_so_far s name t next k count (λ i from less. none_sought_behind w s name t k i (omega (arith, is, from)) less) (none_here s name t k count other along.none);
    }

-- ---- One item more.

set_same : (xs : List ℕ) (b v : ℕ) → b < length xs → slice_get (slice_set xs b v) b ≡ Some v
set_same [] b v less = absurd (omega (arith, less))
set_same (x ∷ xs) zero v less = refl
set_same (x ∷ xs) (suc b) v less = set_same xs b v (omega (arith, less))

set_other : (xs : List ℕ) (slot v b : ℕ) → (slot ≡ b → ⊥) → slice_get (slice_set xs slot v) b ≡ slice_get xs b
set_other [] slot v b other = refl
set_other (x ∷ xs) zero v zero other = absurd (other refl)
set_other (x ∷ xs) zero v (suc b) other = refl
set_other (x ∷ xs) (suc slot) v zero other = refl
set_other (x ∷ xs) (suc slot) v (suc b) other = set_other xs slot v b (λ e. other (ap suc e))

slots_named : (w n : ℕ) (t : Items) (xs : List ℕ) (name : List ℕ) → w ≡ length xs → name_of (slice_get (list_of t) n) ≡ Some name
    → ((b : ℕ) → b < w → slice_get xs b ≡ Some (last_in w b n t))
    → (b : ℕ) → b < w → slice_get (slice_set xs (slot_of w name) (suc n)) b ≡ Some (last_in w b (suc n) t)
slots_named w n t xs name all named before b less =
    by (nat_eq (slot_of w name) b) refl ∙ ap (λ o. Some (slot_step w b n t (has_slot w b o))) (sym named)
  where
    by : (v : Bool) → nat_eq (slot_of w name) b ≡ v → slice_get (slice_set xs (slot_of w name) (suc n)) b ≡ Some (slot_step w b n t v)
    by true is =
        let same = eqb-true (slot_of w name) b is in
        subst (λ k. slice_get (slice_set xs k (suc n)) b ≡ Some (suc n)) (sym same) (set_same xs b (suc n) (omega (arith, all, less)))
    by false is = set_other xs (slot_of w name) (suc n) b (eqb-false (slot_of w name) b is) ∙ before b less

slots_unnamed : (w n : ℕ) (t : Items) (xs : List ℕ) → name_of (slice_get (list_of t) n) ≡ None
    → ((b : ℕ) → b < w → slice_get xs b ≡ Some (last_in w b n t))
    → (b : ℕ) → b < w → slice_get xs b ≡ Some (last_in w b (suc n) t)
slots_unnamed w n t xs unnamed before b less = before b less ∙ ap (λ o. Some (slot_step w b n t (has_slot w b o))) (sym unnamed)

-- an element of a list with one more is one of the list, or that one
one_more : {X : Type 0} (xs : List X) (y x : X) (i : ℕ) → slice_get (xs ++ y ∷ []) i ≡ Some x → (slice_get xs i ≡ Some x) ⊎ ((i ≡ length xs) × (y ≡ x))
one_more [] y x zero is = inr (refl, some_is y x is)
  where
    some_is : {X : Type 0} (y x : X) → ◌≡◌ {A = Option X} (Some y) (Some x) → y ≡ x
    some_is y x e = cc
one_more [] y x (suc i) is = absurd cc
one_more (z ∷ xs) y x zero is = inl is
one_more (z ∷ xs) y x (suc i) is = by (one_more xs y x i is)
  where
    by : (slice_get xs i ≡ Some x) ⊎ ((i ≡ length xs) × (y ≡ x)) → (slice_get (z ∷ xs) (suc i) ≡ Some x) ⊎ ((suc i ≡ length (z ∷ xs)) × (y ≡ x))
    by (inl e) = inl e
    by (inr e) = let n = e.0 in inr (omega (arith, n), e.1)

pub some_is : {X : Type 0} (y x : X) → ◌≡◌ {A = Option X} (Some y) (Some x) → y ≡ x
some_is y x e = cc

longer : (links : List Link) (x : Link) → length (links ++ x ∷ []) ≡ suc (length links)
longer [] x = refl
longer (y ∷ links) x = ap suc (longer links x)

-- the same of the links with one more, if it is so of that one
links_more : (P : ℕ → Link → Type 0) (links : List Link) (y : Link) → ((i : ℕ) (x : Link) → slice_get links i ≡ Some x → P i x) → P (length links) y
    → (i : ℕ) (x : Link) → slice_get (links ++ y ∷ []) i ≡ Some x → P i x
links_more P links y before last i x is = by (one_more links y x i is)
  where
    by : (slice_get links i ≡ Some x) ⊎ ((i ≡ length links) × (y ≡ x)) → P i x
    by (inl there) = before i x there
    by (inr there) = subst (λ z. P i z) there.1 (subst (λ j. P j y) (sym there.0) last)

pub one_more_named : (t : Items) (w : ℕ) (slots : List ℕ) (links : List Link) (n : ℕ) (name : List ℕ) (y : Link) → w ≡ length slots → slot_of w name < w → AreLastsOf t w slots links n
    → name_of (slice_get (list_of t) (length links)) ≡ Some name → slice_get slots (slot_of w name) ≡ Some y.next → y.before ≡ n
    → AreLastsOf t w (slice_set slots (slot_of w name) (suc (length links))) (links ++ y ∷ []) (n + count_of (slice_get (list_of t) (length links)))
one_more_named t w slots links n name y all less are named next before =
    let many = longer links y in
    record {
      slots-last = λ b l. slots_named w (length links) t slots name all named are.slots-last b l ∙ ap (λ k. Some (last_in w b k t)) (sym many);
      before = links_more (λ i x. x.before ≡ count_before i t) links y are.before (before ∙ are.counted);
      next = λ i x slot there has.
          links_more (λ i x. has_slot w slot (name_of (slice_get (list_of t) i)) ≡ true → x.next ≡ last_in w slot i t) links y (λ i x there has. are.next i x slot there has)
          (λ has. here slot (sym (ap (has_slot w slot) named) ∙ has)) i x there has;
      counted = ap (λ k. k + count_of (slice_get (list_of t) (length links))) are.counted ∙ ap (λ k. count_before k t) (sym many);
    }
  where
    here : (slot : ℕ) → has_slot w slot (Some name) ≡ true → y.next ≡ last_in w slot (length links) t
    here slot has =
        let same = eqb-true (slot_of w name) slot has in
        subst (λ b. y.next ≡ last_in w b (length links) t) same
        (some_is y.next (last_in w (slot_of w name) (length links) t) (sym next ∙ are.slots-last (slot_of w name) less))

pub one_more_unnamed : (t : Items) (w : ℕ) (slots : List ℕ) (links : List Link) (n : ℕ) (y : Link) → AreLastsOf t w slots links n
    → name_of (slice_get (list_of t) (length links)) ≡ None → y.before ≡ n
    → AreLastsOf t w slots (links ++ y ∷ []) (n + count_of (slice_get (list_of t) (length links)))
one_more_unnamed t w slots links n y are unnamed before =
    let many = longer links y in
    record {
      slots-last = λ b l. slots_unnamed w (length links) t slots unnamed are.slots-last b l ∙ ap (λ k. Some (last_in w b k t)) (sym many);
      before = links_more (λ i x. x.before ≡ count_before i t) links y are.before (before ∙ are.counted);
      next = λ i x slot there has.
          links_more (λ i x. has_slot w slot (name_of (slice_get (list_of t) i)) ≡ true → x.next ≡ last_in w slot i t) links y (λ i x there has. are.next i x slot there has)
          (λ has. absurd (none slot (sym (ap (has_slot w slot) unnamed) ∙ has))) i x there has;
      counted = ap (λ k. k + count_of (slice_get (list_of t) (length links))) are.counted ∙ ap (λ k. count_before k t) (sym many);
    }
  where
    none : (slot : ℕ) → has_slot w slot None ≡ true → ⊥
    none slot has = absurd cc

set_length : (xs : List ℕ) (i v : ℕ) → length (slice_set xs i v) ≡ length xs
set_length [] i v = refl
set_length (x ∷ xs) zero v = refl
set_length (x ∷ xs) (suc i) v = ap suc (set_length xs i v)

-- as the code makes them
pub step_named : (t : Items) (l : Lasts) (links : List Link) (slot v k n : ℕ) (name : List ℕ) (y : Link) (o : Option Item) → AreLasts t l → slot ≡ slot_of (length l.slots.items) name
    → slot < length l.slots.items → n ≡ length l.links.items → o ≡ slice_get (list_of t) n → name_of o ≡ Some name → y.next ≡ get_or l.slots.items slot y.next → y.before ≡ l.instances
    → links ≡ l.links.items ++ y ∷ [] → v ≡ length links → k ≡ count_of o
    → AreLastsOf t (length (slice_set l.slots.items slot v)) (slice_set l.slots.items slot v) links (l.instances + k)
step_named t l links slot v k n name y o are at less many item named next before pushed last counted =
    let w = length l.slots.items in
    let here : o ≡ slice_get (list_of t) (length l.links.items) = item ∙ ap (slice_get (list_of t)) many in
    let there : slice_get l.slots.items slot ≡ Some y.next = slice_get_read l.slots.items w slot y.next refl less next in
    let more = one_more_named t w l.slots.items l.links.items l.instances name y refl (omega (arith, at, less)) are (ap name_of (sym here) ∙ named) (ap (slice_get l.slots.items) (sym at) ∙ there) before in
    let value : suc (length l.links.items) ≡ v = sym (longer l.links.items y) ∙ (ap length (sym pushed) ∙ sym last) in
    let written : slice_set l.slots.items (slot_of w name) (suc (length l.links.items)) ≡ slice_set l.slots.items slot v = λ j. slice_set l.slots.items (sym at j) (value j) in
    let few : l.instances + count_of (slice_get (list_of t) (length l.links.items)) ≡ l.instances + k = ap (λ i. l.instances + i) (ap count_of (sym here) ∙ sym counted) in
    subst (λ m. AreLastsOf t m (slice_set l.slots.items slot v) links (l.instances + k)) (sym (set_length l.slots.items slot v))
    (subst (λ i. AreLastsOf t w (slice_set l.slots.items slot v) links i) few
    (subst (λ ls. AreLastsOf t w (slice_set l.slots.items slot v) ls (l.instances + count_of (slice_get (list_of t) (length l.links.items)))) (sym pushed)
    (subst (λ ss. AreLastsOf t w ss (l.links.items ++ y ∷ []) (l.instances + count_of (slice_get (list_of t) (length l.links.items)))) written more)))

pub step_unnamed : (t : Items) (l : Lasts) (links : List Link) (k n : ℕ) (y : Link) (o : Option Item) → AreLasts t l
    → n ≡ length l.links.items → o ≡ slice_get (list_of t) n → name_of o ≡ None → y.before ≡ l.instances → links ≡ l.links.items ++ y ∷ [] → k ≡ count_of o
    → AreLastsOf t (length l.slots.items) l.slots.items links (l.instances + k)
step_unnamed t l links k n y o are many item unnamed before pushed counted =
    let w = length l.slots.items in
    let here : o ≡ slice_get (list_of t) (length l.links.items) = item ∙ ap (slice_get (list_of t)) many in
    let more = one_more_unnamed t w l.slots.items l.links.items l.instances y are (ap name_of (sym here) ∙ unnamed) before in
    let few : l.instances + count_of (slice_get (list_of t) (length l.links.items)) ≡ l.instances + k = ap (λ i. l.instances + i) (ap count_of (sym here) ∙ sym counted) in
    subst (λ i. AreLastsOf t w l.slots.items links i) few
    (subst (λ ls. AreLastsOf t w l.slots.items ls (l.instances + count_of (slice_get (list_of t) (length l.links.items)))) (sym pushed) more)

pub few_instances : (o : Option Item) → count_of o ≤ 1
few_instances None = omega arith
few_instances (Some (Define m c)) = omega arith
few_instances (Some (Instance s of)) = omega arith
few_instances (Some (Own q v)) = omega arith
few_instances (Some (Default q v)) = omega arith
few_instances (Some (Dynamic q m v)) = omega arith

pub no_instance : (o : Option Item) → name_of o ≡ None → count_of o ≡ 0
no_instance None none = refl
no_instance (Some (Define m c)) none = absurd cc
no_instance (Some (Instance s of)) none = absurd cc
no_instance (Some (Own q v)) none = refl
no_instance (Some (Default q v)) none = refl
no_instance (Some (Dynamic q m v)) none = refl

-- ---- What is found by them.

-- the component of a definition of the name that has this number
abbrev pub definition_at : List ℕ → Place → List Place → ℕ → Option Holding
definition_at name p ps k = option_and_then (holding_at k p ps) (definition name (slice_get (list_of p.body) k))

pub type_is_at : (name : List ℕ) (n : ℕ) (p : Place) (ps : List Place) → last_type name n p ps ≡ option_and_then (definition_at name p ps) (last_sought sought.Definition name n p.body)
type_is_at name zero p ps = refl
type_is_at name (suc n) p ps = by (definition name (slice_get (list_of p.body) n)) refl (type_is_at name n p ps)
  where
    by : (o : Option Component) → definition name (slice_get (list_of p.body) n) ≡ o
        → last_type name n p ps ≡ option_and_then (definition_at name p ps) (last_sought sought.Definition name n p.body)
        → elim o as (λ (v : Option Component). Option Holding) [ None ↦ last_type name n p ps | Some c ↦ holding_at n p ps c ]
        ≡ option_and_then (definition_at name p ps) (step sought.Definition name n p.body (is_some o))
    by None is before = before
    by (Some c) is before = sym (ap (option_and_then (holding_at n p ps)) is)

pub no_type : (name : List ℕ) (n : ℕ) (p : Place) (ps : List Place) → last_sought sought.Definition name n p.body ≡ None → None ≡ last_type name n p ps
no_type name n p ps none = sym (type_is_at name n p ps ∙ ap (option_and_then (definition_at name p ps)) none)

pub type_there : (name : List ℕ) (n k : ℕ) (p : Place) (ps : List Place) (o : Option Component) → last_sought sought.Definition name n p.body ≡ Some k → definition name (slice_get (list_of p.body) k) ≡ o
    → option_and_then (holding_at k p ps) o ≡ last_type name n p ps
type_there name n k p ps o last is = sym (type_is_at name n p ps ∙ (ap (option_and_then (definition_at name p ps)) last ∙ ap (option_and_then (holding_at k p ps)) is))

-- what is found of an instance of the name that has this number
abbrev pub instance_at : List ℕ → Place → List Place → ℕ → Option FoundAt
instance_at name p ps k = option_map (λ (of : Of). let f : FoundAt = record { number = count_before k p.body; holding = component_of k p ps of } in f) (instance_named name (slice_get (list_of p.body) k))

pub instance_is_at : (name : List ℕ) (n : ℕ) (p : Place) (ps : List Place) → find_before name n p ps ≡ option_and_then (instance_at name p ps) (last_sought sought.Instance name n p.body)
instance_is_at name zero p ps = refl
instance_is_at name (suc n) p ps = by (instance_named name (slice_get (list_of p.body) n)) refl (instance_is_at name n p ps)
  where
    by : (o : Option Of) → instance_named name (slice_get (list_of p.body) n) ≡ o
        → find_before name n p ps ≡ option_and_then (instance_at name p ps) (last_sought sought.Instance name n p.body)
        → elim o as (λ (v : Option Of). Option FoundAt) [ None ↦ find_before name n p ps | Some of ↦ Some (record { number = count_before n p.body; holding = component_of n p ps of }) ]
        ≡ option_and_then (instance_at name p ps) (step sought.Instance name n p.body (is_some o))
    by None is before = before
    by (Some of) is before = sym (ap (option_map (λ (of : Of). let f : FoundAt = record { number = count_before n p.body; holding = component_of n p ps of } in f)) is)

pub no_found : (name : List ℕ) (n : ℕ) (p : Place) (ps : List Place) → last_sought sought.Instance name n p.body ≡ None → None ≡ find_before name n p ps
no_found name n p ps none = sym (instance_is_at name n p ps ∙ ap (option_and_then (instance_at name p ps)) none)

pub found_there : (name : List ℕ) (n k : ℕ) (p : Place) (ps : List Place) (o : Option Of) → last_sought sought.Instance name n p.body ≡ Some k → instance_named name (slice_get (list_of p.body) k) ≡ o
    → option_map (λ (of : Of). let f : FoundAt = record { number = count_before k p.body; holding = component_of k p ps of } in f) o ≡ find_before name n p ps
found_there name n k p ps o last is =
    sym (instance_is_at name n p ps ∙ (ap (option_and_then (instance_at name p ps)) last ∙ ap (option_map (λ (of : Of). let f : FoundAt = record { number = count_before k p.body; holding = component_of k p ps of } in f)) is))

-- ---- How many.

pub few_before : (n : ℕ) (t : Items) → count_before n t ≤ n
few_before zero t = omega arith
few_before (suc n) t = by (few_before n t) (slice_get (list_of t) n)
  where
    by : count_before n t ≤ n → (o : Option Item) → count_before n t + count_of o ≤ suc n
    by few None = omega (arith, few)
    by few (Some (Define m c)) = omega (arith, few)
    by few (Some (Instance s of)) = omega (arith, few)
    by few (Some (Own q v)) = omega (arith, few)
    by few (Some (Default q v)) = omega (arith, few)
    by few (Some (Dynamic q m v)) = omega (arith, few)
