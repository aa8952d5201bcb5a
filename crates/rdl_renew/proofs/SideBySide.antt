-- A body beside what it was, item by item.
use Rattle.std.proofs.Common.{◌≡◌, ℕ, zero, suc, ◌+◌, ◌-◌, ◌<◌, ◌≤◌, Bool, true, false, if◌then◌else◌, List, [], ◌∷◌, ◌++◌, length, take, drop, Option, Some, ◌⊎◌, inl, inr, refl, sym, ap, subst, ◌∙◌, arith}
use Rattle.std.specs.Prelude.{slice_get}
use Rattle.std.proofs.lemmas.Bool.{cases_lt, lt-ltb, le-ltb, le-leb, lt-leb}
use Rattle.rdl_tree.specs.Items.{Items}
use Rattle.rdl_tree.specs.View as tree
use Rattle.rdl_tree.specs.declared.description.Item.{Item}
use Rattle.rdl_tree.specs.declared.description.Item.TheVariants.{Define, Instance, Own, Default, Dynamic}
use Rattle.rdl_tree.specs.declared.description.Of.TheVariants.{Named, Anonymous}
use Rattle.rdl_tree.proofs.Edits.{get-some}
use Rattle.rdl_tree.proofs.Rounds as tree_rounds
use Rattle.rdl_marks.specs.Describes.{Describes, IsItem, times, AreFrom}
use Rattle.rdl_marks.specs.InOrder.{AreInOrder, moved_times, place_behind, next_place}
use Rattle.rdl_marks.specs.Marks.{Firsts, Marks}
use Rattle.rdl_marks.specs.View.{Trace, new_item, old_item, same_item, traces_of, list_of}
use Rattle.rdl_marks.specs.Was.{trace_of}
use Rattle.rdl_marks.proofs.From.{IsFrom, AreSo, first_from, none_more, get_from}
use Rattle.rdl_marks.proofs.Orders.{passes_over, goes_on}
use Rattle.rdl_marks.proofs.Rounds.{traces_of-list_of}
use Rattle.rdl_seen.specs.declared.alert.Alert.{Alert}
use Rattle.rdl_seen.specs.Alert.{AgreeBut}
use Rattle.rdl_seen.specs.Layouts.{Laying}
use Rattle.rdl_seen.specs.Meaning.{around_before}
use Rattle.rdl_seen.specs.Node.{Around}
use Rattle.rdl_seen.specs.Passing.{behind_item, Tells}
use Rattle.rdl_seen.proofs.Passing.{stands_behind_item, items_come_and_go, items_are_passed_over, before_none}
use Rattle.rdl_renew.specs.SideBySide.{place_beside, TellsOfAll, NoMoreDiffersAlong, NoMoreDiffersBefore}

-- ---- Lists.

pub take_next : {X : Type 0} (xs : List X) (i : ℕ) (x : X) → slice_get xs i ≡ Some x → take (suc i) xs ≡ take i xs ++ x ∷ []
take_next [] i x e = absurd cc
take_next (y ∷ ys) zero x e = let same : y ≡ x = cc in ap (λ z. z ∷ []) same
take_next (y ∷ ys) (suc i) x e = ap (λ zs. y ∷ zs) (take_next ys i x e)

pub drop_next : {X : Type 0} (xs : List X) (i : ℕ) (x : X) → slice_get xs i ≡ Some x → drop i xs ≡ x ∷ drop (suc i) xs
drop_next [] i x e = absurd cc
drop_next (y ∷ ys) zero x e = let same : y ≡ x = cc in ap (λ z. z ∷ ys) same
drop_next (y ∷ ys) (suc i) x e = drop_next ys i x e

pub split : {X : Type 0} (xs : List X) (i : ℕ) → xs ≡ take i xs ++ drop i xs
split [] zero = refl
split [] (suc i) = refl
split (y ∷ ys) zero = refl
split (y ∷ ys) (suc i) = ap (λ zs. y ∷ zs) (split ys i)

pub all_taken : {X : Type 0} (xs : List X) → take (length xs) xs ≡ xs
all_taken [] = refl
all_taken (y ∷ ys) = ap (λ zs. y ∷ zs) (all_taken ys)

pub nothing_left : {X : Type 0} (xs : List X) → drop (length xs) xs ≡ []
nothing_left [] = refl
nothing_left (y ∷ ys) = nothing_left ys

pub get_drop : {X : Type 0} (xs : List X) (k n : ℕ) → slice_get (drop k xs) n ≡ slice_get xs (k + n)
get_drop [] zero n = refl
get_drop [] (suc k) n = refl
get_drop (y ∷ ys) zero n = ap (slice_get (y ∷ ys)) (let e : n ≡ 0 + n = omega arith in e)
get_drop (y ∷ ys) (suc k) n = get_drop ys k n ∙ ap (slice_get (y ∷ ys)) (let e : suc (k + n) ≡ suc k + n = omega arith in e)

pub within : {X : Type 0} (xs : List X) (i : ℕ) (x : X) → slice_get xs i ≡ Some x → i ≤ length xs
within [] i x e = absurd cc
within (y ∷ ys) zero x e = omega arith
within (y ∷ ys) (suc i) x e = let l = within ys i x e in omega (arith, l)

pub next_within : {X : Type 0} (xs : List X) (i : ℕ) (x : X) → slice_get xs i ≡ Some x → suc i ≤ length xs
next_within [] i x e = absurd cc
next_within (y ∷ ys) zero x e = omega arith
next_within (y ∷ ys) (suc i) x e = let l = next_within ys i x e in omega (arith, l)

-- ---- The old place.

next_of : ℕ → Trace → ℕ
next_of place e = place_behind place (e ∷ [])

pub place_append : (place : ℕ) (es : List Trace) (e : Trace) → place_behind place (es ++ e ∷ []) ≡ place_behind (place_behind place es) (e ∷ [])
place_append place [] e = refl
place_append place (new_item ∷ es) e = place_append place es e
place_append place (old_item number firsts inside ∷ es) e = place_append (if firsts.is_moved then place else number + 1) es e

-- ---- The old item of an item that stayed.

pub rest_items : (old : Items) (es : List Trace) (rest : List Item) (xs : List Item) (k : ℕ) → AreSo old es rest xs → slice_get xs (length es + k) ≡ slice_get rest k
rest_items old [] rest xs k h =
    ap (λ (ys : List Item). slice_get ys (0 + k)) (sym (tree_rounds.list_of-items_of xs) ∙ h) ∙ ap (slice_get rest) (let e : 0 + k ≡ k = omega arith in e)
rest_items old (e ∷ es) rest [] k h = absurd (none_more old e (traces_of es) rest h)
rest_items old (e ∷ es) rest (x ∷ xs) k h =
    ap (slice_get (x ∷ xs)) (let n : length (e ∷ es) + k ≡ suc (length es + k) = omega arith in n)
    ∙ rest_items old es rest xs k (first_from old e (traces_of es) rest x (tree.items_of xs) h).1

-- an item that was there had an old item
pub record Had (old : Items) (n : ℕ) : Type 0 where
  pub item : Item
  pub is : IsItem n old item

had_one : (old : Items) (n : ℕ) (firsts : Firsts) (inside : Marks) (y : Item) → IsFrom old (old_item n firsts inside) y → Had old n
had_one old n firsts inside (Define m c) h = record { item = _; is = h.0.1 }
had_one old n firsts inside (Instance s (Named t)) h = record { item = _; is = h.0 }
had_one old n firsts inside (Instance s (Anonymous c)) h = record { item = _; is = h.0.1 }
had_one old n firsts inside (Own p v) h = record { item = _; is = h.0 }
had_one old n firsts inside (Default p v) h = record { item = _; is = h.0 }
had_one old n firsts inside (Dynamic t p v) h = record { item = _; is = h.0 }

-- what is told of an item one by one, or behind those
pub record IsTold (m : Marks) (i : ℕ) (e : Trace) : Type 0 where
  pub is : (slice_get (list_of m.traces) i ≡ Some e) ⊎ ((length (list_of m.traces) ≤ i) × (same_item (m.behind + (i - length (list_of m.traces))) ≡ e))

pub is_told : (m : Marks) (i : ℕ) (e : Trace) → trace_of m i ≡ Some e → IsTold m i e
is_told m i e h = by (cases_lt i (length (list_of m.traces)))
  where
    some : (d : Trace) → ◌≡◌ {A = Option Trace} (Some d) (Some e) → d ≡ e
    some d g = cc

    pick : Bool → Option Trace
    pick z = if z then slice_get (list_of m.traces) i else Some (same_item (m.behind + (i - length (list_of m.traces))))

    by : ((i < length (list_of m.traces)) ⊎ (length (list_of m.traces) ≤ i)) → IsTold m i e
    by (inl l) = record { is = inl (ap pick (sym (lt-ltb i (length (list_of m.traces)) l)) ∙ h) }
    by (inr l) = record {
      is = inr (l, some (same_item (m.behind + (i - length (list_of m.traces)))) (ap pick (sym (le-ltb i (length (list_of m.traces)) l)) ∙ h));
    }

pub listed : (m : Marks) (old now : Items) → Describes m old now → AreSo old (list_of m.traces) (drop m.behind (tree.list_of old)) (tree.list_of now)
listed m old now d =
    subst (λ t. AreFrom old t (drop m.behind (tree.list_of old)) (tree.items_of (tree.list_of now))) (sym (traces_of-list_of m.traces))
    (subst (AreFrom old m.traces (drop m.behind (tree.list_of old))) (sym (tree_rounds.items_of-list_of now)) d.items)

pub had : (m : Marks) (old now : Items) (i n : ℕ) (firsts : Firsts) (inside : Marks) (y : Item) → Describes m old now → IsItem i now y → trace_of m i ≡ Some (old_item n firsts inside) → Had old n
had m old now i n firsts inside y d got h = by (is_told m i (old_item n firsts inside) h).is
  where
    es : List Trace
    es = list_of m.traces

    number : (k : ℕ) → same_item k ≡ old_item n firsts inside → k ≡ n
    number k e = cc

    by : (slice_get es i ≡ Some (old_item n firsts inside)) ⊎ ((length es ≤ i) × (same_item (m.behind + (i - length es)) ≡ old_item n firsts inside)) → Had old n
    by (inl e) = had_one old n firsts inside y (get_from old i (old_item n firsts inside) es (drop m.behind (tree.list_of old)) y (tree.list_of now) e got (listed m old now d))
    by (inr e) =
        let l = e.0 in
        let at : length es + (i - length es) ≡ i = omega (arith, l) in
        let here = rest_items old es (drop m.behind (tree.list_of old)) (tree.list_of now) (i - length es) (listed m old now d) in
        record {
          item = y;
          is =
              ap (slice_get (tree.list_of old)) (sym (number (m.behind + (i - length es)) e.1))
              ∙ (sym (get_drop (tree.list_of old) m.behind (i - length es)) ∙ (sym here ∙ (ap (slice_get (tree.list_of now)) at ∙ got)));
        }

-- ---- Side by side.

-- one of the two is 1
one_of : (a b : ℕ) → a + b ≡ 1 → (a ≡ 1) ⊎ (b ≡ 1)
one_of zero b e = inr (omega (arith, e))
one_of (suc zero) b e = inl refl
one_of (suc (suc a)) b e = absurd (omega (arith, e))

module _ (lay : Laying) (x : Alert) (m : Marks) (old now : Items) (a b : Around) (to : ℕ) (described : Describes m old now) (ordered : AreInOrder m) (tells : TellsOfAll lay x m old now a b to) where
  abbrev es : List Trace
  es = list_of m.traces

  told : (n : ℕ) (y : Item) → times n m.gone + moved_times n m.traces ≡ 1 → IsItem n old y → Tells x y
  told n y e got = by (one_of (times n m.gone) (moved_times n m.traces) e)
    where
      by : (times n m.gone ≡ 1) ⊎ (moved_times n m.traces ≡ 1) → Tells x y
      by (inl g) = tells.gone n y got g
      by (inr g) = tells.moved_away n y got g

  -- old items up to the next one that stayed are passed over
  passed : (done rest : List Trace) (c : Around) → es ≡ done ++ rest → AgreeBut x (around_before lay (place_behind 0 done) a old) c
      → AgreeBut x (around_before lay (next_place rest m.behind) a old) c
  passed done rest c e but =
      items_are_passed_over lay x a c old (place_behind 0 done) (next_place rest m.behind) (goes_on m ordered done rest e)
      (λ k y low high got. told k y (passes_over m old now described ordered done rest e k low high) got) but

  -- where items are told of one by one
  place_within : (i : ℕ) → i ≤ length es → place_beside m i ≡ place_behind 0 (take i es)
  place_within i l = ap (λ (z : Bool). if z then place_behind 0 (take i es) else m.behind + (i - length es)) (le-leb i (length es) l)

  place_behind_all : (i : ℕ) → length es < i → place_beside m i ≡ m.behind + (i - length es)
  place_behind_all i l = ap (λ (z : Bool). if z then place_behind 0 (take i es) else m.behind + (i - length es)) (lt-leb i (length es) l)

  before : (i n : ℕ) (firsts : Firsts) (inside : Marks) → trace_of m i ≡ Some (old_item n firsts inside) → firsts.is_moved ≡ false
      → AgreeBut x (around_before lay (place_beside m i) a old) (around_before lay i b now) → AgreeBut x (around_before lay n a old) (around_before lay i b now)
  before i n firsts inside h stayed but = by (is_told m i (old_item n firsts inside) h).is
    where
      c : Around
      c = around_before lay i b now

      number : (k : ℕ) → same_item k ≡ old_item n firsts inside → k ≡ n
      number k e = cc

      ends : (length es < i) ⊎ (i ≤ length es) → length es ≤ i → m.behind + (i - length es) ≡ n → AgreeBut x (around_before lay n a old) c
      ends (inl l) low e = subst (λ k. AgreeBut x (around_before lay k a old) c) (place_behind_all i l ∙ e) but
      ends (inr l) low e =
          let at : length es ≡ i = omega (arith, l, low) in
          let behind : m.behind ≡ n = omega (arith, e, at) in
          let here = subst (λ k. AgreeBut x (around_before lay k a old) c) (place_within i l ∙ ap (λ k. place_behind 0 (take k es)) (sym at) ∙ ap (place_behind 0) (all_taken es)) but in
          let none : es ≡ es ++ [] = split es (length es) ∙ (λ j. all_taken es j ++ nothing_left es j) in
          subst (λ k. AgreeBut x (around_before lay k a old) c) behind (passed es [] c none here)

      by : (slice_get es i ≡ Some (old_item n firsts inside)) ⊎ ((length es ≤ i) × (same_item (m.behind + (i - length es)) ≡ old_item n firsts inside)) → AgreeBut x (around_before lay n a old) c
      by (inl e) =
          let l : i ≤ length es = within es i (old_item n firsts inside) e in
          let here = subst (λ k. AgreeBut x (around_before lay k a old) c) (place_within i l) but in
          let next : next_place (drop i es) m.behind ≡ n = ap (λ zs. next_place zs m.behind) (drop_next es i (old_item n firsts inside) e) ∙ ap (λ (z : Bool). if z then next_place (drop (suc i) es) m.behind else n) stayed in
          subst (λ k. AgreeBut x (around_before lay k a old) c) next (passed (take i es) (drop i es) c (split es i) here)
      by (inr e) = ends (cases_lt (length es) i) e.0 (number (m.behind + (i - length es)) e.1)

  -- the place behind an item
  place_after : (i : ℕ) (e : Trace) → slice_get es i ≡ Some e → place_beside m (suc i) ≡ place_behind (place_behind 0 (take i es)) (e ∷ [])
  place_after i e got =
      place_within (suc i) (next_within es i e got) ∙ (ap (place_behind 0) (take_next es i e got) ∙ place_append 0 (take i es) e)

  -- behind an item that is new, or was moved here
  came : (i : ℕ) (e : Trace) (y : Item) → IsItem i now y → slice_get es i ≡ Some e → place_behind (place_behind 0 (take i es)) (e ∷ []) ≡ place_behind 0 (take i es) → Tells x y
      → AgreeBut x (around_before lay (place_beside m i) a old) (around_before lay i b now) → AgreeBut x (around_before lay (place_beside m (suc i)) a old) (around_before lay (suc i) b now)
  came i e y got at stays tell but =
      let same : place_beside m (suc i) ≡ place_beside m i = place_after i e at ∙ (stays ∙ sym (place_within i (within es i e at))) in
      subst (λ k. AgreeBut x (around_before lay k a old) (around_before lay (suc i) b now)) (sym same)
      (subst (AgreeBut x (around_before lay (place_beside m i) a old)) (sym (stands_behind_item lay b now i y got))
      (items_come_and_go lay x (around_before lay (place_beside m i) a old) (around_before lay i b now) y tell but).0)

  -- behind one that stayed in order
  stays : (i n : ℕ) (firsts : Firsts) (inside : Marks) (y : Item) → i < to → IsItem i now y → trace_of m i ≡ Some (old_item n firsts inside) → firsts.is_moved ≡ false
      → AgreeBut x (around_before lay (place_beside m i) a old) (around_before lay i b now) → AgreeBut x (around_before lay (suc n) a old) (around_before lay (suc i) b now)
  stays i n firsts inside y l got h stayed but =
      let z = had m old now i n firsts inside y described got h in
      let here = before i n firsts inside h stayed but in
      subst (λ c. AgreeBut x c (around_before lay (suc i) b now)) (sym (stands_behind_item lay a old n z.item z.is))
      (subst (AgreeBut x (behind_item lay (around_before lay n a old) z.item)) (sym (stands_behind_item lay b now i y got))
      (tells.stayed i n firsts inside z.item y l h stayed z.is got here))

  place_stayed : (i n : ℕ) (firsts : Firsts) (inside : Marks) → trace_of m i ≡ Some (old_item n firsts inside) → firsts.is_moved ≡ false → place_beside m (suc i) ≡ suc n
  place_stayed i n firsts inside h stayed = by (is_told m i (old_item n firsts inside) h).is
    where
      number : (k : ℕ) → same_item k ≡ old_item n firsts inside → k ≡ n
      number k e = cc

      by : (slice_get es i ≡ Some (old_item n firsts inside)) ⊎ ((length es ≤ i) × (same_item (m.behind + (i - length es)) ≡ old_item n firsts inside)) → place_beside m (suc i) ≡ suc n
      by (inl e) =
          let next : place_behind (place_behind 0 (take i es)) (old_item n firsts inside ∷ []) ≡ n + 1 = ap (λ (z : Bool). if z then place_behind 0 (take i es) else n + 1) stayed in
          let one : n + 1 ≡ suc n = omega arith in
          place_after i (old_item n firsts inside) e ∙ (next ∙ one)
      by (inr e) =
          let l = e.0 in
          let k = number (m.behind + (i - length es)) e.1 in
          let one : m.behind + (suc i - length es) ≡ suc n = omega (arith, l, k) in
          place_behind_all (suc i) (omega (arith, l)) ∙ one

  behind_one : (i : ℕ) (e : Trace) (y : Item) → i < to → IsItem i now y → trace_of m i ≡ Some e → AgreeBut x (around_before lay (place_beside m i) a old) (around_before lay i b now)
      → AgreeBut x (around_before lay (place_beside m (suc i)) a old) (around_before lay (suc i) b now)
  behind_one i new_item y l got h but = by (is_told m i new_item h).is
    where
      no_new : (k : ℕ) → same_item k ≡ new_item → ⊥
      no_new k e = cc

      by : (slice_get es i ≡ Some new_item) ⊎ ((length es ≤ i) × (same_item (m.behind + (i - length es)) ≡ new_item)) → AgreeBut x (around_before lay (place_beside m (suc i)) a old) (around_before lay (suc i) b now)
      by (inl e) = came i new_item y got e refl (tells.new i y got h) but
      by (inr e) = absurd (no_new (m.behind + (i - length es)) e.1)
  behind_one i (old_item n firsts inside) y l got h but = by firsts.is_moved refl
    where
      unmoved : (k : ℕ) → same_item k ≡ old_item n firsts inside → firsts.is_moved ≡ true → ⊥
      unmoved k e f = let is : firsts.is_moved ≡ false = cc in cc

      here : firsts.is_moved ≡ true → (slice_get es i ≡ Some (old_item n firsts inside)) ⊎ ((length es ≤ i) × (same_item (m.behind + (i - length es)) ≡ old_item n firsts inside))
          → AgreeBut x (around_before lay (place_beside m (suc i)) a old) (around_before lay (suc i) b now)
      here f (inl e) =
          came i (old_item n firsts inside) y got e (ap (λ (z : Bool). if z then place_behind 0 (take i es) else n + 1) f) (tells.moved_here i n firsts inside y got h f) but
      here f (inr e) = absurd (unmoved (m.behind + (i - length es)) e.1 f)

      by : (z : Bool) → firsts.is_moved ≡ z → AgreeBut x (around_before lay (place_beside m (suc i)) a old) (around_before lay (suc i) b now)
      by true f = here f (is_told m i (old_item n firsts inside) h).is
      by false f =
          subst (λ k. AgreeBut x (around_before lay k a old) (around_before lay (suc i) b now)) (sym (place_stayed i n firsts inside h f)) (stays i n firsts inside y l got h f but)

  trace_there : (i : ℕ) → (e : Trace) × (trace_of m i ≡ Some e)
  trace_there i = by (cases_lt i (length es))
    where
      pick : Bool → Option Trace
      pick z = if z then slice_get es i else Some (same_item (m.behind + (i - length es)))

      by : ((i < length es) ⊎ (length es ≤ i)) → (e : Trace) × (trace_of m i ≡ Some e)
      by (inl l) = let e = get-some es i l in (e.0, ap pick (lt-ltb i (length es) l) ∙ e.1)
      by (inr l) = (same_item (m.behind + (i - length es)), ap pick (le-ltb i (length es) l))

  along : AgreeBut x a b → (i : ℕ) → i ≤ to → i ≤ length (tree.list_of now) → AgreeBut x (around_before lay (place_beside m i) a old) (around_before lay i b now)
  along but zero up l =
      let first : place_beside m 0 ≡ 0 = place_within 0 (omega arith) in
      subst (λ k. AgreeBut x (around_before lay k a old) (around_before lay 0 b now)) (sym first)
      (subst (λ c. AgreeBut x c (around_before lay 0 b now)) (sym (before_none lay a old)) (subst (AgreeBut x a) (sym (before_none lay b now)) but))
  along but (suc i) up l =
      let y = get-some (tree.list_of now) i (omega (arith, l)) in
      let e = trace_there i in
      behind_one i e.0 y.0 (omega (arith, up)) y.1 e.1 (along but i (omega (arith, up)) (omega (arith, l)))

pub no_more_differs_along : NoMoreDiffersAlong
no_more_differs_along lay x m old now a b to described ordered tells but i up l = along lay x m old now a b to described ordered tells but i up l

pub no_more_differs_before : NoMoreDiffersBefore
no_more_differs_before lay x m old now a b to described ordered tells but i n firsts inside y up got h stayed =
    before lay x m old now a b to described ordered tells i n firsts inside h stayed
    (along lay x m old now a b to described ordered tells but i up (let l = next_within (tree.list_of now) i y got in omega (arith, l)))
