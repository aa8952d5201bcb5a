-- A body beside what it was: what holds before the first items, and stays so with each item more, holds all along.
use Rattle.std.proofs.Common.{◌≡◌, ℕ, zero, suc, ◌+◌, ◌-◌, ◌<◌, ◌≤◌, Bool, true, false, if◌then◌else◌, List, [], ◌∷◌, ◌++◌, length, take, drop, Option, Some, ◌⊎◌, inl, inr, refl, sym, ap, subst, ◌∙◌, arith, length-drop}
use Rattle.std.specs.Prelude.{slice_get}
use Rattle.std.proofs.lemmas.Bool.{cases_lt, lt-ltb, le-ltb, le-leb, lt-leb}
use Rattle.rdl_tree.specs.Items.{Items}
use Rattle.rdl_tree.specs.View as tree
use Rattle.rdl_tree.specs.declared.description.Item.{Item}
use Rattle.rdl_tree.proofs.Edits.{get-some}
use Rattle.rdl_tree.proofs.Rounds as tree_rounds
use Rattle.rdl_marks.specs.Describes.{Describes, IsItem, times}
use Rattle.rdl_marks.specs.InOrder.{AreInOrder, moved_times, place_behind, next_place}
use Rattle.rdl_marks.specs.Marks.{Firsts, Marks}
use Rattle.rdl_marks.specs.View.{Trace, new_item, old_item, same_item, traces_of, list_of}
use Rattle.rdl_marks.specs.Was.{trace_of}
use Rattle.rdl_marks.proofs.From.{AreSo, first_from, none_more}
use Rattle.rdl_marks.proofs.Orders.{passes_over, goes_on}
use Rattle.rdl_renew.specs.SideBySide.{place_beside}
use Rattle.rdl_renew.proofs.SideBySide.{take_next, drop_next, split, all_taken, nothing_left, within, next_within, place_append, is_told, listed}

-- something of the first items of the old body and the first ones of the new one, which stays so with each item more: an old one that is
-- gone or was moved away, one that is new or was moved here, and one that stayed in order
pub record StaysSo (m : Marks) (now : Items) (R : ℕ → ℕ → Type 0) : Type 0 where
  pub first : R 0 0
  pub passed : (k i : ℕ) → times k m.gone + moved_times k m.traces ≡ 1 → R k i → R (suc k) i
  pub new : (k i : ℕ) (y : Item) → IsItem i now y → trace_of m i ≡ Some new_item → R k i → R k (suc i)
  pub moved :
      (k i n : ℕ) (firsts : Firsts) (inside : Marks) (y : Item) → IsItem i now y → trace_of m i ≡ Some (old_item n firsts inside) → firsts.is_moved ≡ true → R k i → R k (suc i)
  pub stayed :
      (i n : ℕ) (firsts : Firsts) (inside : Marks) (y : Item) → IsItem i now y → trace_of m i ≡ Some (old_item n firsts inside) → firsts.is_moved ≡ false → R n i → R (suc n) (suc i)

-- ---- How many items there are.

so-length : (old : Items) (es : List Trace) (rest : List Item) (xs : List Item) → AreSo old es rest xs → length xs ≡ length es + length rest
so-length old [] rest xs h =
    let e : length xs ≡ length rest = ap length (sym (tree_rounds.list_of-items_of xs) ∙ h) in
    let s : length xs ≡ 0 + length rest = omega (arith, e) in
    s
so-length old (e ∷ es) rest [] h = absurd (none_more old e (traces_of es) rest h)
so-length old (e ∷ es) rest (x ∷ xs) h =
    let more = so-length old es rest xs (first_from old e (traces_of es) rest x (tree.items_of xs) h).1 in
    let s : suc (length xs) ≡ suc (length es) + length rest = omega (arith, more) in
    s

pub items-length : (m : Marks) (old now : Items) → Describes m old now → length (tree.list_of now) ≡ length (list_of m.traces) + (length (tree.list_of old) - m.behind)
items-length m old now d =
    so-length old (list_of m.traces) (drop m.behind (tree.list_of old)) (tree.list_of now) (listed m old now d)
    ∙ ap (λ n. length (list_of m.traces) + n) (length-drop m.behind (tree.list_of old))

-- what is told of an item that is told of one by one
pub told_there : (m : Marks) (i : ℕ) (e : Trace) → slice_get (list_of m.traces) i ≡ Some e → trace_of m i ≡ Some e
told_there m i e got =
    let pick = λ (z : Bool). if z then slice_get (list_of m.traces) i else Some (same_item (m.behind + (i - length (list_of m.traces)))) in
    let low : i < length (list_of m.traces) = (let l = next_within (list_of m.traces) i e got in omega (arith, l)) in
    ap pick (lt-ltb i (length (list_of m.traces)) low) ∙ got

module _ (m : Marks) (old now : Items) (R : ℕ → ℕ → Type 0) (described : Describes m old now) (ordered : AreInOrder m) (steps : StaysSo m now R) where
  abbrev es : List Trace
  es = list_of m.traces

  -- old items up to the next one that stayed are passed over
  pass_over : (i k j : ℕ) → k ≤ j → ((n : ℕ) → k ≤ n → n < j → times n m.gone + moved_times n m.traces ≡ 1) → R k i → R j i
  pass_over i k j l gone here = by (j - k) j (omega (arith, l)) gone
    where
      by : (n j : ℕ) → j ≡ k + n → ((d : ℕ) → k ≤ d → d < j → times d m.gone + moved_times d m.traces ≡ 1) → R j i
      by zero j e gone = subst (λ d. R d i) (let s : k ≡ j = omega (arith, e) in s) here
      by (suc n) j e gone =
          let s : suc (k + n) ≡ j = omega (arith, e) in
          subst (λ d. R d i) s (steps.passed (k + n) i (gone (k + n) (omega arith) (omega (arith, s))) (by n (k + n) refl (λ d low high. gone d low (omega (arith, high, s)))))

  passed : (done rest : List Trace) (i : ℕ) → es ≡ done ++ rest → R (place_behind 0 done) i → R (next_place rest m.behind) i
  passed done rest i e here =
      pass_over i (place_behind 0 done) (next_place rest m.behind) (goes_on m ordered done rest e) (λ n low high. passes_over m old now described ordered done rest e n low high) here

  -- where items are told of one by one
  place_within : (i : ℕ) → i ≤ length es → place_beside m i ≡ place_behind 0 (take i es)
  place_within i l = ap (λ (z : Bool). if z then place_behind 0 (take i es) else m.behind + (i - length es)) (le-leb i (length es) l)

  place_past : (i : ℕ) → length es < i → place_beside m i ≡ m.behind + (i - length es)
  place_past i l = ap (λ (z : Bool). if z then place_behind 0 (take i es) else m.behind + (i - length es)) (lt-leb i (length es) l)

  -- behind the last item that is told of one by one
  at_the_last : (i : ℕ) → length es ≡ i → R (place_beside m i) i → R m.behind i
  at_the_last i at so =
      let here = subst (λ k. R k i) (place_within i (omega (arith, at)) ∙ ap (λ k. place_behind 0 (take k es)) (sym at) ∙ ap (place_behind 0) (all_taken es)) so in
      let none : es ≡ es ++ [] = split es (length es) ∙ (λ j. all_taken es j ++ nothing_left es j) in
      passed es [] i none here

  before : (i n : ℕ) (firsts : Firsts) (inside : Marks) → trace_of m i ≡ Some (old_item n firsts inside) → firsts.is_moved ≡ false → R (place_beside m i) i → R n i
  before i n firsts inside h stayed so = by (is_told m i (old_item n firsts inside) h).is
    where
      number : (k : ℕ) → same_item k ≡ old_item n firsts inside → k ≡ n
      number k e = cc

      ends : (length es < i) ⊎ (i ≤ length es) → length es ≤ i → m.behind + (i - length es) ≡ n → R n i
      ends (inl l) low e = subst (λ k. R k i) (place_past i l ∙ e) so
      ends (inr l) low e =
          let at : length es ≡ i = omega (arith, l, low) in
          let behind : m.behind ≡ n = omega (arith, e, at) in
          subst (λ k. R k i) behind (at_the_last i at so)

      by : (slice_get es i ≡ Some (old_item n firsts inside)) ⊎ ((length es ≤ i) × (same_item (m.behind + (i - length es)) ≡ old_item n firsts inside)) → R n i
      by (inl e) =
          let l : i ≤ length es = within es i (old_item n firsts inside) e in
          let here = subst (λ k. R k i) (place_within i l) so in
          let next : next_place (drop i es) m.behind ≡ n =
          ap (λ zs. next_place zs m.behind) (drop_next es i (old_item n firsts inside) e) ∙ ap (λ (z : Bool). if z then next_place (drop (suc i) es) m.behind else n) stayed in
          subst (λ k. R k i) next (passed (take i es) (drop i es) i (split es i) here)
      by (inr e) = ends (cases_lt (length es) i) e.0 (number (m.behind + (i - length es)) e.1)

  -- the place behind an item
  place_after : (i : ℕ) (e : Trace) → slice_get es i ≡ Some e → place_beside m (suc i) ≡ place_behind (place_behind 0 (take i es)) (e ∷ [])
  place_after i e got = place_within (suc i) (next_within es i e got) ∙ (ap (place_behind 0) (take_next es i e got) ∙ place_append 0 (take i es) e)

  place_kept : (i : ℕ) (e : Trace) → slice_get es i ≡ Some e → place_behind (place_behind 0 (take i es)) (e ∷ []) ≡ place_behind 0 (take i es) → place_beside m (suc i) ≡ place_beside m i
  place_kept i e at stays = place_after i e at ∙ (stays ∙ sym (place_within i (within es i e at)))

  place_stayed : (i n : ℕ) (firsts : Firsts) (inside : Marks) → trace_of m i ≡ Some (old_item n firsts inside) → firsts.is_moved ≡ false → place_beside m (suc i) ≡ suc n
  place_stayed i n firsts inside h stayed = by (is_told m i (old_item n firsts inside) h).is
    where
      number : (k : ℕ) → same_item k ≡ old_item n firsts inside → k ≡ n
      number k e = cc

      by : (slice_get es i ≡ Some (old_item n firsts inside)) ⊎ ((length es ≤ i) × (same_item (m.behind + (i - length es)) ≡ old_item n firsts inside)) → place_beside m (suc i) ≡ suc n
      by (inl e) =
          let next : place_behind (place_behind 0 (take i es)) (old_item n firsts inside ∷ []) ≡ n + 1 = ap (λ (z : Bool). if z then place_behind 0 (take i es) else n + 1) stayed in
          let one : n + 1 ≡ suc n = omega arith in
          place_after i (old_item n firsts inside) e ∙ (next ∙ one)
      by (inr e) =
          let l = e.0 in
          let k = number (m.behind + (i - length es)) e.1 in
          let one : m.behind + (suc i - length es) ≡ suc n = omega (arith, l, k) in
          place_past (suc i) (omega (arith, l)) ∙ one

  one_more : (i : ℕ) (e : Trace) (y : Item) → IsItem i now y → trace_of m i ≡ Some e → R (place_beside m i) i → R (place_beside m (suc i)) (suc i)
  one_more i new_item y got h so = by (is_told m i new_item h).is
    where
      no_new : (k : ℕ) → same_item k ≡ new_item → ⊥
      no_new k e = cc

      by : (slice_get es i ≡ Some new_item) ⊎ ((length es ≤ i) × (same_item (m.behind + (i - length es)) ≡ new_item)) → R (place_beside m (suc i)) (suc i)
      by (inl e) = subst (λ k. R k (suc i)) (sym (place_kept i new_item e refl)) (steps.new (place_beside m i) i y got h so)
      by (inr e) = absurd (no_new (m.behind + (i - length es)) e.1)
  one_more i (old_item n firsts inside) y got h so = by firsts.is_moved refl
    where
      unmoved : (k : ℕ) → same_item k ≡ old_item n firsts inside → firsts.is_moved ≡ true → ⊥
      unmoved k e f = let is : firsts.is_moved ≡ false = cc in cc

      here : firsts.is_moved ≡ true → (slice_get es i ≡ Some (old_item n firsts inside)) ⊎ ((length es ≤ i) × (same_item (m.behind + (i - length es)) ≡ old_item n firsts inside))
          → R (place_beside m (suc i)) (suc i)
      here f (inl e) =
          subst (λ k. R k (suc i)) (sym (place_kept i (old_item n firsts inside) e (ap (λ (z : Bool). if z then place_behind 0 (take i es) else n + 1) f)))
          (steps.moved (place_beside m i) i n firsts inside y got h f so)
      here f (inr e) = absurd (unmoved (m.behind + (i - length es)) e.1 f)

      by : (z : Bool) → firsts.is_moved ≡ z → R (place_beside m (suc i)) (suc i)
      by true f = here f (is_told m i (old_item n firsts inside) h).is
      by false f = subst (λ k. R k (suc i)) (sym (place_stayed i n firsts inside h f)) (steps.stayed i n firsts inside y got h f (before i n firsts inside h f so))

  trace_there : (i : ℕ) → (e : Trace) × (trace_of m i ≡ Some e)
  trace_there i = by (cases_lt i (length es))
    where
      pick : Bool → Option Trace
      pick z = if z then slice_get es i else Some (same_item (m.behind + (i - length es)))

      by : ((i < length es) ⊎ (length es ≤ i)) → (e : Trace) × (trace_of m i ≡ Some e)
      by (inl l) = let e = get-some es i l in (e.0, ap pick (lt-ltb i (length es) l) ∙ e.1)
      by (inr l) = (same_item (m.behind + (i - length es)), ap pick (le-ltb i (length es) l))

  along : (i : ℕ) → i ≤ length (tree.list_of now) → R (place_beside m i) i
  along zero l = subst (λ k. R k 0) (sym (let first : place_beside m 0 ≡ 0 = place_within 0 (omega arith) in first)) steps.first
  along (suc i) l =
      let y = get-some (tree.list_of now) i (omega (arith, l)) in
      let e = trace_there i in
      one_more i e.0 y.0 y.1 e.1 (along i (omega (arith, l)))

  -- so it holds of all items of both
  to_the_end : (k : ℕ) × (length (tree.list_of old) ≤ k) × R k (length (tree.list_of now))
  to_the_end = by (cases_lt (length es) (length (tree.list_of now)))
    where
      many : length (tree.list_of now) ≡ length es + (length (tree.list_of old) - m.behind)
      many = items-length m old now described

      so : R (place_beside m (length (tree.list_of now))) (length (tree.list_of now))
      so = along (length (tree.list_of now)) (omega arith)

      by : (length es < length (tree.list_of now)) ⊎ (length (tree.list_of now) ≤ length es) → (k : ℕ) × (length (tree.list_of old) ≤ k) × R k (length (tree.list_of now))
      by (inl l) =
          let all = many in
          (m.behind + (length (tree.list_of now) - length es), omega (arith, all, l), subst (λ k. R k (length (tree.list_of now))) (place_past (length (tree.list_of now)) l) so)
      by (inr l) =
          let all = many in
          let at : length es ≡ length (tree.list_of now) = omega (arith, all, l) in
          (m.behind, omega (arith, all, l), at_the_last (length (tree.list_of now)) at so)

pub holds_of_all : (m : Marks) (old now : Items) (R : ℕ → ℕ → Type 0) → Describes m old now → AreInOrder m → StaysSo m now R → (k : ℕ) × (length (tree.list_of old) ≤ k) × R k (length (tree.list_of now))
holds_of_all m old now R described ordered steps = to_the_end m old now R described ordered steps
