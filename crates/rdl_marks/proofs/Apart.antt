-- No two items of a body had the same number before.
use Rattle.std.proofs.Common.{◌≡◌, ℕ, zero, suc, ◌+◌, ◌-◌, ◌<◌, ◌≤◌, ◌==◌, Bool, if◌then◌else◌, length, List, [], ◌∷◌, Option, Some, refl, sym, ap, subst, ◌∙◌, arith, eq-eqb, ◌⊎◌, inl, inr}
use Rattle.std.specs.Prelude.{slice_get, option_and_then}
use Rattle.std.proofs.lemmas.Bool.{cases_lt, lt-ltb, le-ltb}
use Rattle.rdl_tree.specs.Items.{Items}
use Rattle.rdl_marks.specs.Describes.{times, Describes}
use Rattle.rdl_marks.specs.Marks.{Marks}
use Rattle.rdl_marks.specs.View.{Trace, new_item, old_item, same_item, list_of}
use Rattle.rdl_marks.specs.Was.{number_of, was, HadOtherNumbers}
use Rattle.rdl_marks.proofs.Rounds.{traces_of-list_of}
use Rattle.rdl_marks.proofs.Times.{times_of, times_in, times-add, below, if-below}

abbrev told_at : List Trace → ℕ → Option ℕ
told_at es i = option_and_then number_of (slice_get es i)

once : (e : Trace) (n : ℕ) → number_of e ≡ Some n → times_of n e ≡ 1
once new_item n h = absurd cc
once (old_item number firsts inside) n h =
    let same : number ≡ n = cc in
    let own : ◌≡◌ {A = ℕ} (if number == n then 1 else 0) 1 = subst (λ k. ◌≡◌ {A = ℕ} (if k == n then 1 else 0) 1) (sym same) (itself n) in
    omega (arith, own)
  where
    itself : (n : ℕ) → ◌≡◌ {A = ℕ} (if n == n then 1 else 0) 1
    itself n = ap (λ (z : Bool). (let o : ℕ = if z then 1 else 0 in o)) (eq-eqb n n refl)

at_least_one : (n : ℕ) (es : List Trace) (i : ℕ) → told_at es i ≡ Some n → 1 ≤ times_in n es
at_least_one n [] i h = absurd cc
at_least_one n (e ∷ es) zero h = let o = once e n h in omega (arith, times-add n e es, o)
at_least_one n (e ∷ es) (suc i) h = let o = at_least_one n es i h in omega (arith, times-add n e es, o)

at_least_two : (n : ℕ) (es : List Trace) (i j : ℕ) → i < j → told_at es i ≡ Some n → told_at es j ≡ Some n → 2 ≤ times_in n es
at_least_two n [] i j l h k = absurd cc
at_least_two n (e ∷ es) i zero l h k = absurd (omega (arith, l))
at_least_two n (e ∷ es) zero (suc j) l h k = let o = once e n h in let p = at_least_one n es j k in omega (arith, times-add n e es, o, p)
at_least_two n (e ∷ es) (suc i) (suc j) l h k = let p = at_least_two n es i j (omega (arith, l)) h k in omega (arith, times-add n e es, p)

few : (m : Marks) (old now : Items) (n : ℕ) → Describes m old now → times_in n (list_of m.traces) ≤ below n m.behind
few m old now n d =
    let o = d.once n in
    let e = ap (times n) (traces_of-list_of m.traces) in
    let b = if-below n m.behind in
    omega (arith, o, e, b)

-- what is told of an item one by one, or behind those
record IsTold (m : Marks) (i n : ℕ) : Type 0 where
  is : ((i < length (list_of m.traces)) × (told_at (list_of m.traces) i ≡ Some n)) ⊎ ((length (list_of m.traces) ≤ i) × (m.behind + (i - length (list_of m.traces)) ≡ n))

is_told : (m : Marks) (i n : ℕ) → was m i ≡ Some n → IsTold m i n
is_told m i n h = by (cases_lt i (length (list_of m.traces)))
  where
    some : (k : ℕ) → ◌≡◌ {A = Option ℕ} (Some k) (Some n) → k ≡ n
    some k e = cc

    by : ((i < length (list_of m.traces)) ⊎ (length (list_of m.traces) ≤ i)) → IsTold m i n
    by (inl l) = record {
      is = inl (
        l,
        ap (λ (z : Bool). option_and_then number_of (if z then slice_get (list_of m.traces) i else Some (same_item (m.behind + (i - length (list_of m.traces))))))
            (sym (lt-ltb i (length (list_of m.traces)) l)) ∙ h,
      );
    }
    by (inr l) = record {
      is = inr (
        l,
        some (m.behind + (i - length (list_of m.traces)))
            (ap (λ (z : Bool). option_and_then number_of (if z then slice_get (list_of m.traces) i else Some (same_item (m.behind + (i - length (list_of m.traces))))))
            (sym (le-ltb i (length (list_of m.traces)) l)) ∙ h),
      );
    }

pub had_other_numbers : HadOtherNumbers
had_other_numbers m old now d i j n h k = by (is_told m i n h).is (is_told m j n k).is
  where
    es : List Trace
    es = list_of m.traces

    low : 1 ≤ times_in n es → n < m.behind
    low l = let f = few m old now n d in omega (arith, l, f)

    by : ((i < length es) × (told_at es i ≡ Some n)) ⊎ ((length es ≤ i) × (m.behind + (i - length es) ≡ n)) → ((j < length es) × (told_at es j ≡ Some n)) ⊎ ((length es ≤ j) × (m.behind + (j - length es) ≡ n)) → i ≡ j
    by (inl a) (inl b) = same (cases_lt i j) (cases_lt j i)
      where
        f : times_in n es ≤ below n m.behind
        f = few m old now n d

        same : ((i < j) ⊎ (j ≤ i)) → ((j < i) ⊎ (i ≤ j)) → i ≡ j
        same (inl l) y = let two = at_least_two n es i j l a.1 b.1 in absurd (omega (arith, two, f))
        same (inr l) (inl g) = let two = at_least_two n es j i g b.1 a.1 in absurd (omega (arith, two, f))
        same (inr l) (inr g) = omega (arith, l, g)
    by (inl a) (inr b) = let l = low (at_least_one n es i a.1) in let e = b.1 in absurd (omega (arith, l, e))
    by (inr a) (inl b) = let l = low (at_least_one n es j b.1) in let e = a.1 in absurd (omega (arith, l, e))
    by (inr a) (inr b) = let e = a.1 in let f = b.1 in let l = a.0 in let g = b.0 in omega (arith, e, f, l, g)
