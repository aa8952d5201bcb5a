-- How often a number stands among those of items.
use Rattle.std.proofs.Common.{◌≡◌, ℕ, zero, suc, ◌+◌, ◌-◌, min, List, [], ◌∷◌, ◌++◌, Some, refl, ap, sym, ◌∙◌, arith}
use Rattle.std.specs.Prelude.{◌==◌, if◌then◌else◌, nat_lt, insert, remove, slice_get, slice_set}
use Rattle.std.proofs.lemmas.Bool.Decides.{nat_tests}
use Rattle.rdl_marks.specs.Marks.{no_traces}
use Rattle.rdl_marks.specs.View.{Trace, new_item, old_item, run, add, traces_of}
use Rattle.rdl_marks.specs.Describes.{times, StandOnce}

-- how often it is that of the item
abbrev pub times_of : ℕ → Trace → ℕ
times_of n e = times n (add e no_traces)

abbrev pub times_in : ℕ → List Trace → ℕ
times_in n es = times n (traces_of es)

pub times-add : (n : ℕ) (e : Trace) (es : List Trace) → times_in n (e ∷ es) ≡ times_of n e + times_in n es
times-add n new_item es = omega arith
times-add n (old_item m f inside) es = omega arith

pub times-append : (n : ℕ) (es ds : List Trace) → times_in n (es ++ ds) ≡ times_in n es + times_in n ds
times-append n [] ds = omega arith
times-append n (e ∷ es) ds = omega (arith, times-add n e (es ++ ds), times-add n e es, times-append n es ds)

pub times-insert : (n : ℕ) (es : List Trace) (i : ℕ) (e : Trace) → times_in n (insert es i e) ≡ times_of n e + times_in n es
times-insert n es zero e = times-add n e es
times-insert n [] (suc i) e = times-add n e []
times-insert n (d ∷ es) (suc i) e = omega (arith, times-add n d (insert es i e), times-add n d es, times-insert n es i e)

pub times-remove : (n : ℕ) (es : List Trace) (i : ℕ) (e : Trace) → slice_get es i ≡ Some e → times_in n (remove es i) + times_of n e ≡ times_in n es
times-remove n [] i e h = cc
times-remove n (d ∷ es) zero e h =
    let same : d ≡ e = cc in
    let own : times_of n d ≡ times_of n e = ap (times_of n) same in omega (arith, times-add n d es, own)
times-remove n (d ∷ es) (suc i) e h = omega (arith, times-add n d (remove es i), times-add n d es, times-remove n es i e h)

pub times-set : (n : ℕ) (es : List Trace) (i : ℕ) (e d : Trace) → slice_get es i ≡ Some e → times_of n d ≡ times_of n e → times_in n (slice_set es i d) ≡ times_in n es
times-set n [] i e d h k = refl
times-set n (c ∷ es) zero e d h k =
    let same : c ≡ e = cc in
    let own : times_of n c ≡ times_of n e = ap (times_of n) same in omega (arith, times-add n c es, times-add n d es, own, k)
times-set n (c ∷ es) (suc i) e d h k = omega (arith, times-add n c (slice_set es i d), times-add n c es, times-set n es i e d h k)

-- ---- Numbers one after the other.

-- 1 for each number below the other
abbrev pub below : ℕ → ℕ → ℕ
below n k = min 1 (k - n)

pub if-below : (n k : ℕ) → (if nat_lt n k then 1 else 0) ≡ below n k
if-below n k = grind (arith, nat_tests)

pub if-same : (m n : ℕ) → (if m == n then 1 else 0) + below n m ≡ below n (m + 1)
if-same m n = grind (arith, nat_tests)

pub times-run : (n from count : ℕ) → times_in n (run from count) + below n from ≡ below n (from + count)
times-run n from zero = omega arith
times-run n from (suc count) = omega (arith, if-same from n, times-run n (from + 1) count)

pub none_once : StandOnce no_traces 0 no_traces
none_once = λ n. (let e : 0 + 0 ≡ below n 0 = omega arith in e ∙ sym (if-below n 0))
