-- Marks of which those differ that have a place with another, all differ.
use Rattle.std.proofs.Common.{Less, Equal, Greater, ◌≡◌, ◌≢◌, ◌<◌, ◌≤◌, ◌+◌, ◌%◌, ℕ, Bool, true, false, List, [], ◌∷◌, length, refl, ap, subst, sym, ◌∙◌, arith}
use Rattle.std.proofs.lemmas.Bool.Decides.{nat_tests}
use Rattle.std.proofs.lemmas.Grind.{get_or-set_at}
use Rattle.std.proofs.lemmas.List.{length-set, length-replicate, get_or-set_other}
use Rattle.std.proofs.lemmas.List.Sums.{sum_by-cons}
use Rattle.std.specs.List.{AllByRecursion, IsDistinct, count_by, filter, fold}
use Rattle.std.specs.Ordering.{is_eq, nat_cmp, eq_by_cmp}
use Rattle.std.specs.Prelude.{◌==◌, min, nat_lt, cond, replicate, slice_index}
use Rattle.rdl_header.specs.Places.{AreApart, more, with_mark, counts_of, is_shared}

abbrev same : ℕ → ℕ → Bool
same = eq_by_cmp nat_cmp

equal_by : (a b : Bool) → is_eq (cond a Less (cond b Equal Greater)) ≡ true → b ≡ true
equal_by true b h = cc
equal_by false true h = refl
equal_by false false h = cc

equal : (x y : ℕ) → (x == y) ≡ true → x ≡ y
equal x y h = grind (arith, nat_tests)

unequal : (x y : ℕ) → (x == y) ≡ false → y ≢ x
unequal x y h = grind (arith, nat_tests)

itself : (x : ℕ) → (x == x) ≡ true
itself x = grind (arith, nat_tests)

same_is : (x y : ℕ) → same x y ≡ true → x ≡ y
same_is x y h = equal x y (equal_by (nat_lt x y) (x == y) h)

-- the mark has this place
abbrev has_place : (places k : ℕ) → ℕ → Bool
has_place places k mark = (mark % places) == k

count-cons : (q : ℕ → Bool) (x : ℕ) (xs : List ℕ) → count_by q (x ∷ xs) ≡ cond (q x) 1 0 + count_by q xs
count-cons q x xs = sum_by-cons (λ y. cond (q y) 1 0) x xs

-- each place counts the marks that have it
abbrev Counts : (places : ℕ) (counts marks : List ℕ) → Type 0
Counts places counts marks = (k : ℕ) → k < places → min (count_by (has_place places k) marks) 2 ≤ slice_index counts k

more_than : (x : ℕ) → min (x + 1) 2 ≤ more x
more_than x = grind (arith, nat_tests)

one_by : (places k mark : ℕ) (counts : List ℕ) (c : ℕ) (d : Bool) → has_place places k mark ≡ d → k < places → length counts ≡ places
    → min (slice_index counts k + (cond d 1 0 + c)) 2 ≤ min (slice_index (with_mark places counts mark) k + c) 2
one_by places k mark counts c true e h l =
    let q : mark % places ≡ k = equal (mark % places) k e in
    let inside : mark % places < length counts = omega arith in
    let there : slice_index (with_mark places counts mark) k ≡ more (slice_index counts k) =
    get_or-set_at counts (mark % places) k (more (slice_index counts (mark % places))) 0 (sym q) inside ∙ ap (λ i. more (slice_index counts i)) q in
    let m = more_than (slice_index counts k) in
    omega arith
one_by places k mark counts c false e h l =
    let there : slice_index (with_mark places counts mark) k ≡ slice_index counts k =
    get_or-set_other counts (mark % places) k (more (slice_index counts (mark % places))) 0 (unequal (mark % places) k e) in
    omega arith

counted : (places : ℕ) (marks counts : List ℕ) (k : ℕ) → k < places → length counts ≡ places → min (slice_index counts k + count_by (has_place places k) marks) 2 ≤ slice_index (fold (with_mark places) counts marks) k
counted places [] counts k h l = omega arith
counted places (mark ∷ marks) counts k h l =
    let more_of : ℕ = more (slice_index counts (mark % places)) in
    let len : length (with_mark places counts mark) ≡ places = length-set counts (mark % places) more_of ∙ l in
    let rest = counted places marks (with_mark places counts mark) k h len in
    let one = one_by places k mark counts (count_by (has_place places k) marks) (has_place places k mark) refl h l in
    let all = count-cons (has_place places k) mark marks in
    omega arith

-- what has this test, and what hasn't
no_same_by : (x y : ℕ) (q : ℕ → Bool) (d : Bool) → same x y ≡ d → q x ≡ true → q y ≡ false → d ≡ false
no_same_by x y q false e a b = refl
no_same_by x y q true e a b = let one : q x ≡ q y = ap q (same_is x y e) in cc

no_same : (x : ℕ) (q : ℕ → Bool) → q x ≡ true → (y : ℕ) → q y ≡ false → same x y ≡ false
no_same x q a y b = no_same_by x y q (same x y) refl a b

-- no mark of these is this one
abbrev IsNone : ℕ → List ℕ → Type 0
IsNone x xs = AllByRecursion (λ y. same x y ≡ false) xs

filter_by : (s : ℕ → Bool) (x y : ℕ) (ys : List ℕ) (d : Bool) → s y ≡ d → s x ≡ true → (IsNone x (filter s ys) → IsNone x ys) → IsNone x (cond d (y ∷ filter s ys) (filter s ys)) → IsNone x (y ∷ ys)
filter_by s x y ys true e a ih h = (h.0, ih h.1)
filter_by s x y ys false e a ih h = (no_same x s a y e, ih h)

-- those that don't pass its test aren't it
all_from_filter : (s : ℕ → Bool) (x : ℕ) (xs : List ℕ) → s x ≡ true → IsNone x (filter s xs) → IsNone x xs
all_from_filter s x [] a h = tt
all_from_filter s x (y ∷ ys) a h = filter_by s x y ys (s y) refl a (all_from_filter s x ys a) h

zero_by : (q : ℕ → Bool) (x y c : ℕ) (ys : List ℕ) (d : Bool) → q y ≡ d → q x ≡ true → (c ≡ 0 → IsNone x ys) → cond d 1 0 + c ≡ 0 → IsNone x (y ∷ ys)
zero_by q x y c ys true e a ih h = absurd (omega arith)
zero_by q x y c ys false e a ih h = (no_same x q a y e, ih (omega arith))

none_if_zero : (q : ℕ → Bool) (x : ℕ) (xs : List ℕ) → q x ≡ true → count_by q xs ≡ 0 → IsNone x xs
none_if_zero q x [] a h = tt
none_if_zero q x (y ∷ ys) a h = zero_by q x y (count_by q ys) ys (q y) refl a (none_if_zero q x ys a) (sym (count-cons q y ys) ∙ h)

at_most_one : (n : ℕ) → nat_lt 1 n ≡ false → n ≤ 1
at_most_one n h = grind (arith, nat_tests)

one_less : (places : ℕ) (counts marks : List ℕ) (x : ℕ) → Counts places counts (x ∷ marks) → Counts places counts marks
one_less places counts marks x all k h = let one = all k h in let more_of = count-cons (has_place places k) x marks in omega arith

-- a mark whose place no other has
alone : (places : ℕ) (counts marks : List ℕ) (x : ℕ) → x % places < places → Counts places counts (x ∷ marks) → nat_lt 1 (slice_index counts (x % places)) ≡ false → IsNone x marks
alone places counts marks x h all e =
    let k : ℕ = x % places in
    let here : has_place places k x ≡ true = itself k in
    let few : slice_index counts k ≤ 1 = at_most_one (slice_index counts k) e in
    let c : ℕ = count_by (has_place places k) marks in
    let first : count_by (has_place places k) (x ∷ marks) ≡ 1 + c = count-cons (has_place places k) x marks ∙ ap (λ (b : Bool). cond b 1 0 + c) here in
    let one = all k h in
    let zero : c ≡ 0 = omega arith in
    none_if_zero (has_place places k) x marks here zero

-- more marks have the place of this one
abbrev shares : (places : ℕ) (counts : List ℕ) → ℕ → Bool
shares places counts m = nat_lt 1 (slice_index counts (m % places))

apart_by : (places : ℕ) (counts marks : List ℕ) (x : ℕ) (d : Bool) → shares places counts x ≡ d → x % places < places → Counts places counts (x ∷ marks)
    → (IsDistinct same (filter (shares places counts) marks) → IsDistinct same marks) → IsDistinct same (cond d (x ∷ filter (shares places counts) marks) (filter (shares places counts) marks)) → IsNone x marks × IsDistinct same marks
unfolding IsDistinct
apart_by places counts marks x true e h all ih shared = (all_from_filter (shares places counts) x marks e shared.0, ih shared.1)
apart_by places counts marks x false e h all ih shared = (alone places counts marks x h all e, ih shared)

apart : (places : ℕ) (counts marks : List ℕ) → 0 < places → Counts places counts marks → IsDistinct same (filter (shares places counts) marks) → IsDistinct same marks
unfolding IsDistinct
apart places counts [] h all shared = tt
apart places counts (x ∷ xs) h all shared =
    let rest = one_less places counts xs x all in
    let inside : x % places < places = omega arith in
    apart_by places counts xs x (shares places counts x) refl inside all (apart places counts xs h rest) shared

pub apart_if_shared_are : (places : ℕ) (counts marks : List ℕ) → 0 < places → length counts ≡ places → counts ≡ counts_of places marks → AreApart (filter (is_shared counts) marks) → AreApart marks
apart_if_shared_are places counts marks h l is shared =
    let all : Counts places counts marks =
    λ k inside. let one = counted places marks (replicate places 0) k inside (length-replicate places 0) in let same_counts : slice_index counts k ≡ slice_index (counts_of places marks) k = ap (λ t. slice_index t k) is in omega arith in
    apart (length counts) counts marks (omega arith) (subst (λ n. Counts n counts marks) (sym l) all) shared

-- the same of what is found of a list
pub apart_if_found_are : (places : ℕ) (counts marks shared table : List ℕ) → 0 < places → length counts ≡ places → counts ≡ counts_of places marks → table ≡ counts → shared ≡ filter (is_shared table) marks → AreApart shared → AreApart marks
apart_if_found_are places counts marks shared table h l is same_table found all =
    apart_if_shared_are places counts marks h l is (subst AreApart (found ∙ ap (λ t. filter (is_shared t) marks) same_table) all)
