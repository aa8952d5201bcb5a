-- Among ranges of which no two overlap, the last that begins before a span's end is the one that overlaps it, if one does.
use Rattle.std.proofs.Common.{◌≡◌, ℕ, ◌<◌, ◌≤◌, List, true, false, ap, sym, ◌∙◌, arith, ◌⊎◌, inl, inr, get_or, Some, None}
use Rattle.std.specs.Prelude.{nat_lt}
use Rattle.std.specs.declared.cmp.Ordering.TheVariants.{Less}
use Rattle.std.specs.Ordering.{nat_cmp, is_lt}
use Rattle.std.specs.Cmp.{nat_cmp_is}
use Rattle.std.specs.BTreeMap.{BTreeMap, get}
use Rattle.std.proofs.lemmas.Bool.{cases_Bool, cases_lt, both_ways, lt-ltb, le-ltb}
use Rattle.std.proofs.lemmas.List.Folds.{list_any_none}
use Rattle.rdl_elab.specs.declared.layout.Span.{Span}
use Rattle.rdl_elab.specs.declared.rows.siblings.Sibling.{Sibling}
use Rattle.rdl_elab.specs.Faults.{overlap, SharesANumber}
use Rattle.rdl_elab.specs.FinishedRows.{overlaps_before}
use Rattle.rdl_elab.specs.SiblingRanges.{HasRange, AreRanges}
use Rattle.rdl_elab.proofs.Overlaps.{overlap-shares, shares-overlap}

-- spans
misses : (a b : Span) → (SharesANumber a b → ⊥) → overlap a b ≡ false
misses a b none = by_answer (cases_Bool (overlap a b))
  where
    by_answer : ((overlap a b ≡ true) ⊎ (overlap a b ≡ false)) → overlap a b ≡ false
    by_answer (inl e) = absurd (none (overlap-shares a b e))
    by_answer (inr e) = e

pub meets : (a b : Span) → a.start < a.end → b.start < b.end → a.start < b.end → b.start < a.end → overlap a b ≡ true
meets a b h g k l = shares-overlap a b (by_order (cases_lt a.start b.start))
  where
    by_order : ((a.start < b.start) ⊎ (b.start ≤ a.start)) → SharesANumber a b
    by_order (inl m) = record { number = b.start; after_first = omega arith; in_first = l; after_second = omega arith; in_second = g }
    by_order (inr m) = record { number = a.start; after_first = omega arith; in_first = h; after_second = m; in_second = k }

pub empty-overlap : (a : Span) (before : List Sibling) → a.end ≤ a.start → overlaps_before a before ≡ false
empty-overlap a before h =
    list_any_none (λ (b : Sibling). overlap a b.span) before
    (λ k d lt. misses a (get_or before k d).span (λ s. omega (arith, h, s.after_first, s.in_first)))

-- the order of numbers
pub less : (x y : ℕ) → x < y → nat_cmp x y ≡ Less
less x y h = sym (nat_cmp_is x y Less h)

pub not-less : (x y : ℕ) → is_lt (nat_cmp x y) ≡ false → y ≤ x
not-less x y e = by_order (cases_lt x y)
  where
    by_order : ((x < y) ⊎ (y ≤ x)) → y ≤ x
    by_order (inl h) = absurd (both_ways (is_lt (nat_cmp x y)) e (ap is_lt (less x y h)))
    by_order (inr h) = h

-- searches
pub same_end : (v w : ℕ) → Some v ≡ Some w → v ≡ w
same_end v w e = cc

pub found : (m : BTreeMap ℕ ℕ) (before : List Sibling) (a : Span) (k v : ℕ) → AreRanges m before → a.start < a.end → k < a.end → HasRange m k v → ((q w : ℕ) → HasRange m q w → q < a.end → q ≤ k) → nat_lt a.start v ≡ overlaps_before a before
found m before a k v r h low has last = by_end (cases_lt a.start v)
  where
    clear : v ≤ a.start → (b : Sibling) → SharesANumber a b.span → HasRange m b.span.start b.span.end → ((b.span.start < k) ⊎ (k ≤ b.span.start)) → ⊥
    clear ge b s own (inl lt) = omega (arith, ge, s.after_first, s.in_second, r.apart b.span.start b.span.end k v own has lt, r.rising k v has)
    clear ge b s own (inr le) =
        let same : b.span.start ≡ k = omega (arith, le, last b.span.start b.span.end own (omega (arith, s.after_second, s.in_first))) in
        let end : b.span.end ≡ v = same_end b.span.end v (sym own ∙ ap (λ q. get nat_cmp m q) same ∙ has) in
        omega (arith, ge, end, s.after_first, s.in_second)

    by_end : ((a.start < v) ⊎ (v ≤ a.start)) → nat_lt a.start v ≡ overlaps_before a before
    by_end (inl lt) = lt-ltb a.start v lt ∙ sym (r.taken k v has a h lt low)
    by_end (inr ge) =
        le-ltb a.start v ge
        ∙ sym (list_any_none (λ (b : Sibling). overlap a b.span) before
        (λ i d lt. misses a (get_or before i d).span
        (λ s. clear ge (get_or before i d) s (r.all i d lt (omega (arith, s.after_second, s.in_second))) (cases_lt (get_or before i d).span.start k))))

pub none-found : (m : BTreeMap ℕ ℕ) (before : List Sibling) (a : Span) → AreRanges m before → ((q : ℕ) → q < a.end → get nat_cmp m q ≡ None) → overlaps_before a before ≡ false
none-found m before a r none =
    list_any_none (λ (b : Sibling). overlap a b.span) before
    (λ k d lt. misses a (get_or before k d).span (λ s. absent (get_or before k d) s (r.all k d lt)))
  where
    other : (v : ℕ) → None ≡ Some v → ⊥
    other v e = cc

    absent : (b : Sibling) → SharesANumber a b.span → (b.span.start < b.span.end → HasRange m b.span.start b.span.end) → ⊥
    absent b s has = other b.span.end (sym (none b.span.start (omega (arith, s.after_second, s.in_first))) ∙ has (omega (arith, s.after_second, s.in_second)))
