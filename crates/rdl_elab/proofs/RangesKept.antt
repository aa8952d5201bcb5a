-- Ranges of which no two overlap take one more, which overlaps none of them.
use Rattle.std.proofs.Common.{◌≡◌, ℕ, ◌<◌, ◌≤◌, List, [], ◌∷◌, ◌++◌, Bool, true, false, refl, ap, sym, subst, ◌∙◌, arith, ◌⊎◌, inl, inr, get_or, Some}
use Rattle.std.specs.Prelude.{◌||◌}
use Rattle.std.specs.declared.cmp.Ordering.TheVariants.{Less, Equal, Greater}
use Rattle.std.specs.declared.cmp.Ordering.{Ordering}
use Rattle.std.specs.Ordering.{nat_cmp, is_eq, MatchOrdering}
use Rattle.std.specs.BTreeMap.{BTreeMap, Updates}
use Rattle.std.proofs.lemmas.Bool.{cases_Bool, cases_eq, cases_lt, both_ways}
use Rattle.std.proofs.lemmas.Cmp.{ranked}
use Rattle.std.proofs.lemmas.List.Elements.{All-push}
use Rattle.std.proofs.lemmas.List.Folds.{list_any-append}
use Rattle.rdl_elab.specs.declared.layout.Span.{Span}
use Rattle.rdl_elab.specs.declared.rows.siblings.Sibling.{Sibling}
use Rattle.rdl_elab.specs.Faults.{overlap}
use Rattle.rdl_elab.specs.FinishedRows.{overlaps_before}
use Rattle.rdl_elab.specs.SiblingRanges.{HasRange, IsTaken, AreRanges}
use Rattle.rdl_elab.proofs.RangeSearches.{meets, same_end}

-- one more sibling
or-true : (x : Bool) → (x || true) ≡ true
or-true true = refl
or-true false = refl

still-taken : (before : List Sibling) (s : Sibling) (a : Span) → overlaps_before a before ≡ true → overlaps_before a (before ++ s ∷ []) ≡ true
still-taken before s a e =
    list_any-append (λ (b : Sibling). overlap a b.span) before (s ∷ [])
    ∙ ap (λ x. x || (overlap a s.span || false)) e

newly-taken : (before : List Sibling) (s : Sibling) (a : Span) → overlap a s.span ≡ true → overlaps_before a (before ++ s ∷ []) ≡ true
newly-taken before s a e =
    list_any-append (λ (b : Sibling). overlap a b.span) before (s ∷ [])
    ∙ ap (λ x. overlaps_before a before || (x || false)) e
    ∙ or-true (overlaps_before a before)

pub one-empty : (m : BTreeMap ℕ ℕ) (before : List Sibling) (s : Sibling) → AreRanges m before → s.span.end ≤ s.span.start → AreRanges m (before ++ s ∷ [])
one-empty m before s r h =
    record {
      all = All-push (λ (b : Sibling). b.span.start < b.span.end → HasRange m b.span.start b.span.end) before s r.all (λ lt. absurd (omega (arith, h, lt)));
      rising = r.rising;
      taken = λ start end has a x y z. still-taken before s a (r.taken start end has a x y z);
      apart = r.apart;
    }

-- what the ranges have after one more
apart_keys : (k q : ℕ) → (k ≡ q → ⊥) → is_eq (nat_cmp k q) ≡ false
apart_keys k q ne = by_answer (cases_Bool (is_eq (nat_cmp k q)))
  where
    not-equal : false ≡ true → ⊥
    not-equal e = cc

    by_rank : (o : Ordering) → is_eq o ≡ true → MatchOrdering o (k < q) (k ≡ q) (q < k) → k ≡ q
    by_rank Less e h = absurd (not-equal e)
    by_rank Equal e h = h
    by_rank Greater e h = absurd (not-equal e)

    by_answer : ((is_eq (nat_cmp k q) ≡ true) ⊎ (is_eq (nat_cmp k q) ≡ false)) → is_eq (nat_cmp k q) ≡ false
    by_answer (inl e) = absurd (ne (by_rank (nat_cmp k q) e (ranked k q (nat_cmp k q) refl)))
    by_answer (inr e) = e

-- what the ranges have was there before, or is the new one
was : (m n : BTreeMap ℕ ℕ) (a : Span) → Updates nat_cmp m n a.start (Some a.end) → (start end : ℕ) → HasRange n start end → ((start ≡ a.start) × (end ≡ a.end)) ⊎ (HasRange m start end)
was m n a u start end has = by_key (cases_eq a.start start)
  where
    by_key : ((a.start ≡ start) ⊎ (a.start ≡ start → ⊥)) → ((start ≡ a.start) × (end ≡ a.end)) ⊎ (HasRange m start end)
    by_key (inl e) = inl (sym e, same_end end a.end (sym has ∙ subst (λ q. HasRange n q a.end) e u.1))
    by_key (inr ne) = inr (sym (u.2 start (apart_keys a.start start ne)) ∙ has)

module _ (m n : BTreeMap ℕ ℕ) (before : List Sibling) (a : Span) (r : AreRanges m before) (none : overlaps_before a before ≡ false) (h : a.start < a.end) (u : Updates nat_cmp m n a.start (Some a.end)) where
  -- a range that was there lies before the new one, or behind it
  free : (start end : ℕ) → HasRange m start end → (end ≤ a.start) ⊎ (a.end ≤ start)
  free start end has = by_end (cases_lt a.start end) (cases_lt start a.end)
    where
      by_end : ((a.start < end) ⊎ (end ≤ a.start)) → ((start < a.end) ⊎ (a.end ≤ start)) → (end ≤ a.start) ⊎ (a.end ≤ start)
      by_end (inr ge) other = inl ge
      by_end (inl lt) (inr ge) = inr ge
      by_end (inl lt) (inl low) = absurd (both_ways (overlaps_before a before) none (r.taken start end has a h lt low))

  other_start : (start end : ℕ) → HasRange m start end → a.start ≡ start → ⊥
  other_start start end has e = by_side (free start end has)
    where
      by_side : ((end ≤ a.start) ⊎ (a.end ≤ start)) → ⊥
      by_side (inl x) = omega (arith, x, e, r.rising start end has)
      by_side (inr x) = omega (arith, x, e, h)

  stays : (start end : ℕ) → HasRange m start end → HasRange n start end
  stays start end has = u.2 start (apart_keys a.start start (other_start start end has)) ∙ has

  rises : (start end : ℕ) → HasRange n start end → start < end
  rises start end has = by_case (was m n a u start end has)
    where
      by_case : (((start ≡ a.start) × (end ≡ a.end)) ⊎ (HasRange m start end)) → start < end
      by_case (inl e) = omega (arith, h, e.0, e.1)
      by_case (inr old) = r.rising start end old

  separate : (start end later last : ℕ) → HasRange n start end → HasRange n later last → start < later → end ≤ later
  separate start end later last has next lt = by_case (was m n a u start end has) (was m n a u later last next)
    where
      before_old : (start ≡ a.start) × (end ≡ a.end) → HasRange m later last → ((last ≤ a.start) ⊎ (a.end ≤ later)) → end ≤ later
      before_old e old (inl x) = absurd (omega (arith, x, e.0, lt, r.rising later last old))
      before_old e old (inr x) = omega (arith, x, e.1)

      before_new : HasRange m start end → (later ≡ a.start) × (last ≡ a.end) → ((end ≤ a.start) ⊎ (a.end ≤ start)) → end ≤ later
      before_new old e (inl x) = omega (arith, x, e.0)
      before_new old e (inr x) = absurd (omega (arith, x, e.0, lt, h))

      by_case : (((start ≡ a.start) × (end ≡ a.end)) ⊎ (HasRange m start end)) → (((later ≡ a.start) × (last ≡ a.end)) ⊎ (HasRange m later last)) → end ≤ later
      by_case (inl e) (inl f) = absurd (omega (arith, e.0, f.0, lt))
      by_case (inl e) (inr old) = before_old e old (free later last old)
      by_case (inr old) (inl e) = before_new old e (free start end old)
      by_case (inr old) (inr also) = r.apart start end later last old also lt

  takes : (s : Sibling) → s.span ≡ a → (start end : ℕ) → HasRange n start end → IsTaken (before ++ s ∷ []) start end
  takes s own start end has = by_case (was m n a u start end has)
    where
      by_case : (((start ≡ a.start) × (end ≡ a.end)) ⊎ (HasRange m start end)) → IsTaken (before ++ s ∷ []) start end
      by_case (inl e) = λ b x y z. newly-taken before s b (subst (λ t. overlap b t ≡ true) (sym own) (meets b a x h (omega (arith, y, e.1)) (omega (arith, z, e.0))))
      by_case (inr old) = λ b x y z. still-taken before s b (r.taken start end old b x y z)

  pub one-more : (s : Sibling) → s.span ≡ a → AreRanges n (before ++ s ∷ [])
  one-more s own =
      record {
        all =
            All-push (λ (b : Sibling). b.span.start < b.span.end → HasRange n b.span.start b.span.end) before s
            (λ k d lt full. stays (get_or before k d).span.start (get_or before k d).span.end (r.all k d lt full))
            (λ full. subst (λ t. HasRange n t.start t.end) (sym own) u.1);
        rising = rises;
        taken = takes s own;
        apart = separate;
      }
