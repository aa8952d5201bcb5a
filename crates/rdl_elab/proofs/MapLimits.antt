-- The limits of a map, by what is kept of its top.
use Rattle.std.proofs.Common.{◌≡◌, ℕ, ◌+◌, ◌^◌, ◌≤◌, ◌<◌, Bool, true, false, List, [], ◌∷◌, Option, Some, None, refl, ap, sym, ◌∙◌, arith, ◌⊎◌, inl, inr}
use Rattle.std.specs.Prelude.{min, nat_lt, option_and_then}
use Rattle.std.specs.Option.{option_or}
use Rattle.std.proofs.lemmas.Bool.{cases_lt, lt-ltb, le-ltb, ltb-false}
use Rattle.rdl_tree.specs.Items.{Items}
use Rattle.rdl_tree.specs.declared.fault.Fault.{Fault}
use Rattle.rdl_tree.specs.declared.fault.FaultKind.{FaultKind}
use Rattle.rdl_tree.specs.declared.fault.FaultKind.TheVariants.{TooManyLevels, TooManyRows, EmptyComponent, MapTooLarge}
use Rattle.rdl_scope.specs.ItemFaults.{first_of, fault_at}
use Rattle.rdl_scope.specs.Closed.{Made}
use Rattle.rdl_elab.specs.declared.layout.Mode.TheVariants.{Regalign}
use Rattle.rdl_elab.specs.declared.layout.Layout.{Layout}
use Rattle.rdl_elab.specs.declared.walk.finished.Finished.{Finished}
use Rattle.rdl_elab.specs.Capped.{capped}
use Rattle.rdl_elab.specs.Rows.{top_layout}
use Rattle.rdl_elab.specs.Faults.{levels, count, first_empty}
use Rattle.rdl_elab.specs.FinishedRows.{finished_map_fault}
use Rattle.rdl_elab.specs.Finished.{IsKept}
use Rattle.rdl_elab.proofs.SameRows.{some-none}

limit-same : (limit n cut : ℕ) → limit < cut → nat_lt limit (min n cut) ≡ nat_lt limit n
limit-same limit n cut h = by_order (cases_lt limit n)
  where
    by_order : ((limit < n) ⊎ (n ≤ limit)) → nat_lt limit (min n cut) ≡ nat_lt limit n
    by_order (inl l) = lt-ltb limit (min n cut) (omega (arith, l, h)) ∙ sym (lt-ltb limit n l)
    by_order (inr g) = le-ltb limit (min n cut) (omega (arith, g, h)) ∙ sym (le-ltb limit n g)

next-same : (limit n : ℕ) → nat_lt limit (min n limit + 1) ≡ nat_lt limit (n + 1)
next-same limit n = by_order (cases_lt limit (n + 1))
  where
    by_order : ((limit < n + 1) ⊎ (n + 1 ≤ limit)) → nat_lt limit (min n limit + 1) ≡ nat_lt limit (n + 1)
    by_order (inl l) = lt-ltb limit (min n limit + 1) (omega (arith, l)) ∙ sym (lt-ltb limit (n + 1) l)
    by_order (inr g) = le-ltb limit (min n limit + 1) (omega (arith, g)) ∙ sym (le-ltb limit (n + 1) g)

pub or-first : (a b : Option Fault) → option_or a b ≡ None → a ≡ None
or-first None b h = refl
or-first (Some f) b h = absurd (some-none h)

pub or-second : (a b : Option Fault) → option_or a b ≡ None → b ≡ None
or-second None b h = h
or-second (Some f) b h = absurd (some-none h)

pub none-at : (at : List ℕ) (o : Option FaultKind) → fault_at at o ≡ None → o ≡ None
none-at at None h = refl
none-at at (Some f) h = absurd (some-none h)

none-first : (t : Bool) (k : FaultKind) (ks : List (Bool × FaultKind)) → first_of ((t, k) ∷ ks) ≡ None → t ≡ false
none-first true k ks h = absurd (some-none h)
none-first false k ks h = refl

-- too many levels or rows, an empty component, too large a map
abbrev pub of_levels : ℕ → Made → Option Fault
of_levels n c = fault_at (n ∷ []) (first_of ((nat_lt 16 (levels c.parts + 1), TooManyLevels) ∷ (nat_lt 65536 (count c.parts + 1), TooManyRows) ∷ []))

abbrev pub of_empty : Made → Option Fault
of_empty c = option_and_then (λ a. fault_at a (Some EmptyComponent)) (first_empty c.parts)

abbrev pub of_size : ℕ → Made → Option Fault
of_size n c = fault_at (n ∷ []) (first_of ((nat_lt (2 ^ 40) (top_layout c).size, MapTooLarge) ∷ []))

abbrev pub limits : ℕ → Made → Option Fault
limits n c = option_or (of_levels n c) (option_or (of_empty c) (of_size n c))

module _ (n : ℕ) (c : Made) where
  module _ (clear : limits n c ≡ None) where
    pub few-levels : levels c.parts ≤ 16
    few-levels =
        omega (
          arith,
          ltb-false 16 (levels c.parts + 1)
              (none-first (nat_lt 16 (levels c.parts + 1)) TooManyLevels ((nat_lt 65536 (count c.parts + 1), TooManyRows) ∷ []) (none-at (n ∷ []) _ (or-first (of_levels n c) _ clear))),
        )

    pub small : (top_layout c).size ≤ 2 ^ 40
    small = ltb-false (2 ^ 40) (top_layout c).size (none-first (nat_lt (2 ^ 40) (top_layout c).size) MapTooLarge [] (none-at (n ∷ []) _ (or-second (of_empty c) (of_size n c) (or-second (of_levels n c) _ clear))))

  module _ (d : Items) (f : Finished) (kept : IsKept d f c) where
    size-is : f.layouts.regalign.size ≡ capped (top_layout c).size
    size-is = ap (λ (x : Layout). x.size) (kept.layouts Regalign)

    levels-is : nat_lt 16 (f.levels + 1) ≡ nat_lt 16 (levels c.parts + 1)
    levels-is = ap (λ x. nat_lt 16 (x + 1)) kept.levels ∙ next-same 16 (levels c.parts)

    rows-is : nat_lt 65536 (f.rows + 1) ≡ nat_lt 65536 (count c.parts + 1)
    rows-is = ap (λ x. nat_lt 65536 (x + 1)) kept.rows ∙ next-same 65536 (count c.parts)

    large-is : nat_lt (2 ^ 40) f.layouts.regalign.size ≡ nat_lt (2 ^ 40) (top_layout c).size
    large-is = ap (nat_lt (2 ^ 40)) size-is ∙ limit-same (2 ^ 40) (top_layout c).size (2 ^ 40 + 1) (omega arith)

    pub limits-kept : finished_map_fault (n ∷ []) f ≡ limits n c
    limits-kept = λ i.
        option_or (fault_at (n ∷ []) (first_of ((levels-is i, TooManyLevels) ∷ (rows-is i, TooManyRows) ∷ [])))
        (option_or (option_and_then (λ a. fault_at a (Some EmptyComponent)) (kept.first_empty i))
        (fault_at (n ∷ []) (first_of ((large-is i, MapTooLarge) ∷ []))))

    pub size-exact : limits n c ≡ None → f.layouts.regalign.size ≡ (top_layout c).size
    size-exact clear = size-is ∙ exactly (top_layout c).size (small clear)
      where
        exactly : (x : ℕ) → x ≤ 2 ^ 40 → capped x ≡ x
        exactly x h = omega (arith, h)
