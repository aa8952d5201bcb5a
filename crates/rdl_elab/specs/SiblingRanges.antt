-- The spans of earlier siblings as ordered ranges, from each start to its end, so that a search needn't go through them all.
-- own: how the siblings are kept. Which of them overlap `FinishedRows` says.
use Rattle.std.specs.Prelude.{◌≡◌, ℕ, ◌<◌, ◌≤◌, true, false, List, All, length, get_or, take, Option, Some, IfSome}
use Rattle.std.specs.Ordering.{nat_cmp}
use Rattle.std.specs.BTreeMap.{BTreeMap, get}
use Rattle.rdl_elab.specs.declared.layout.Span.{Span}
use Rattle.rdl_elab.specs.declared.rows.siblings.Sibling.{Sibling}
use Rattle.rdl_elab.specs.FinishedRows.{overlaps_before}

-- the ranges have from this number to that one
abbrev pub HasRange : BTreeMap ℕ ℕ → ℕ → ℕ → Type 0
HasRange ranges start end = get nat_cmp ranges start ≡ Some end

-- what has a number of this range overlaps one of the siblings
abbrev pub IsTaken : List Sibling → ℕ → ℕ → Type 0
IsTaken before start end = (a : Span) → a.start < a.end → a.start < end → start < a.end → overlaps_before a before ≡ true

-- the ranges are the siblings' spans but the empty ones, and no two of them have a number in common
pub record AreRanges (ranges : BTreeMap ℕ ℕ) (before : List Sibling) : Type 0 where
  pub all : All (λ (b : Sibling). b.span.start < b.span.end → HasRange ranges b.span.start b.span.end) before
  pub rising : (start end : ℕ) → HasRange ranges start end → start < end
  pub taken : (start end : ℕ) → HasRange ranges start end → IsTaken before start end
  pub apart : (start end later last : ℕ) → HasRange ranges start end → HasRange ranges later last → start < later → end ≤ later

-- no two of the siblings overlap
abbrev pub AreApart : List Sibling → Type 0
AreApart siblings = (i : ℕ) (d : Sibling) → i < length siblings → overlaps_before (get_or siblings i d).span (take i siblings) ≡ false

-- the ranges are kept only until two siblings overlap
abbrev pub AreRangesIfKept : Option (BTreeMap ℕ ℕ) → List Sibling → Type 0
AreRangesIfKept kept before = IfSome kept (λ ranges. AreRanges ranges before)
