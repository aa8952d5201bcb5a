-- Places of marks, of which there are more than marks: marks that are the same have the same place. Own.
use Rattle.std.specs.Prelude.{ℕ, ◌+◌, ◌%◌, nat_lt, Bool, List, length, replicate, slice_index, slice_set, if◌then◌else◌}
use Rattle.std.specs.List.{IsDistinct, fold}
use Rattle.std.specs.Ordering.{nat_cmp, eq_by_cmp}

-- the marks differ from each other
abbrev pub AreApart : List ℕ → Type 0
AreApart marks = IsDistinct (eq_by_cmp nat_cmp) marks

-- one more, where two stands for any more
abbrev pub more : ℕ → ℕ
more count = if nat_lt count 2 then count + 1 else count

-- how many marks have each of so many places, with one mark more
abbrev pub with_mark : (places : ℕ) → List ℕ → ℕ → List ℕ
with_mark places counts mark = slice_set counts (mark % places) (more (slice_index counts (mark % places)))

abbrev pub counts_of : (places : ℕ) → List ℕ → List ℕ
counts_of places marks = fold (with_mark places) (replicate places 0) marks

-- more than one mark has the place of this one
abbrev pub is_shared : (counts : List ℕ) → ℕ → Bool
is_shared counts mark = nat_lt 1 (slice_index counts (mark % length counts))
