-- A list by its first element.
use Rattle.std.proofs.Common.{◌≡◌, ℕ, ◌-◌, ◌≤◌, List, [], ◌∷◌, length, take, take_all, drop, ap, sym, arith, slice_index_or}

abbrev pub first : List ℕ → ℕ
first p = slice_index_or p 0 0

abbrev pub others : List ℕ → List ℕ
others p = take (length p - 1) (drop 1 p)

pub first_split : (p : List ℕ) → 1 ≤ length p → p ≡ first p ∷ others p
first_split [] h = absurd (omega arith)
first_split (i ∷ p) h = ap (λ q. i ∷ q) (sym (take_all (length (i ∷ p) - 1) p (omega arith)))
