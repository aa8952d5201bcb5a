-- Two lists that are equal, each with its last element behind the rest.
use Rattle.std.proofs.Common.{◌≡◌, ℕ, List, [], ◌∷◌, ◌++◌, arith}

pub same_last : (p q : List ℕ) (a b : ℕ) → p ++ a ∷ [] ≡ q ++ b ∷ [] → a ≡ b
same_last [] [] a b e = grind arith
same_last [] (y ∷ []) a b e = grind arith
same_last [] (y ∷ z ∷ q) a b e = grind arith
same_last (x ∷ []) [] a b e = grind arith
same_last (x ∷ w ∷ p) [] a b e = grind arith
same_last (x ∷ p) (y ∷ q) a b e = grind (arith, same_last p q a b)

pub same_front : (p q : List ℕ) (a b : ℕ) → p ++ a ∷ [] ≡ q ++ b ∷ [] → p ≡ q
same_front [] [] a b e = grind arith
same_front [] (y ∷ []) a b e = grind arith
same_front [] (y ∷ z ∷ q) a b e = grind arith
same_front (x ∷ []) [] a b e = grind arith
same_front (x ∷ w ∷ p) [] a b e = grind arith
same_front (x ∷ p) (y ∷ q) a b e = grind (arith, same_front p q a b)
