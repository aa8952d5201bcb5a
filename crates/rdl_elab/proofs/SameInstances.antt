-- Addresses of instances are the same where their numbers and those of the bodies around them are.
use Rattle.std.proofs.Common.{◌≡◌, ℕ, List, [], ◌∷◌, ◌++◌, Bool, true, false, refl, ap, sym, ◌∙◌}
use Rattle.std.specs.Prelude.{◌&&◌, nat_eq}
use Rattle.std.proofs.Math.Bool.{and-false}
use Rattle.std.specs.Cmp.Lexicographic.{pointwise}

and-inner : (a b c : Bool) → a && (b && c) ≡ b && (a && c)
and-inner true b c = refl
and-inner false b c = sym (and-false b)

none-longer : (ys : List ℕ) (b : ℕ) → pointwise nat_eq [] (ys ++ b ∷ []) ≡ false
none-longer [] b = refl
none-longer (y ∷ ys) b = refl

longer-none : (xs : List ℕ) (a : ℕ) → pointwise nat_eq (xs ++ a ∷ []) [] ≡ false
longer-none [] a = refl
longer-none (x ∷ xs) a = refl

pub same-instance : (xs ys : List ℕ) (a b : ℕ) → pointwise nat_eq (xs ++ a ∷ []) (ys ++ b ∷ []) ≡ nat_eq a b && pointwise nat_eq xs ys
same-instance [] [] a b = refl
same-instance [] (y ∷ ys) a b = ap (λ t. nat_eq a y && t) (none-longer ys b) ∙ and-false (nat_eq a y) ∙ sym (and-false (nat_eq a b))
same-instance (x ∷ xs) [] a b = ap (λ t. nat_eq x b && t) (longer-none xs a) ∙ and-false (nat_eq x b) ∙ sym (and-false (nat_eq a b))
same-instance (x ∷ xs) (y ∷ ys) a b = ap (λ t. nat_eq x y && t) (same-instance xs ys a b) ∙ and-inner (nat_eq x y) (nat_eq a b) (pointwise nat_eq xs ys)
