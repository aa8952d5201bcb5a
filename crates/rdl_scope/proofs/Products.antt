-- A product that stops at the greatest number.
use Rattle.std.proofs.Common.{◌≡◌, ℕ, zero, suc, ◌+◌, ◌*◌, ◌^◌, ◌-◌, ◌<◌, ◌≤◌, inl, inr, List, ◌∷◌, length, drop, get_or, ap, ◌∙◌, sym, arith, add-one, drop-cons}
use Rattle.std.specs.Prelude.{min}
use Rattle.std.proofs.lemmas.List.{drop_all}
use Rattle.std.proofs.lemmas.Bool.{cases_lt}
use Rattle.std.proofs.Math.Nat.{mul_assoc}
use Rattle.rdl_scope.specs.ItemFaults.{product}

abbrev cap : ℕ → ℕ
cap n = min n (2 ^ 128 - 1)

small-mul : (a r : ℕ) → a < 2 ^ 128 → cap (cap a * r) ≡ cap (a * r)
small-mul a r h = let e : cap a ≡ a = omega arith in ap (λ n. cap (n * r)) e

large-mul : (a r : ℕ) → 2 ^ 128 ≤ a → cap (cap a * r) ≡ cap (a * r)
large-mul a zero h = let z : cap a * 0 ≡ a * 0 = omega arith in ap cap z
large-mul a (suc r) h = let e : cap a ≡ 2 ^ 128 - 1 = omega arith in ap (λ n. cap (n * suc r)) e ∙ omega arith

cap-mul : (a r : ℕ) → cap (cap a * r) ≡ cap (a * r)
cap-mul a r = elim (cases_lt a (2 ^ 128)) [ inl h ↦ small-mul a r h | inr h ↦ large-mul a r h ]

pub product-next : (i : ℕ) (xs : List ℕ) (e : ℕ) → i < length xs → cap (e * product (drop i xs)) ≡ cap (cap (e * get_or xs i 0) * product (drop (i + 1) xs))
product-next i xs e h =
    let one : drop i xs ≡ get_or xs i 0 ∷ drop (i + 1) xs = rw add-one (drop-cons xs i 0 h) in
    ap (λ ys. cap (e * product ys)) one ∙ ap cap (sym (mul_assoc e (get_or xs i 0) (product (drop (i + 1) xs)))) ∙ sym (cap-mul (e * get_or xs i 0) (product (drop (i + 1) xs)))

pub product-none : (i : ℕ) (xs : List ℕ) → length xs ≤ i → product (drop i xs) ≡ 1
product-none i xs h = ap product (drop_all i xs h)

pub ruleset steps = (product-next, product-none)
