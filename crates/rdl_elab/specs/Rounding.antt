-- The least multiple of two numbers at or above a number, and the least power of two.
-- SystemRDL 2.0, clause 13, addressing modes and alignment, speaks of both.
use Rattle.std.specs.Prelude.{◌≡◌, ℕ, zero, suc, ◌*◌, ◌%◌, ◌^◌, ◌<◌, ◌≤◌, true, false, ◌&&◌, nat_eq, nat_le}
use Rattle.std.specs.Int.{IsPowerOfTwo}

-- the first multiple of both among the f numbers from e on, else the number after these
abbrev pub first_multiple : ℕ → ℕ → ℕ → ℕ → ℕ
first_multiple zero e a b = e
first_multiple (suc f) e a b = elim (nat_eq (e % a) 0 && nat_eq (e % b) 0) [ true ↦ e | false ↦ first_multiple f (suc e) a b ]

-- the least number that is at least e and a multiple of a and of b, of which the product is one
abbrev pub next_multiple : ℕ → ℕ → ℕ → ℕ
next_multiple e a b = first_multiple (a * b) e a b

-- the first of p, 2p, 4p .. that is n or more, among the f first
abbrev pub first_power : ℕ → ℕ → ℕ → ℕ
first_power zero p n = p
first_power (suc f) p n = elim (nat_le n p) [ true ↦ p | false ↦ first_power f (2 * p) n ]

-- the least power of two that is n or more
abbrev pub power_up : ℕ → ℕ
power_up n = first_power n 1 n

-- n is the least number that is at least e and a multiple of a and of b
pub record IsNext (e a b n : ℕ) : Type 0 where
  pub above : e ≤ n
  pub first : n % a ≡ 0
  pub second : n % b ≡ 0
  pub least : (m : ℕ) → e ≤ m → m % a ≡ 0 → m % b ≡ 0 → n ≤ m

-- what each step towards the least common multiple of two numbers is: a multiple of the first, of which each common multiple is one
pub record IsStep (a b s : ℕ) : Type 0 where
  pub positive : 0 < s
  pub multiple : s % a ≡ 0
  pub common : (m : ℕ) → m % a ≡ 0 → m % b ≡ 0 → m % s ≡ 0

-- p is the least power of two that is n or more
pub record IsLeastPower (n p : ℕ) : Type 0 where
  pub power : IsPowerOfTwo p
  pub above : n ≤ p
  pub least : (k : ℕ) → n ≤ 2 ^ k → p ≤ 2 ^ k
