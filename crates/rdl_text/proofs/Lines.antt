-- The bytes up to the end of a line.
use Rattle.std.proofs.Common.{◌≡◌, ℕ, zero, suc, ◌+◌, ◌<◌, Bool, true, false, cond, List, [], ◌∷◌, length, get_or, refl, arith, ◌∙◌, ap}
use Rattle.std.specs.Prelude.{not, nat_eq}
use Rattle.std.specs.List.{prefix_len}
use Rattle.memchr.specs.Find.{Nowhere, NoneBefore, Passes, is_byte}
use Rattle.rdl_text.specs.Words.{is_in_line}

not-so : (b : Bool) → (b ≡ true → ⊥) → b ≡ false
not-so true h = absurd (h refl)
not-so false h = refl

-- a byte that is no line feed
inside : (c : ℕ) (cs : List ℕ) → (is_byte 10 c ≡ true → ⊥) → prefix_len is_in_line (c ∷ cs) ≡ suc (prefix_len is_in_line cs)
inside c cs h = ap (λ b. cond (not b) (1 + prefix_len is_in_line cs) 0) (not-so (nat_eq c 10) h) ∙ omega arith

whole : (t : List ℕ) → ((k : ℕ) → k < length t → is_byte 10 (get_or t k 0) ≡ true → ⊥) → prefix_len is_in_line t ≡ length t
whole [] h = refl
whole (c ∷ cs) h = inside c cs (h 0 (omega arith)) ∙ ap suc (whole cs (λ k m. h (suc k) (omega (arith, m))))

up_to : (t : List ℕ) (n : ℕ) → n < length t → ((k : ℕ) → k < n → is_byte 10 (get_or t k 0) ≡ true → ⊥) → is_byte 10 (get_or t n 0) ≡ true → prefix_len is_in_line t ≡ n
up_to [] n l h e = absurd (omega (arith, l))
up_to (c ∷ cs) zero l h e = ap (λ b. cond (not b) (1 + prefix_len is_in_line cs) 0) e
up_to (c ∷ cs) (suc n) l h e = inside c cs (h 0 (omega arith)) ∙ ap suc (up_to cs n (omega (arith, l)) (λ k m. h (suc k) (omega (arith, m))) e)

-- a line without a line feed, and one with it
pub line-whole : (t : List ℕ) → Nowhere (Passes (is_byte 10) t) 0 (length t) → prefix_len is_in_line t ≡ length t
line-whole t h = whole t (λ k m. h k (omega arith) m)

pub line-up_to : (t : List ℕ) (n : ℕ) → NoneBefore (Passes (is_byte 10) t) 0 (length t) n → Passes (is_byte 10) t n → prefix_len is_in_line t ≡ n
line-up_to t n h e = up_to t n h.high (λ k m. h.before k (omega arith) m) e
