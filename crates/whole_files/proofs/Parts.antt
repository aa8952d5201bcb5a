-- A text that is gone through part by part.
use Rattle.std.proofs.Common.{◌≡◌, ℕ, ◌+◌, ◌-◌, ◌≤◌, List, ◌++◌, length, take, drop, sym, ap, ◌∙◌, arith, length-drop}
use Rattle.std.proofs.lemmas.List.{length-take, length-take-le, take_rest}
use Rattle.std.proofs.Math.Seq.{take-add}

-- so many bytes of the rest come after the front
pub taken_more : (text : List ℕ) (at n : ℕ) → take at text ++ take n (take (length text - at) (drop at text)) ≡ take (at + n) text
taken_more text at n = ap (λ (l : List ℕ). take at text ++ take n l) (take_rest text at) ∙ sym (take-add at n text)

-- the front of a block is that of the rest
module _ (text block : List ℕ) (at n : ℕ) (h : n ≤ length block) where
  pub given_more : take n block ≡ take (length (take n block)) (take (length text - at) (drop at text)) → take at text ++ take n block ≡ take (at + n) text
  given_more e =
      ap (λ (l : List ℕ). take at text ++ l) (e ∙ ap (λ (k : ℕ). take k (take (length text - at) (drop at text))) (length-take-le n block h)) ∙ taken_more text at n

  pub inside_more : at ≤ length text → length (take n block) ≤ length (take (length text - at) (drop at text)) → at + n ≤ length text
  inside_more inside bound =
      omega (arith, inside, bound, length-take-le n block h, length-take (length text - at) (drop at text), length-drop at text)
