-- The first line of a script, and what stands behind it.
use Rattle.std.proofs.Common.{◌≡◌, ℕ, suc, ◌+◌, ◌≤◌, ◌<◌, true, false, not, nat_eq, List, [], ◌∷◌, length, take, drop, refl, sym, ap, ◌∙◌, subst, ◌-◌, arith}
use Rattle.std.specs.Prelude.{cond}
use Rattle.std.specs.List.{prefix_len, onto_first}
use Rattle.std.proofs.lemmas.List.{take_rest}
use Rattle.rdl_script.specs.Commands.{lines_of}
use Rattle.rdl_run.specs.ScriptLines.{is_in_line}

pub lines-last : (bs : List ℕ) → length bs ≤ prefix_len is_in_line bs → lines_of bs ≡ bs ∷ []
lines-last [] h = refl
lines-last (c ∷ cs) h =
    elim (nat_eq c 10) as (λ b. length (c ∷ cs) ≤ cond (not b) (1 + prefix_len is_in_line cs) 0 → cond b ([] ∷ lines_of cs) (onto_first c (lines_of cs)) ≡ (c ∷ cs) ∷ []) [
      | true ↦ λ k. absurd (omega (arith, k))
      | false ↦ λ k. ap (onto_first c) (lines-last cs (omega (arith, k)))
    ] h

pub lines-more : (bs : List ℕ) → prefix_len is_in_line bs < length bs
    → lines_of bs ≡ take (prefix_len is_in_line bs) bs ∷ lines_of (drop (prefix_len is_in_line bs + 1) bs)
lines-more [] h = absurd (omega (arith, h))
lines-more (c ∷ cs) h =
    let n = prefix_len is_in_line cs in
    elim (nat_eq c 10) as (λ b. cond (not b) (1 + n) 0 < length (c ∷ cs) → cond b ([] ∷ lines_of cs) (onto_first c (lines_of cs)) ≡ take (cond (not b) (1 + n) 0) (c ∷ cs) ∷ lines_of (drop (cond (not b) (1 + n) 0 + 1) (c ∷ cs))) [
      | true ↦ λ k. refl
      | false ↦ λ k.
          let one : 1 + n ≡ suc n = omega arith in
          let two : 1 + n + 1 ≡ suc (n + 1) = omega arith in
          ap (onto_first c) (lines-more cs (omega (arith, k)))
          ∙ sym (ap (λ (l : List ℕ). l ∷ lines_of (drop (1 + n + 1) (c ∷ cs))) (ap (λ m. take m (c ∷ cs)) one)
          ∙ ap (λ (l : List ℕ). (c ∷ take n cs) ∷ lines_of l) (ap (λ m. drop m (c ∷ cs)) two))
    ] h

-- the same of the slices that are cut there
pub cut-more : (bs : List ℕ) (n : ℕ) → n ≡ prefix_len is_in_line bs → n < length bs → lines_of bs ≡ take n bs ∷ lines_of (take (length bs - (n + 1)) (drop (n + 1) bs))
cut-more bs n e h =
    lines-more bs (subst (λ m. m < length bs) e h)
    ∙ sym (ap (λ m. take m bs ∷ lines_of (take (length bs - (m + 1)) (drop (m + 1) bs))) e
    ∙ ap (λ (l : List ℕ). take (prefix_len is_in_line bs) bs ∷ lines_of l) (take_rest bs (prefix_len is_in_line bs + 1)))

pub cut-last : (bs : List ℕ) (n : ℕ) → n ≡ prefix_len is_in_line bs → length bs ≤ n → lines_of bs ≡ bs ∷ []
cut-last bs n e h = lines-last bs (subst (λ m. length bs ≤ m) e h)
