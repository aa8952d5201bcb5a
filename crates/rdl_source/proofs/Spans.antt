-- Parts of a text that stand one behind another.
use Rattle.std.proofs.Common.{◌≡◌, ℕ, ◌+◌, ◌-◌, ◌≤◌, List, ◌++◌, length, take, drop, ap, sym, ◌∙◌, arith}
use Rattle.std.specs.Prelude.{slice_range}
use Rattle.std.proofs.lemmas.List.{length-take-le, length-drop}
use Rattle.std.proofs.lemmas.List.Folds.{drop_split}
use Rattle.std.proofs.Math.Seq.{take-append-add}

pub joined : (xs : List ℕ) (a b c : ℕ) → a ≤ b → b ≤ c → c ≤ length xs → slice_range xs a b ++ slice_range xs b c ≡ slice_range xs a c
joined xs a b c h k m =
    let front = slice_range xs a b in
    let len : length front ≡ b - a = length-take-le (b - a) (drop a xs) (omega (arith, length-drop a xs)) in
    let count : length front + (c - b) ≡ c - a = omega (arith, len) in
    sym (take-append-add front (drop b xs) (c - b)) ∙ (ap (λ n. take n (front ++ drop b xs)) count ∙ ap (take (c - a)) (sym (drop_split xs a b h)))
