-- Each turn leaves one more gap out.
use Rattle.std.proofs.Common.{rules, ◌≡◌, ◌++◌, ◌≤◌, ℕ, List, [], Ok, true, length, string_bytes, slice_index_or, ap, arith}
use Rattle.std.specs.Prelude.{slice_range}
use Rattle.rdl_text.specs.Words.{words}
use Rattle.rdl_text.proofs.Cutting.{tail}
use Rattle.rdl_source.specs.Beside.{ends_line}
use Rattle.rdl_weave.specs.Thin.{HasOnlyWords}
use Rattle.rdl_weave.proofs.Thinned.{nothing_left_out, one_left_out, all_left_out}
use Rattle.rdl_weave.proofs.thin.without_gaps.Goals as goal

pub gaps-init : goal.gaps-init
gaps-init c = nothing_left_out c.args.text.now _ c.new-thin.ensures.bytes

pub gaps-preserved : goal.gaps-preserved
gaps-preserved c =
    let text = c.args.text.now in
    let bytes = c.as_bytes-bytes.result.now in
    let same : bytes ≡ text = c.as_bytes-bytes.ensures.value in
    let at = c.gaps.at in
    let gap = slice_index_or c.args.gaps.now c.gaps.gap-index (record { from = 0; to = 0 }) in
    let front = slice_range bytes at gap.from in
    let middle = slice_range bytes gap.from gap.to in
    let put : HasOnlyWords front × (string_bytes c.put_words.new.thin ≡ string_bytes c.gaps.thin ++ front) = search rules in
    let front_ends : ends_line front ≡ true = search rules in
    let silent : words middle ≡ Ok [] = search rules in
    let middle_ends : ends_line middle ≡ true = search rules in
    let low : at ≤ gap.from = omega (arith, c.if-gap-at.false) in
    let high : gap.from ≤ gap.to = omega (arith, c.if-gap.false) in
    let within : gap.to ≤ length text = omega (arith, c.if-gap-bytes.false, ap (λ (s : List ℕ). length s) same) in
    one_left_out text (string_bytes c.gaps.thin) front middle (string_bytes c.put_words.new.thin) at gap.from gap.to c.gaps.invariant low high within
    (ap (λ s. slice_range s at gap.from) same) (ap (λ s. slice_range s gap.from gap.to) same) put.0 front_ends silent middle_ends put.1

pub returns : goal.returns
returns c =
    let text = c.args.text.now in
    let bytes = c.as_bytes-bytes.result.now in
    let same : bytes ≡ text = c.as_bytes-bytes.ensures.value in
    let rest = slice_range bytes c.gaps.at (length bytes) in
    let put : HasOnlyWords rest × (string_bytes c.put_words-2.new.thin ≡ string_bytes c.gaps.thin ++ rest) = search rules in
    all_left_out text (string_bytes c.gaps.thin) rest (string_bytes c.put_words-2.new.thin) c.gaps.at c.gaps.invariant (tail bytes text c.gaps.at same) put.0 put.1
