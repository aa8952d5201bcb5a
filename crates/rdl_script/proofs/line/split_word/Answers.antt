use Rattle.std.proofs.Common.{◌≡◌, ◌∙◌, sym, ap, subst}
use Rattle.std.specs.List.{prefix_len}
use Rattle.std.specs.Str.{IsCharBoundary}
use Rattle.rdl_script.specs.Words.{is_part}
use Rattle.rdl_script.proofs.Runs.{behind_part}
use Rattle.rdl_script.proofs.line.split_word.Goals as goal

pub range-requires-clause-end_boundary : goal.range-requires-clause-end_boundary
range-requires-clause-end_boundary c =
    let count : prefix_len is_part c.args.text.now ≡ c.word_len-len.result = sym (c.word_len-len.ensures.count ∙ ap (prefix_len is_part) c.as_bytes.ensures.value) in
    subst (IsCharBoundary c.args.text.now) count (behind_part c.args.text.now)

pub range_from-requires : goal.range_from-requires
range_from-requires c =
    let count : prefix_len is_part c.args.text.now ≡ c.word_len-len.result = sym (c.word_len-len.ensures.count ∙ ap (prefix_len is_part) c.as_bytes.ensures.value) in
    λ some. subst (IsCharBoundary c.args.text.now) count (behind_part c.args.text.now)
