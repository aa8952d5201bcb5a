use Rattle.std.proofs.Common.{◌≡◌, ◌∙◌, sym, ap, subst}
use Rattle.std.specs.List.{prefix_len}
use Rattle.std.specs.Str.{IsCharBoundary}
use Rattle.rdl_script.specs.Words.{is_space}
use Rattle.rdl_script.proofs.Runs.{behind_spaces}
use Rattle.rdl_script.proofs.line.without_spaces.Goals as goal

pub range_from-requires : goal.range_from-requires
range_from-requires c =
    let count : prefix_len is_space c.args.text.now ≡ c.spaces_before.result = sym (c.spaces_before.ensures.count ∙ ap (prefix_len is_space) c.as_bytes.ensures.value) in
    λ some. subst (IsCharBoundary c.args.text.now) count (behind_spaces c.args.text.now c.utf8.text)
