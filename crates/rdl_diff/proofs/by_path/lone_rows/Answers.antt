use Rattle.std.proofs.Common.{◌≡◌, ◌++◌, ◌∷◌, ◌-◌, ◌∙◌, ap, length, take, drop, rules}
use Rattle.rdl_diff.specs.ByPath.{path_in, row_under, texts}
use Rattle.rdl_diff.specs.ByPlace.{all_standing}
use Rattle.rdl_diff.specs.Renames.{lone_if}
use Rattle.rdl_diff.proofs.Listed.{first-split}
use Rattle.rdl_diff.proofs.Walks.{one_lone}
use Rattle.rdl_diff.proofs.by_path.lone_rows.Goals as goal

pub rows-preserved : goal.rows-preserved
rows-preserved c =
    let at = path_in c.args.paths.now in
    let found = row_under c.args.others.now in
    let rest = c.rows.rest.now in
    let row = c.row-item.result in
    let behind = take (length rest - 1) (drop 1 rest) in
    let before = all_standing c.rows.alone.items in
    let split : rest ≡ row ∷ behind = first-split rest row c.in-len1-up.len_at_least (search rules) in
    let step = c.in_ok-push_lone.ensures ∙ ap (λ o. before ++ lone_if o row behind) (c.get.ensures ∙ ap (λ ns. found (texts ns)) c.as_slice.ensures.value) in
    one_lone at found before (all_standing c.push_lone.new.lone.items) rest behind row _ _ split c.in_ok-put_path.ensures step c.rows.invariant
