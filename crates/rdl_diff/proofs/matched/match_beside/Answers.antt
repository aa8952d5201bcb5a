use Rattle.std.proofs.Common.{ap, ◌∙◌, refl}
use Rattle.rdl_diff.specs.ByPath.{pairs, row_under}
use Rattle.rdl_diff.specs.Renames.{renamed_to}
use Rattle.rdl_diff.proofs.Matches.{matches_beside}
use Rattle.rdl_diff.proofs.matched.match_beside.Goals as goal

pub returns : goal.returns
returns c =
    matches_beside c.args.renames.items c.args.old.now (row_under c.args.new_by_path.now) c.in_ok-renamed.renamed _ (λ p. c.in_ok-renamed.ensures p ∙ ap (λ rs. renamed_to (pairs rs) p) c.as_slice.ensures.value) refl c.in_ok-gone.ensures c.in_ok-old_by_path.ensures
