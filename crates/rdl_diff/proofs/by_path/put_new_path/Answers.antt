use Rattle.std.proofs.Common.{◌≡◌, ◌∙◌, [], ap, subst, OnOk}
use Rattle.rdl_diff.specs.ByPath.{texts, row_under}
use Rattle.rdl_diff.specs.Paths.{path}
use Rattle.rdl_diff.specs.Renames.{walked}
use Rattle.rdl_diff.proofs.by_path.put_new_path.Goals as goal

pub returns : goal.returns
returns c =
    let names : texts c.as_slice.result.now ≡ path c.args.row.now = ap texts c.as_slice.ensures.value ∙ c.in_ok-names.ensures in
    subst (λ ns. OnOk c.put_walked.result (texts c.put_walked.new.walk.items ≡ walked (row_under c.args.renamed.now) [] ns)) names c.put_walked.ensures
