use Rattle.std.proofs.Common.{◌≡◌, ◌∙◌, ap, subst, OnOk, option_copied}
use Rattle.rdl_diff.specs.ByPath.{texts, row_under}
use Rattle.rdl_diff.specs.Renames.{path_or}
use Rattle.rdl_diff.proofs.by_path.put_renamed.Goals as goal

pub returns : goal.returns
returns c =
    let renamed = c.args.renamed.now in
    let old = texts c.args.walk.now.items in
    let names : texts c.as_slice.result.now ≡ old = ap texts c.as_slice.ensures.value in
    let found : option_copied c.get-found.result ≡ row_under renamed old = c.get-found.ensures ∙ ap (row_under renamed) names in
    subst (λ o. OnOk c.put_path_or.result (texts c.put_path_or.new.walk.items ≡ path_or old o)) found c.put_path_or.ensures
