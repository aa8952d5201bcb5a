use Rattle.std.proofs.Common.{◌≡◌, ◌++◌, ◌∙◌, ap, subst, OnOk, option_copied}
use Rattle.std.specs.List.{filter}
use Rattle.rdl_diff.specs.ByPath.{texts, row_under}
use Rattle.rdl_diff.specs.DiffText.{is_kept, new_line}
use Rattle.rdl_diff.specs.Paths.{path}
use Rattle.rdl_diff.specs.Seen.{lines_seen}
use Rattle.rdl_diff.proofs.matched.push_new_at.Goals as goal

pub returns : goal.returns
returns c =
    let old = c.args.old.now in
    let row = c.args.row.now in
    let choice = c.args.choice.now in
    let names : texts c.as_slice.result.now ≡ path row = ap texts c.as_slice.ensures.value ∙ c.in_ok-put_names_below.ensures in
    let found : option_copied c.get.result ≡ row_under old (path row) = c.get.ensures ∙ ap (row_under old) names in
    subst (λ o. OnOk c.push_new.result (lines_seen c.push_new.new.lines.items ≡ lines_seen c.args.lines.now.items ++ filter (is_kept choice.severity) (new_line choice o row))) found c.push_new.ensures
