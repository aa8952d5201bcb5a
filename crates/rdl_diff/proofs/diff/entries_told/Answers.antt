use Rattle.std.proofs.lemmas.Result.{IfOk-weaker}
use Rattle.rdl_diff.proofs.Texts.{all_entries}
use Rattle.rdl_diff.proofs.diff.entries_told.Goals as goal

pub returns : goal.returns
returns c =
    IfOk-weaker c.entries_of.result _ _ (λ es h. all_entries c.args.moves c.args.lines.items c.in_ok-items.items.items c.in_ok-told.told.items es.items c.in_ok-items.ensures c.in_ok-told.ensures h) c.entries_of.ensures
