use Rattle.std.proofs.Common.{◌∙◌, ap, sym, Err, option_copied}
use Rattle.rdl_elab.specs.Faults.{with_top}
use Rattle.rdl_elab.proofs.KeptAnswers.{judged-top}
use Rattle.rdl_elab.proofs.elaborate.top_of.Goals as goal

pub returns-in-None-clause-err : goal.returns-in-None-clause-err
returns-in-None-clause-err c =
    let d = c.args.description.now.items in
    judged-top d (option_copied c.args.wanted) c.find_top.result c.requires (sym c.find_top.ensures) ∙ ap (with_top d) c.in-None.is ∙ ap Err (sym c.no_top.ensures)
