use Rattle.std.proofs.Common.{codes, rules, subst, ◌∙◌}
use Rattle.std.specs.Prelude.{IsSomeAnd}
use Rattle.rdl_text.specs.Name.{IsName}
use Rattle.clap.proofs.WalkLemmas.{first_value-rows}
use Rattle.clap.specs.Words.{found_of}
use Rattle.command_line.proofs.values.top_of.Goals as goal

pub returns-in_default-clause-ok : goal.returns-in_default-clause-ok
returns-in_default-clause-ok c =
    let e = first_value-rows (found_of c.args.matches.now) (codes "top") in
    search (rules, e)

pub returns-in-Ok-clause-ok : goal.returns-in-Ok-clause-ok
returns-in-Ok-clause-ok c =
    let e = first_value-rows (found_of c.args.matches.now) (codes "top") in
    search (rules, e)

pub returns-in-Err-NotSuch-clause-fault : goal.returns-in-Err-NotSuch-clause-fault
returns-in-Err-NotSuch-clause-fault c =
    let e = first_value-rows (found_of c.args.matches.now) (codes "top") in
    subst (λ o. IsSomeAnd o (λ name. ¬ (IsName name))) (c.in-Some.ensures ∙ e) (c.in-Err-NotSuch.ensures.not_such c.in-Err-NotSuch.field-0-is)
