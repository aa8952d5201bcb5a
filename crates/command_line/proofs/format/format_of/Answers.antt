use Rattle.std.proofs.Common.{codes, ◌≡◌, ◌∙◌, sym, ap, Some, None}
use Rattle.clap.proofs.WalkLemmas.{first_value-rows}
use Rattle.clap.specs.Words.{found_of, rows_of}
use Rattle.command_line.specs.ComparisonWords.{format_of}
use Rattle.command_line.specs.Faults.{value}
use Rattle.command_line.proofs.format.format_of.Goals as goal

pub returns-in_default-clause-ok : goal.returns-in_default-clause-ok
returns-in_default-clause-ok c =
    let found = found_of c.args.matches.now in
    let none : None ≡ value (codes "format") (rows_of found) = c.in_default.ensures ∙ first_value-rows found (codes "format") in
    ap format_of (sym none)

pub returns-in-Some-format_named-clause-ok : goal.returns-in-Some-format_named-clause-ok
returns-in-Some-format_named-clause-ok c =
    let found = found_of c.args.matches.now in
    let some : Some c.in-Some.name.now ≡ value (codes "format") (rows_of found) = c.in-Some.ensures ∙ first_value-rows found (codes "format") in
    ap format_of (sym some) ∙ sym c.in-Some-format_named.ensures

pub returns-in-None-clause-fault : goal.returns-in-None-clause-fault
returns-in-None-clause-fault c =
    let found = found_of c.args.matches.now in
    let some : Some c.in-Some.name.now ≡ value (codes "format") (rows_of found) = c.in-Some.ensures ∙ first_value-rows found (codes "format") in
    ap format_of (sym some) ∙ sym c.in-None.ensures
