use Rattle.std.proofs.Common.{codes, rules}
use Rattle.clap.proofs.WalkLemmas.{first_value-rows}
use Rattle.clap.specs.Words.{found_of}
use Rattle.command_line.proofs.words.edited_of.Goals as goal

pub returns-in_default : goal.returns-in_default
returns-in_default c =
    let e = first_value-rows (found_of c.args.matches.now) (codes "edited") in
    search (rules, e)

pub returns : goal.returns
returns c =
    let e = first_value-rows (found_of c.args.matches.now) (codes "edited") in
    search (rules, e)
