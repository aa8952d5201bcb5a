use Rattle.std.proofs.Common.{rules}
use Rattle.clap.proofs.WalkLemmas.{first_value-rows}
use Rattle.clap.specs.Words.{found_of}
use Rattle.command_line.proofs.values.is_set.Goals as goal

pub returns-in-Some : goal.returns-in-Some
returns-in-Some c =
    let e = first_value-rows (found_of c.args.matches.now) c.args.id.now in
    search (rules, e)

pub returns-in-None : goal.returns-in-None
returns-in-None c =
    let e = first_value-rows (found_of c.args.matches.now) c.args.id.now in
    search (rules, e)
