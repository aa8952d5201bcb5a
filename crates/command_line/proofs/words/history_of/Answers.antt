use Rattle.std.proofs.Common.{ap, codes, is_some, subst, sym, ◌∙◌}
use Rattle.std.specs.Prelude.{unwrap_or}
use Rattle.clap.proofs.WalkLemmas.{one_text-rows}
use Rattle.clap.specs.Words.{found_of, rows_of}
use Rattle.command_line.specs.Words.{NumbersHistory}
use Rattle.command_line.proofs.History.{history_read}
use Rattle.command_line.proofs.words.history_of.Goals as goal

pub unwrap-requires : goal.unwrap-requires
unwrap-requires c =
    let found = found_of c.args.matches.now in
    let read = history_read (rows_of found) c.requires c.get_one.result (λ text is. c.get_one.ensures.value text (one_text-rows found (codes "history") ∙ is)) in
    ap is_some read.1

pub returns : goal.returns
returns c =
    let found = found_of c.args.matches.now in
    let read = history_read (rows_of found) c.requires c.get_one.result (λ text is. c.get_one.ensures.value text (one_text-rows found (codes "history") ∙ is)) in
    subst (NumbersHistory (rows_of found)) (ap (λ o. unwrap_or o 0) (sym read.1 ∙ c.unwrap.ensures)) read.2
