use Rattle.std.proofs.Common.{ap, map, subst, ◌∙◌}
use Rattle.std.proofs.lemmas.Result.{IfOk-weaker}
use Rattle.clap.specs.Words.{FailsBy, fault_of, is_simple, matches_of}
use Rattle.clap.specs.Faults.{is_simple_and_free}
use Rattle.command_line.proofs.Simple.{free_command, simple_command}
use Rattle.command_line.proofs.Found.{whole}
use Rattle.command_line.proofs.Lone.{told_of_edit}
use Rattle.command_line.proofs.words.matches.Goals as goal

pub returns-clause-ok : goal.returns-clause-ok
returns-clause-ok c =
    let parse = c.try_get_matches_from in
    let texts = map (λ w. w.now) c.args.words.now in
    IfOk-weaker parse.result _ _ (λ m h. (h (ap is_simple c.in_ok-regedit_command.ensures ∙ simple_command)).0 ∙ ap (λ a. matches_of a texts) c.in_ok-regedit_command.ensures) parse.ensures.matches

pub returns-clause-whole : goal.returns-clause-whole
returns-clause-whole c =
    let parse = c.try_get_matches_from in
    IfOk-weaker parse.result _ _ (λ m p. whole c.in_ok-regedit_command.field-0 m c.in_ok-regedit_command.ensures p) parse.ensures.parsed

pub returns-clause-told : goal.returns-clause-told
returns-clause-told c =
    let parse = c.try_get_matches_from in
    let texts = map (λ w. w.now) c.args.words.now in
    told_of_edit texts parse.result (subst (λ a. FailsBy (fault_of a texts) parse.result) c.in_ok-regedit_command.ensures (parse.ensures.kinds (ap is_simple_and_free c.in_ok-regedit_command.ensures ∙ free_command)))
