use Rattle.std.proofs.Common.{ap, map, subst, ◌∙◌}
use Rattle.std.proofs.lemmas.Result.{IfOk-weaker}
use Rattle.clap.specs.Words.{FailsBy, fault_of, is_simple, matches_of}
use Rattle.clap.specs.Faults.{is_simple_and_free}
use Rattle.command_line.proofs.Simple.{free_comparison, simple_comparison}
use Rattle.command_line.proofs.Found.{has_operands}
use Rattle.command_line.proofs.Lone.{told_of_comparison}
use Rattle.command_line.proofs.comparison.matches.Goals as goal

pub returns-clause-ok : goal.returns-clause-ok
returns-clause-ok c =
    let parse = c.try_get_matches_from in
    let texts = map (λ w. w.now) c.args.words.now in
    IfOk-weaker parse.result _ _ (λ m h. (h (ap is_simple c.in_ok-regdiff_command.ensures ∙ simple_comparison)).0 ∙ ap (λ a. matches_of a texts) c.in_ok-regdiff_command.ensures) parse.ensures.matches

pub returns-clause-whole : goal.returns-clause-whole
returns-clause-whole c =
    let parse = c.try_get_matches_from in
    IfOk-weaker parse.result _ _ (λ m p. has_operands c.in_ok-regdiff_command.field-0 m c.in_ok-regdiff_command.ensures p) parse.ensures.parsed

pub returns-clause-told : goal.returns-clause-told
returns-clause-told c =
    let parse = c.try_get_matches_from in
    let texts = map (λ w. w.now) c.args.words.now in
    told_of_comparison texts parse.result (subst (λ a. FailsBy (fault_of a texts) parse.result) c.in_ok-regdiff_command.ensures (parse.ensures.kinds (ap is_simple_and_free c.in_ok-regdiff_command.ensures ∙ free_comparison)))
