use Rattle.std.proofs.Common.{ap₂, codes, ◌∙◌}
use Rattle.std.proofs.lemmas.Result.{IfOk-weaker}
use Rattle.clap.specs.Words.{with_rule}
use Rattle.command_line.specs.Arguments.{program_with, regdiff_command}
use Rattle.command_line.proofs.arguments.regdiff_command.Goals as goal

pub returns : goal.returns
unfolding regdiff_command
returns c =
    let bare = c.in_ok-program.ensures ∙ ap₂ (program_with (codes "regdiff")) c.operand.ensures.rule c.operand-2.ensures.rule in
    let top = c.in_ok-arg.ensures.shape c.top.ensures.own ∙ ap₂ with_rule bare c.top.ensures.rule in
    let each = c.in_ok-arg-2.ensures.shape c.switch.ensures.own ∙ ap₂ with_rule top c.switch.ensures.rule in
    let breaking = c.in_ok-arg-3.ensures.shape c.switch-2.ensures.own ∙ ap₂ with_rule each c.switch-2.ensures.rule in
    let ignore = c.in_ok-arg-4.ensures.shape c.ignore.ensures.own ∙ ap₂ with_rule breaking c.ignore.ensures.rule in
    IfOk-weaker c.arg-5.result _ _ (λ command adds. adds.shape c.format.ensures.own ∙ ap₂ with_rule ignore c.format.ensures.rule) c.arg-5.ensures
