use Rattle.std.proofs.Common.{ap₂, ◌∙◌}
use Rattle.std.proofs.lemmas.Result.{IfOk-weaker}
use Rattle.clap.specs.Words.{with_rule}
use Rattle.command_line.specs.Arguments.{program_with, regedit_command}
use Rattle.std.proofs.Common.{codes}
use Rattle.command_line.proofs.arguments.regedit_command.Goals as goal

pub returns : goal.returns
unfolding regedit_command
returns c =
    let bare = c.in_ok-program.ensures ∙ ap₂ (program_with (codes "regedit")) c.operand.ensures.rule c.operand-2.ensures.rule in
    let rdl = c.in_ok-arg.ensures.shape c.output.ensures.own ∙ ap₂ with_rule bare c.output.ensures.rule in
    let header = c.in_ok-arg-2.ensures.shape c.output-2.ensures.own ∙ ap₂ with_rule rdl c.output-2.ensures.rule in
    let edited = c.in_ok-arg-3.ensures.shape c.optional_output.ensures.own ∙ ap₂ with_rule header c.optional_output.ensures.rule in
    let top = c.in_ok-arg-4.ensures.shape c.top.ensures.own ∙ ap₂ with_rule edited c.top.ensures.rule in
    let history = c.in_ok-arg-5.ensures.shape c.history.ensures.own ∙ ap₂ with_rule top c.history.ensures.rule in
    let session = c.in_ok-arg-6.ensures.shape c.optional_output-2.ensures.own ∙ ap₂ with_rule history c.optional_output-2.ensures.rule in
    let strict = c.in_ok-arg-7.ensures.shape c.switch.ensures.own ∙ ap₂ with_rule session c.switch.ensures.rule in
    IfOk-weaker c.arg-8.result _ _ (λ command adds. adds.shape c.switch-2.ensures.own ∙ ap₂ with_rule strict c.switch-2.ensures.rule) c.arg-8.ensures
