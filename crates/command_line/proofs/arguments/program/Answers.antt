use Rattle.std.proofs.Common.{ap, ◌≡◌, ◌∙◌}
use Rattle.std.proofs.lemmas.Result.{IfOk-weaker}
use Rattle.clap.specs.Words.{app_of, new_app, rule_of, with_rule}
use Rattle.clap.specs.Simple.{app_of_fields}
use Rattle.command_line.specs.Arguments.{with_version, without_name}
use Rattle.command_line.proofs.arguments.program.Goals as goal

pub returns : goal.returns
returns c =
    let name = c.args.name.now in
    let bare : app_of c.about.result ≡ with_version (without_name (new_app name)) =
    ap app_of_fields c.about.ensures ∙ (ap app_of_fields c.version.ensures ∙ ap with_version (ap app_of_fields c.no_binary_name.ensures ∙ ap without_name c.new.ensures.app)) in
    let one = c.in_ok-arg.ensures.shape c.requires.first_own ∙ ap (λ app. with_rule app (rule_of c.args.first)) bare in
    IfOk-weaker c.arg-2.result _ _ (λ command adds. adds.shape c.requires.second_own ∙ ap (λ app. with_rule app (rule_of c.args.second)) one) c.arg-2.ensures
