use Rattle.std.proofs.Common.{◌≡◌, sym, ap, ◌∙◌, subst, false, IfOk}
use Rattle.rdl_script.specs.Commands.{asked, is_silent}
use Rattle.rdl_script.specs.Seen.{seen}
use Rattle.rdl_script.specs.Verbs.{verb_of}
use Rattle.rdl_script.specs.Words.{first_word, behind_word}
use Rattle.rdl_script.proofs.Lines.{command_in-not_utf8, command_in-utf8}
use Rattle.rdl_script.proofs.request.request_in.Goals as goal

pub returns-in_default : goal.returns-in_default
returns-in_default c =
    let speaks : is_silent c.args.line.now ≡ false = sym c.is_silent.ensures ∙ c.if-is_silent.false in
    sym (command_in-not_utf8 c.args.line.now speaks c.in_default.ensures.cases.0)

pub returns : goal.returns
returns c =
    let speaks : is_silent c.args.line.now ≡ false = sym c.is_silent.ensures ∙ c.if-is_silent.false in
    let line : c.in-Ok.line.now ≡ c.args.line.now = c.in-Ok.ensures.cases.0 in
    let verb : c.of.result ≡ verb_of (first_word c.args.line.now) = c.of.ensures ∙ ap verb_of c.split_word.ensures.word ∙ ap (λ l. verb_of (first_word l)) line in
    let operands : c.split_word.result.1.now ≡ behind_word c.args.line.now = c.split_word.ensures.behind ∙ ap behind_word line in
    subst (λ command. IfOk c.asked.result (λ request. seen request ≡ command))
    (ap (λ v. asked v c.split_word.result.1.now) verb ∙ ap (asked (verb_of (first_word c.args.line.now))) operands
    ∙ sym (command_in-utf8 c.args.line.now speaks c.in-Ok.ensures.cases.1))
    c.asked.ensures
