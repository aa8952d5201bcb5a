use Rattle.std.proofs.Common.{◌≡◌, false, true, Some, sym, ap, ◌∙◌, subst, rules}
use Rattle.rdl_text.specs.Name.{IsName}
use Rattle.rdl_parse.specs.Class.{class}
use Rattle.rdl_script.specs.Operands.{allows}
use Rattle.rdl_script.proofs.Names.{name_in-refused, name_in-not_name, name_in-name}
use Rattle.rdl_script.proofs.name.name_in.Goals as goal

pub returns-then-not-allows : goal.returns-then-not-allows
returns-then-not-allows c =
    let refused : allows c.args.sort (class c.args.text.now) ≡ false = search rules in
    sym (name_in-refused c.args.sort c.args.text.now refused)

pub returns-in-Ok : goal.returns-in-Ok
returns-in-Ok c =
    let allowed : allows c.args.sort (class c.args.text.now) ≡ true = search rules in
    let named : c.in-Ok.name ≡ c.args.text.now = c.in-Ok.ensures.ok in
    let is_name : IsName c.in-Ok.name = c.in-Ok.ensures.is_name in
    ap Some named ∙ sym (name_in-name c.args.sort c.args.text.now (subst IsName named is_name) allowed)

pub returns-in-Err-NotSuch : goal.returns-in-Err-NotSuch
returns-in-Err-NotSuch c = sym (name_in-not_name c.args.sort c.args.text.now (c.in-Err-NotSuch.ensures.not_such c.in-Err-NotSuch.field-0-is))
