use Rattle.std.proofs.Common.{◌≡◌, true, false, ◌∙◌, rules}
use Rattle.rdl_session.specs.Reading.{is_plain}
use Rattle.rdl_session.proofs.Cuts.{plain-utf8, number-refused, number-parsed}
use Rattle.rdl_session.proofs.parts.number.Goals as goal

pub returns-then-not-is_plain : goal.returns-then-not-is_plain
returns-then-not-is_plain c =
    let plain : is_plain c.args.bytes.now ≡ false = search rules in
    number-refused c.args.bytes.now plain

pub returns-in-Ok : goal.returns-in-Ok
returns-in-Ok c =
    let plain : is_plain c.args.bytes.now ≡ true = search rules in
    let parsed = rw c.in-Ok.ensures.cases.0 at c.parse.ensures.value.0 in
    c.ok.ensures.value ∙ number-parsed c.args.bytes.now c.parse.result plain parsed

pub returns-in-Err : goal.returns-in-Err
returns-in-Err c =
    let plain : is_plain c.args.bytes.now ≡ true = search rules in
    absurd (c.in-Err.ensures.cases.0 (plain-utf8 c.args.bytes.now plain))
