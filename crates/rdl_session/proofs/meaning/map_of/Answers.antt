use Rattle.std.proofs.Common.{◌≡◌, Some, sym, ap, ◌∙◌}
use Rattle.rdl_session.specs.Meaning.{described, map_of}
use Rattle.rdl_session.proofs.Meant.{map-no_text, map-text}
use Rattle.rdl_session.proofs.meaning.map_of.Goals as goal

pub returns-in_default : goal.returns-in_default
returns-in_default c = map-no_text c.args.bytes.now c.in_default.ensures.cases.0

pub returns-in-Ok-parse : goal.returns-in-Ok-parse
returns-in-Ok-parse c =
    let is : Some c.in-Ok-parse.description.items ≡ map_of c.args.bytes.now = sym (ap described c.in-Ok-parse.ensures.exact) ∙ map-text c.in-Ok.text.now c.args.bytes.now c.in-Ok.ensures.cases.0 c.in-Ok.ensures.cases.1 in
    is
