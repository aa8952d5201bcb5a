use Rattle.std.proofs.Common.{rules}
use Rattle.rdl_weave.specs.Spelled.{IsRead}
use Rattle.rdl_weave.proofs.spelled.spells_as.Goals as goal

pub returns-in-Some : goal.returns-in-Some
returns-in-Some c =
    let read : IsRead c.args.text.now c.in-Some.read.map.items c.in-Some.read.places = search rules in
    c.is_canonical.ensures c.args.text.now c.in-Some.read.places read
