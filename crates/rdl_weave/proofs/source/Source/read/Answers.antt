use Rattle.std.proofs.Common.{rules}
use Rattle.rdl_weave.specs.Spelled.{IsRead}
use Rattle.rdl_weave.proofs.source.Source.read.Goals as goal

pub returns : goal.returns
returns c =
    let read : IsRead c.args.text.now c.in-Some.read.map.items c.in-Some.read.places = search rules in
    record {
      places = c.in-Some.read.places;
      read = read;
      laid = c.in_ok-statements.ensures.found;
      only = c.in_ok-statements.ensures.only;
    }
