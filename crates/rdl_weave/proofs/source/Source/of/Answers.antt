use Rattle.std.proofs.Common.{sym, subst, rules}
use Rattle.rdl_weave.specs.Spelled.{IsRead}
use Rattle.rdl_weave.proofs.source.Source.of.Goals as goal

pub returns : goal.returns
returns c = record {
  places = c.args.places.now;
  read = subst (λ d. IsRead c.args.text.now d.items c.args.places.now) (sym c.in_ok-map.ensures) c.requires.read;
  laid = c.in_ok-statements.ensures.found;
  only = c.in_ok-statements.ensures.only;
}
