use Rattle.std.proofs.Common.{◌∷◌, [], refl, ap, ◌∙◌}
use Rattle.std.proofs.lemmas.List.{map-append}
use Rattle.rdl_renew.specs.Fronts.{front_of, fronts}
use Rattle.rdl_renew.proofs.done.Done.put.Goals as goal

pub returns-clause-likeness : goal.returns-clause-likeness
returns-clause-likeness c = record {
  in_place = refl;
  add_same = refl;
  more = (front_of c.args.slot, ap fronts c.in_ok-push.ensures.items ∙ map-append front_of c.args.self.now.slots.items (c.args.slot ∷ []));
  alike = refl;
}
