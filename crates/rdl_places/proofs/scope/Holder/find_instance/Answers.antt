use Rattle.std.proofs.Common.{◌≡◌, ap, subst, sym, ◌∙◌, option_map, rules}
use Rattle.rdl_places.specs.HeldScope.{holding_of, found_of}
use Rattle.rdl_places.specs.Reached.{find_inside, found_at, IsFoundHeld}
use Rattle.rdl_places.proofs.Reached.{inside_found, inside_held}
use Rattle.rdl_places.proofs.scope.Holder.find_instance.Goals as goal

pub returns-clause-seen : goal.returns-clause-seen
returns-clause-seen c lay is =
    let same : option_map found_of c.last_instance.result ≡ find_inside c.args.name.now (holding_of c.args.self.now) = search rules in
    inside_found lay c.args.name.now (holding_of c.args.self.now) is ∙ ap (option_map (found_at lay)) (sym same)

pub returns-clause-held : goal.returns-clause-held
returns-clause-held c lay is =
    let same : option_map found_of c.last_instance.result ≡ find_inside c.args.name.now (holding_of c.args.self.now) = search rules in
    subst (IsFoundHeld lay) (sym same) (inside_held lay c.args.name.now (holding_of c.args.self.now) is)
