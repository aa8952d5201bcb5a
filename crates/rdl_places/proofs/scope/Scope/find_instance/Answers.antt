use Rattle.std.proofs.Common.{ap, subst, sym, ◌∙◌, option_map, arith}
use Rattle.rdl_places.specs.HeldScope.{place_of, outer_places}
use Rattle.rdl_places.specs.Reached.{found_at, IsFoundHeld}
use Rattle.rdl_places.proofs.Reached.{instance_found, instance_held}
use Rattle.rdl_places.proofs.scope.Scope.find_instance.Goals as goal

pub returns-clause-seen : goal.returns-clause-seen
returns-clause-seen c lay is =
    let s = c.args.self.now in
    instance_found lay c.args.name.now s.number (place_of s) (outer_places s.outer) is.0 is.1 (omega arith) ∙ ap (option_map (found_at lay)) (sym c.last_instance.ensures)

pub returns-clause-held : goal.returns-clause-held
returns-clause-held c lay is =
    let s = c.args.self.now in
    subst (IsFoundHeld lay) (sym c.last_instance.ensures) (instance_held lay c.args.name.now s.number (place_of s) (outer_places s.outer) is.0 is.1 (omega arith))
