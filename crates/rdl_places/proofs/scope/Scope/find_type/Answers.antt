use Rattle.std.proofs.Common.{ap, subst, sym, ◌∙◌, option_map}
use Rattle.rdl_places.specs.HeldScope.{places_of}
use Rattle.rdl_places.specs.Scopes.{AreHeld, known_at}
use Rattle.rdl_places.proofs.Scopes.{type_known, type_held}
use Rattle.rdl_places.proofs.scope.Scope.find_type.Goals as goal

pub returns-clause-known : goal.returns-clause-known
returns-clause-known c lay is =
    ap (option_map (known_at lay)) c.nearest_type.ensures ∙ type_known lay c.args.name.now (places_of c.args.self.now) is

pub returns-clause-held : goal.returns-clause-held
returns-clause-held c lay is =
    subst (AreHeld lay) (sym c.nearest_type.ensures) (type_held lay c.args.name.now (places_of c.args.self.now) is)
