use Rattle.std.proofs.Common.{◌≡◌, ◌<◌, IfSome, option_map, drop}
use Rattle.std.specs.Option.{option_or}
use Rattle.rdl_scope.specs.Walk.{found, deeper}
use Rattle.rdl_scope.proofs.types.found.Given as goal

abbrev pub invariant-loop-depth : goal.invariant-loop-depth
invariant-loop-depth l = record {
  rest : found l.path l.fn.body l.name ≡ option_or (option_map (deeper l.depth) (found (drop l.depth l.path) l.here l.name)) l.place;
  within : IfSome l.place (λ p. p.0 < l.depth);
}
