use Rattle.std.proofs.Common.{◌≡◌, take, flat_map}
use Rattle.rdl_diff.specs.ByPath.{pairs}
use Rattle.rdl_diff.specs.ByPlace.{all_standing, lone_under}
use Rattle.rdl_diff.specs.Renames.{place, renamed_if}
use Rattle.rdl_diff.proofs.rename.renames_of.Given as goal

abbrev pub invariant-rows : goal.invariant-rows
invariant-rows l = pairs l.renames.items ≡ flat_map (λ x. renamed_if x (lone_under l.gone_places (place x.0)) (lone_under l.come_places (place x.0))) (all_standing (take l.old-index l.gone))
