-- A body has more items than each item's inside, so that traces end.
-- own: no part of what traces mean.
use Rattle.std.specs.Prelude.{◌≤◌, max, List, [], ◌∷◌}
use Rattle.std.proofs.Common.{arith}
use denote.Param.Weighed.{most}
use Rattle.rdl_origin.specs.Traces.{traces_count}
use Rattle.rdl_origin.specs.View.{traces_of}
use Rattle.rdl_origin.specs.declared.origin.Origin.{Origin}
use Rattle.rdl_origin.specs.declared.origin.Origins.TheDeep.{deep-Origin}

pub deep_le-count : (os : List Origin) → max (most deep-Origin os) 0 ≤ traces_count (traces_of os)
deep_le-count [] = omega arith
deep_le-count (o ∷ os) = omega (arith, deep_le-count os)
