-- A body has more instances than each component inside it, so that what targets find ends.
-- own: no part of what targets find.
use Rattle.std.specs.Prelude.{◌+◌, ◌≤◌, max, List, [], ◌∷◌}
use Rattle.std.proofs.Common.{arith}
use denote.Param.Weighed.{most}
use Rattle.rdl_seen.specs.Inside as seen
use Rattle.rdl_nodes.specs.HeldInside.{with_held, inside_over, inside_of, inside_count, within_of}
use Rattle.rdl_nodes.specs.declared.inside.Instance.{Instance}
use Rattle.rdl_nodes.specs.declared.inside.Within.{Within}
use Rattle.rdl_nodes.specs.declared.inside.Within.TheVariants.{Nothing, Of}
use Rattle.rdl_nodes.specs.declared.inside.Inside.TheDeep.{deep-Instance, deep-Within}

count_over : (xs : List Instance) (before : seen.Inside) → inside_count before ≤ inside_count (inside_over before xs)
count_over [] before = omega arith
count_over (x ∷ xs) before = omega (arith, count_over xs (with_held x before))

deep_le-within : (w : Within) → deep-Within w ≤ inside_count (within_of w).inside + 1
deep_le-within Nothing = omega arith
deep_le-within (Of kind layouts ordered inside) = omega arith

deep_le-over : (xs : List Instance) (before : seen.Inside) → most deep-Instance xs ≤ inside_count (inside_over before xs)
deep_le-over [] before = omega arith
deep_le-over (x ∷ xs) before = omega (arith, deep_le-within x.within, count_over xs (with_held x before), deep_le-over xs (with_held x before))

pub deep_le-inside : (xs : List Instance) → max (most deep-Instance xs) 0 ≤ inside_count (inside_of xs)
deep_le-inside xs = omega (arith, deep_le-over xs seen.no_instances)
