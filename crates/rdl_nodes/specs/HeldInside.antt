-- Instances as targets find them, as they are kept: those of a body in order, each numbered by its place.
-- own: how the code holds instances.
use Rattle.std.specs.Prelude.{ℕ, ◌+◌, List, [], ◌∷◌}
use Rattle.rdl_nodes.specs.declared.inside.Instance.{Instance}
use Rattle.rdl_nodes.specs.declared.inside.Within.{Within}
use Rattle.rdl_nodes.specs.declared.inside.Within.TheVariants.{Nothing, Of}
use Rattle.rdl_seen.specs.Inside as seen
use Rattle.rdl_seen.specs.Inside.{nothing_within, with_instance, no_instances, instance}

abbrev pub within_of : Within → seen.Within
within_of Nothing = nothing_within
within_of (Of kind layouts ordered inside) = record { kind = kind; spots = record { spans = layouts.value.compact.spans; is_ordered = ordered }; inside = inside.value }

-- one more instance behind these
abbrev pub with_held : Instance → seen.Inside → seen.Inside
with_held x before = with_instance x.name.now (within_of x.within) before

-- these instances, behind others
abbrev pub inside_over : seen.Inside → List Instance → seen.Inside
inside_over before [] = before
inside_over before (x ∷ xs) = inside_over (with_held x before) xs

abbrev pub inside_of : List Instance → seen.Inside
inside_of xs = inside_over no_instances xs

-- how many instances there are, those inside included
abbrev pub inside_count : seen.Inside → ℕ
inside_count no_instances = 0
inside_count (instance name number kind spots inside before) = inside_count inside + 1 + inside_count before
