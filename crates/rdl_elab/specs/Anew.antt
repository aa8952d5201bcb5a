-- How many instances the components of a description have.
-- own: SystemRDL 2.0 counts no instances.
use Rattle.std.specs.Prelude.{ℕ, ◌+◌, List, sum_by, Bool, if◌then◌else◌}
use Rattle.rdl_tree.specs.Items.{Items}
use Rattle.rdl_scope.specs.Closed.{Parts, no_parts, part, Made}
use Rattle.rdl_elab.specs.Written.{all_written}

-- how many instances a component has
abbrev pub how_many : Parts → ℕ
how_many no_parts = 0
how_many (part at s h inside rest) = 1 + how_many rest

-- how many all components together have
abbrev pub all_instances : Items → ℕ
all_instances d = sum_by (λ (c : Made). how_many c.parts) (all_written d)

-- how many instances the components at these addresses have
abbrev pub instances_at : (List ℕ → Bool) → Items → ℕ
instances_at marked d = sum_by (λ (c : Made). if marked c.head.at then how_many c.parts else 0) (all_written d)
