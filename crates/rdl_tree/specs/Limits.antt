-- What a description may have at most: levels of nesting, items, and weight.
-- own: SystemRDL 2.0 has no limits.
use Rattle.std.specs.Prelude.{ℕ, ◌≤◌}
use Rattle.rdl_tree.specs.Items.{Items, count}
use Rattle.rdl_tree.specs.Depth.{depth}
use Rattle.rdl_tree.specs.Weight.{weight}

abbrev pub max_depth : ℕ
max_depth = 16

abbrev pub max_count : ℕ
max_count = 65536

abbrev pub max_weight : ℕ
max_weight = 8388608

pub record IsWithinLimits (d : Items) : Type 0 where
  pub deep : depth d ≤ max_depth
  pub many : count d ≤ max_count
  pub heavy : weight d ≤ max_weight
