-- How much larger or smaller a description is than another one that nests as deep.
-- own: SystemRDL 2.0 has no edits.
use Rattle.std.specs.Prelude.{◌≡◌, ◌+◌, ◌≤◌, ℕ}
use Rattle.rdl_tree.specs.Depth.{depth}
use Rattle.rdl_tree.specs.Items.{Items, count}
use Rattle.rdl_tree.specs.Weight.{weight}

-- the new one has so many items more, and at most so much more weight
pub record IsLarger (old new : Items) (more_items more_weight : ℕ) : Type 0 where
  pub levels : depth new ≡ depth old
  pub items : count new ≡ count old + more_items
  pub at_most : weight new ≤ weight old + more_weight

-- the new one has one item less, and so much less weight
pub record IsSmaller (old new : Items) (less_weight : ℕ) : Type 0 where
  pub levels : depth new ≡ depth old
  pub items : count new + 1 ≡ count old
  pub exactly : weight new + less_weight ≡ weight old
