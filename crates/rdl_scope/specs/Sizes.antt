-- How large a description is at most.
-- own: no part of what a fault is.
use Rattle.std.specs.Prelude.{◌≡◌, ◌≤◌}
use Rattle.rdl_tree.specs.Items.{Items, count}
use Rattle.rdl_tree.specs.Depth.{depth}
use Rattle.rdl_tree.specs.Weight.{weight, capped}
use Rattle.rdl_scope.specs.declared.size.Size.{Size}

-- the size gives the levels and the number of these items, as far as a `u64` goes, and a weight that theirs isn't above
pub record IsSizeOf (d : Items) (size : Size) : Type 0 where
  pub levels : size.depth ≡ capped (depth d)
  pub items : size.count ≡ capped (count d)
  pub at_most : capped (weight d) ≤ size.weight
