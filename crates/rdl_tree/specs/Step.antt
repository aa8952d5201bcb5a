-- What a patch leaves: the description as it makes it, and the step back.
-- own: SystemRDL 2.0 has no edits.
use Rattle.std.specs.Prelude.{◌≡◌, IsTrue, [], ◌∷◌}
use Rattle.rdl_tree.specs.Items.{Items}
use Rattle.rdl_tree.specs.Patch.{patched, inverse}
use Rattle.rdl_tree.specs.Way.{is_ready}
use Rattle.rdl_tree.specs.declared.patch.Patch.{Patch}
use Rattle.rdl_tree.specs.declared.way.Step.{Step}

-- the patch led from one description to the other, and the step back is ready
pub record IsStep (p : Patch) (old new : Items) (step : Step) : Type 0 where
  pub led : new ≡ patched p old
  pub back : inverse p old ≡ step.back ∷ []
  pub ready : IsTrue (is_ready step new)
