-- Where a walk along patches stands: how many of them are left, and which steps lead back.
-- own: SystemRDL 2.0 has no edits.
use Rattle.std.specs.Prelude.{◌≡◌, IsTrue, List, ◌++◌, reverse}
use Rattle.rdl_tree.specs.Items.{Items}
use Rattle.rdl_tree.specs.Patch.{image, inverses, AllFit}
use Rattle.rdl_tree.specs.Way.{Held, none_held, are_ready_in, backs}
use Rattle.rdl_tree.specs.declared.patch.Patch.{Patch}
use Rattle.rdl_tree.specs.declared.way.Step.{Step}

-- the steps, of which the last is taken first, lead back from here to the start, while a body is held open; what takes
-- them back, before the patches that are left, of which the last comes first, is all patches
pub record IsOnWay (held : Held) (steps : List Step) (here start : Items) (left all : List Patch) : Type 0 where
  pub ready : IsTrue (are_ready_in held (reverse steps) here)
  pub leads : image (backs (reverse steps)) here ≡ start
  pub again : inverses (backs (reverse steps)) here ++ reverse left ≡ all

-- those that are left lead on from here to where all lead from the start
pub record IsUnderWay (steps : List Step) (here start : Items) (left all : List Patch) : Type 0 where
  pub fit : AllFit (reverse left) here
  pub leads_on : image (reverse left) here ≡ image all start
  pub back : inverses (reverse left) here ++ backs (reverse steps) ≡ inverses all start
  pub way : IsOnWay none_held steps here start left all
