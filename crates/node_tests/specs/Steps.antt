-- Where patches lead back from a map that has rows.
-- own: SystemRDL 2.0 has no edits.
use Rattle.std.specs.Prelude.{ℕ, List, Option}
use Rattle.rdl_tree.specs.Items.{Items}
use Rattle.rdl_tree.specs.Patch.{AllFit, image}
use Rattle.rdl_tree.specs.declared.patch.Patch.{Patch}
use Rattle.rdl_elab.specs.Known.{HasRows}

-- they fit, and lead to a map that has rows with this top
pub record LeadsBack (back : List Patch) (d : Items) (top : Option (List ℕ)) : Type 0 where
  pub fit : AllFit back d
  pub rows : HasRows (image back d) top
