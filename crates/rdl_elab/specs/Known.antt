-- What is known of a map that is laid out again without being judged.
-- own: SystemRDL 2.0 has no edits.
use Rattle.std.specs.Prelude.{◌≡◌, ℕ, List, Option, Ok}
use Rattle.rdl_tree.specs.Items.{Items}
use Rattle.rdl_elab.specs.declared.row.Row.{Row}
use Rattle.rdl_elab.specs.Faults.{elaborated}

-- the map of this description has rows with the top that is asked for so
pub record HasRows (d : Items) (wanted : Option (List ℕ)) : Type 0 where
  pub rows : List Row
  pub are : elaborated d wanted ≡ Ok rows
