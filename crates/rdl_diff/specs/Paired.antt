-- The lines of two maps that have the same paths in the same order.
-- own: how they are found.
use Rattle.std.specs.Prelude.{Bool, List, [], ◌∷◌, ◌++◌, map}
use Rattle.std.specs.Cmp.Lexicographic.{pointwise}
use Rattle.std.specs.List.{filter}
use Rattle.rdl_elab.specs.declared.row.Row.{Row}
use Rattle.rdl_diff.specs.DiffText.{Line, changed_line, changes, is_kept}
use Rattle.rdl_diff.specs.Paths.{path, same_path}
use Rattle.rdl_diff.specs.declared.choice.Choice.{Choice}

abbrev pub have_same_paths : (old new : List Row) → Bool
have_same_paths old new = pointwise same_path (map path old) (map path new)

-- a row with the one of the same number
abbrev pub paired_lines : Choice → (old new : List Row) → List Line
paired_lines c [] new = []
paired_lines c (o ∷ old) [] = []
paired_lines c (o ∷ old) (n ∷ new) = filter (is_kept c.severity) (changed_line (path n) (changes c o n)) ++ paired_lines c old new
