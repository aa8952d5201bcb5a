-- Rows under the places where they stand.
-- own: how they are looked up.
use Rattle.std.specs.Prelude.{ℕ, List, map, Option, option_map, bytes_eq, string_bytes}
use Rattle.indexmap.specs.IndexMap.{get_by}
use Rattle.rdl_elab.specs.declared.row.Row.{Row}
use Rattle.rdl_diff.specs.declared.by_path.Lone.{Lone}
use Rattle.rdl_diff.specs.declared.by_place.ByPlace.{ByPlace}

-- a row and those behind it
abbrev pub standing : Lone → Row × List Row
standing x = (x.row.now, x.behind.now)

abbrev pub all_standing : List Lone → List (Row × List Row)
all_standing xs = map standing xs

-- the row that stands at a place
abbrev pub lone_under : ByPlace → List ℕ → Option (Row × List Row)
lone_under m t = option_map standing (get_by (λ k. bytes_eq t (string_bytes k)) m.rows)
