-- Where in a body an item is put.
-- own: SystemRDL 2.0 has no edits.
use Rattle.std.specs.Prelude.{ℕ, ◌+◌, List, length, Option, Some, option_map}
use Rattle.std.specs.List.{position}
use Rattle.rdl_tree.specs.Find.{is_named}
use Rattle.rdl_tree.specs.declared.description.Item.{Item}
use Rattle.rdl_rewrite.specs.declared.place.Place.{Place}
use Rattle.rdl_rewrite.specs.declared.place.Place.TheVariants.{First, Last, Before, After}

-- the number that an item put at the place gets among these; None where the sibling isn't there
abbrev pub place_number : Place → List Item → Option ℕ
place_number First xs = Some 0
place_number Last xs = Some (length xs)
place_number (Before sibling) xs = position (is_named sibling) xs
place_number (After sibling) xs = option_map (λ i. i + 1) (position (is_named sibling) xs)
