use Rattle.std.proofs.Common.{◌≡◌, flat_map, map, take}
use Rattle.serde_json.specs.View.{view}
use Rattle.rdl_diff.specs.Json.{come_data, told_data}
use Rattle.rdl_diff.specs.Told.{told}
use Rattle.rdl_diff.proofs.json.come_parts.Given as goal

abbrev pub invariant-parts : goal.invariant-parts
invariant-parts l = map view l.list.items ≡ flat_map (λ w. come_data w (told_data (told w l.row))) (take l.part-index l.parts)
