use Rattle.std.proofs.Common.{◌≡◌, ◌++◌, take, flat_map, string_bytes}
use Rattle.rdl_elab.specs.Reaches.{value_under}
use Rattle.rdl_diff.specs.DiffText.{stated_text}
use Rattle.rdl_diff.proofs.anew.push_all_stated.Given as goal

abbrev pub invariant-properties : goal.invariant-properties
invariant-properties l = string_bytes l.text ≡ string_bytes l.initial.text ++ flat_map (λ p. stated_text p (value_under p l.row.values)) (take l.property-index l.properties)
