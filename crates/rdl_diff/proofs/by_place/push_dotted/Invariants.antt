use Rattle.std.proofs.Common.{◌≡◌, ◌++◌, take, codes, string_bytes, flat_map}
use Rattle.rdl_diff.proofs.by_place.push_dotted.Given as goal

abbrev pub invariant-names : goal.invariant-names
invariant-names l = string_bytes l.text ≡ string_bytes l.initial.text ++ flat_map (λ n. n.now ++ codes ".") (take l.name-index l.names)
