use Rattle.std.proofs.Common.{◌≡◌, ◌++◌, flat_map, take, codes, string_bytes}
use Rattle.rdl_diff.proofs.names.push_dotted.Given as goal

abbrev pub invariant-names : goal.invariant-names
invariant-names l = string_bytes l.text ≡ string_bytes l.initial.text ++ flat_map (λ n. codes "." ++ n.now) (take l.name-index l.names)
