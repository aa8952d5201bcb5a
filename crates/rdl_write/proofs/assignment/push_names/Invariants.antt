use Rattle.std.proofs.Common.{◌≡◌, ◌++◌, take, string_bytes}
use Rattle.std.specs.Prelude.{codes, flat_map}
use Rattle.rdl_write.proofs.assignment.push_names.Given as goal

abbrev pub invariant-names : goal.invariant-names
invariant-names l = string_bytes l.text ≡ string_bytes l.initial.text ++ flat_map (λ n. codes "." ++ n) (take l.name-index l.others)
