use Rattle.std.proofs.Common.{◌≡◌, map, take}
use Rattle.rdl_nodes.specs.Part.{member_of}
use Rattle.node_laws.specs.Laying.{bits_under}
use Rattle.node_laws.proofs.lays.all_bits.Given as goal

abbrev pub invariant-loop-part : goal.invariant-loop-part
invariant-loop-part l = l.fields.items ≡ map (λ p. bits_under l.mode (member_of p)) (take l.part-index l.parts)
