use Rattle.std.proofs.Common.{◌≡◌, map, drop}
use Rattle.rdl_elab.specs.Capped.{capped_layout}
use Rattle.rdl_elab.specs.Layouts.{container}
use Rattle.rdl_elab.specs.Placing.{with_behind}
use Rattle.rdl_nodes.specs.Part.{member_of}
use Rattle.node_laws.specs.Laying.{placement_under}
use Rattle.node_laws.proofs.lays.container.Given as goal

abbrev pub invariant-loop-part : goal.invariant-loop-part
invariant-loop-part l = record {
  around : l.placing.alignment ≡ l.fn.alignment;
  inside : l.placing.mode ≡ l.fn.mode;
  left : with_behind l.placing (map (λ p. placement_under l.fn.mode (member_of p)) (drop l.part-index l.parts)) ≡ capped_layout (container l.fn.alignment l.fn.mode (map (λ p. placement_under l.fn.mode (member_of p)) l.parts));
}
