use Rattle.std.proofs.Common.{◌≡◌, map, drop}
use Rattle.std.specs.Prelude.{IfSome}
use Rattle.rdl_elab.specs.AlikeParts.{AreAlike}
use Rattle.rdl_elab.specs.Layouts.{container}
use Rattle.rdl_elab.specs.Capped.{capped_layout}
use Rattle.rdl_elab.specs.Inside.{shown_placement, kept_parts}
use Rattle.rdl_elab.specs.Placing.{with_behind}
use Rattle.rdl_elab.proofs.walk.instances.container.Given as goal

abbrev pub invariant-loop-part : goal.invariant-loop-part
invariant-loop-part l = record {
  around : l.placing.alignment ≡ l.fn.values.alignment;
  inside : l.placing.mode ≡ l.mode;
  known : IfSome l.known (AreAlike l.placing.alignment l.mode l.components);
  left : with_behind l.placing (map shown_placement (kept_parts l.mode l.components (drop l.part-index l.parts)))
      ≡ capped_layout (container l.fn.values.alignment l.mode (map shown_placement (kept_parts l.mode l.components l.parts)));
}
