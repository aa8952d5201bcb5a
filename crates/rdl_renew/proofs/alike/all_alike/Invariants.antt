use Rattle.std.proofs.Common.{◌≡◌}
use Rattle.rdl_tree.specs.Items.{Items}
use Rattle.rdl_marks.specs.View.{in_order}
use Rattle.rdl_nodes.specs.View.{slots_of}
use Rattle.rdl_seen.specs.Layouts.{Laying}
use Rattle.rdl_seen.specs.Node.{Around}
use Rattle.rdl_renew.specs.Along.{HasPassed}
use Rattle.rdl_renew.specs.Renewing.{Became}
use Rattle.rdl_renew.proofs.AlikeSteps.{alike_from}
use Rattle.rdl_renew.proofs.alike.all_alike.Given as goal

abbrev pub invariant-loop-i : goal.invariant-loop-i
invariant-loop-i l = record {
  passed : HasPassed (in_order l.marks-inside.pieces) l.marks-inside.behind l.along l.i;
  alike : (lay : Laying) (saw : Around) (old : Items) → Became lay saw (slots_of l.before) l.marks old l.body
      → alike_from l.is_width_same l.marks l.before l.now l.body 0 ≡ alike_from l.is_width_same l.marks l.before l.now l.body l.i;
}
