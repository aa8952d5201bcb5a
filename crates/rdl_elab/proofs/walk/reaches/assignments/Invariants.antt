use Rattle.std.proofs.Common.{◌≡◌, ◌++◌, drop}
use Rattle.std.specs.Prelude.{IfSome, option_copied}
use Rattle.rdl_tree.specs.View.{items_of, list_of}
use Rattle.rdl_elab.specs.KeptTargets.{kept_target}
use Rattle.rdl_elab.specs.PartNames.{IsFirstNamed}
use Rattle.rdl_elab.specs.Reaches.{reaches_by}
use Rattle.rdl_elab.proofs.walk.reaches.assignments.Given as goal

abbrev pub invariant-items : goal.invariant-items
invariant-items l =
    (reaches_by (kept_target l.components l.parts.items) 0 l.body
    ≡ l.list.items ++ reaches_by (kept_target l.components l.parts.items) l.i (items_of (drop l.i (list_of l.body))))
    × IfSome (option_copied l.first) (IsFirstNamed l.parts.items)
