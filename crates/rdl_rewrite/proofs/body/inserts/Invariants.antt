use Rattle.std.proofs.Common.{◌≡◌, ◌+◌, ◌++◌, drop}
use Rattle.rdl_rewrite.specs.Patches.{inserts}
use Rattle.rdl_rewrite.proofs.body.inserts.Given as goal

abbrev pub invariant-items : goal.invariant-items
invariant-items l = inserts l.way l.number l.items ≡ l.patches.items ++ inserts l.way (l.number + l.i) (drop l.i l.items)
