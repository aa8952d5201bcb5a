use Rattle.std.proofs.Common.{◌≡◌, ◌-◌, Some, length, slice_get, rules}
use Rattle.rdl_elab.proofs.DefaultStacks.{shared-last}
use Rattle.rdl_elab.proofs.walk.defaults.Defaults.kept.Goals as goal

pub returns-in-Some : goal.returns-in-Some
returns-in-Some c =
    let xs = c.self.inside.items.items in
    let last : slice_get xs (length xs - 1) ≡ Some c.in-Some.nearest.now = search rules in
    c.of.ensures c.args.self.now (shared-last xs c.args.self.now c.in-Some.nearest.now last c.self.view_is c.self.invariant)
