use Rattle.std.proofs.Common.{rules, ◌≢◌}
use Rattle.rdl_tree.specs.Address.{number_of}
use Rattle.rdl_rewrite.proofs.Staying.{apart}
use Rattle.rdl_rewrite.proofs.sweep.Sweep.is_apart.Goals as goal

pub returns-then-not-is_empty : goal.returns-then-not-is_empty
returns-then-not-is_empty c = λ h at.
    let other : number_of c.args.self.now.way.now ≢ c.args.number = search rules in apart c.args.self.now.way.now c.args.number other at
