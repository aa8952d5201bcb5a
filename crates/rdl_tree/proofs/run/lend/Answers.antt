use Rattle.std.proofs.Common.{◌≡◌, ◌++◌, [], ◌∷◌, rules}
use Rattle.std.specs.Prelude.{vec_capacity}
use Rattle.rdl_tree.specs.Way.{held_at}
use Rattle.rdl_tree.proofs.Held.{last_lent}
use Rattle.rdl_tree.proofs.run.lend.Goals as goal

pub returns-clause-lent : goal.returns-clause-lent
returns-clause-lent c =
    let items : c.push-2.new.self.items ≡ c.pop.new.self.items ++ c.new.result ∷ [] = search rules in
    last_lent (held_at c.args.holder.now (vec_capacity c.in_ok-step.step.room)) c.in_ok-step.step c.new.result c.pop.new.self.items c.args.steps.now.items c.push-2.new.self.items c.in_ok-step.ensures.items items c.new.ensures
    (c.puts_into.ensures (search rules) (vec_capacity c.in_ok-step.step.room))
