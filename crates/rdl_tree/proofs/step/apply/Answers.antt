use Rattle.std.proofs.Common.{rules}
use Rattle.rdl_tree.proofs.Stepped.{is_step, stepped}
use Rattle.rdl_tree.proofs.step.apply.Goals as goal

pub returns-in-Insert-clause-applied : goal.returns-in-Insert-clause-applied
returns-in-Insert-clause-applied c = rw c.in-Insert.is (stepped _ _ _ c.insert.result (rw c.in-Insert.is at c.requires) c.insert.ensures.applied c.insert.ensures.back c.insert.ensures.room)

pub returns-in-Delete-clause-applied : goal.returns-in-Delete-clause-applied
returns-in-Delete-clause-applied c = rw c.in-Delete.is (stepped _ _ _ c.delete.result (rw c.in-Delete.is at c.requires) c.delete.ensures.applied c.delete.ensures.back c.delete.ensures.room)

pub returns-in-Shift-clause-applied : goal.returns-in-Shift-clause-applied
returns-in-Shift-clause-applied c =
    rw c.in-Shift.is (is_step _ _ _ c.new.result (rw c.in-Shift.is at c.requires) c.shift-back.ensures.changed (search rules) (rw c.new.ensures (search rules)))

pub returns-in-Exchange-clause-applied : goal.returns-in-Exchange-clause-applied
returns-in-Exchange-clause-applied c =
    rw c.in-Exchange.is (is_step _ _ _ c.new-in-Exchange.result (rw c.in-Exchange.is at c.requires) c.exchange-back.ensures.changed (search rules) (rw c.new-in-Exchange.ensures (search rules)))
