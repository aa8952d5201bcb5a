use Rattle.std.proofs.Common.{arith}
use Rattle.rdl_tree.proofs.Gaps.{both_counted, taken_from_front, found_in_front}
use Rattle.rdl_tree.proofs.gap.Gap.remove.Goals as goal

pub overflow_add-number : goal.overflow_add-number
overflow_add-number c = omega (arith, c.requires, c.self.invariant.in_front, c.self.ranges, both_counted c.self.inside.front.items c.self.inside.behind.items c.args.self.now c.self.view_is)

pub seek-requires-clause-there : goal.seek-requires-clause-there
seek-requires-clause-there c = omega (arith, c.requires, both_counted c.self.inside.front.items c.self.inside.behind.items c.args.self.now c.self.view_is)

pub returns-clause-after : goal.returns-clause-after
returns-clause-after c =
    taken_from_front c.seek.new.front.items c.remove.new.self.items c.seek.new.behind.items c.self.inside.front.items c.self.inside.behind.items c.args.number c.args.self.now c.seek.ensures.number c.seek.ensures.same c.remove.ensures.items c.self.view_is

pub returns-clause-value : goal.returns-clause-value
returns-clause-value c =
    found_in_front c.seek.new.front.items c.seek.new.behind.items c.self.inside.front.items c.self.inside.behind.items c.args.number c.remove.result c.args.self.now c.seek.ensures.number c.seek.ensures.same c.remove.ensures.value c.self.view_is
