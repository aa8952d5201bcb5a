use Rattle.std.proofs.Common.{arith}
use Rattle.rdl_tree.proofs.Gaps.{both_counted, put_in_front}
use Rattle.rdl_tree.proofs.gap.Gap.insert.Goals as goal

pub seek-requires-clause-there : goal.seek-requires-clause-there
seek-requires-clause-there c = omega (arith, c.requires, both_counted c.self.inside.front.items c.self.inside.behind.items c.args.self.now c.self.view_is)

pub returns-clause-after : goal.returns-clause-after
returns-clause-after c =
    put_in_front c.seek.new.front.items c.insert.new.self.items c.seek.new.behind.items c.self.inside.front.items c.self.inside.behind.items c.args.number c.args.item c.args.self.now (omega (arith, c.seek.ensures.number)) c.seek.ensures.same c.in-Ok.ensures.items c.self.view_is
