use Rattle.std.proofs.Common.{arith, sym}
use Rattle.rdl_nodes.proofs.FromBehind as behind
use Rattle.rdl_nodes.proofs.FromFront.{overlaps_none}
use Rattle.rdl_nodes.proofs.apart.overlaps_none_before.Goals as goal

pub returns-then-start-high : goal.returns-then-start-high
returns-then-start-high c = sym (overlaps_none c.args.span c.args.high c.args.before.now (omega (arith, c.if-start-high.true, c.start.ensures)) c.requires.end)

pub returns-then-end-low : goal.returns-then-end-low
returns-then-end-low c = sym (behind.overlaps_none c.args.span c.args.low c.args.before.now (omega (arith, c.if-end-low.true, c.end.ensures)) c.requires.begin)
