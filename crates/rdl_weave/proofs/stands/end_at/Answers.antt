use Rattle.std.proofs.Common.{◌+◌, ◌≤◌, length, arith, sym, ◌∙◌}
use Rattle.rdl_weave.proofs.Blanks.{comes_at}
use Rattle.rdl_weave.proofs.stands.end_at.Goals as goal

pub returns-then-eq : goal.returns-then-eq
returns-then-eq c =
    let end = c.args.begin + length c.args.bytes.now in
    let forward : c.args.begin ≤ end = omega arith in
    comes_at c.args.bytes.now c.args.text.now c.args.at c.args.begin end c.if-begin-at.false forward (sym c.eq.ensures ∙ c.if-eq.true)
