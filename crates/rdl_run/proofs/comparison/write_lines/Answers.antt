use Rattle.std.specs.Prelude.{IfErr}
use Rattle.std.proofs.Common.{subst}
use Rattle.rdl_run.specs.Comparing.{StopsLines}
use Rattle.rdl_run.proofs.comparison.write_lines.Goals as goal

pub returns-clause-stopped : goal.returns-clause-stopped
returns-clause-stopped g c =
    let a = g.W.Write.contents c.args.output.now.writer.now in
    let b = g.W.Write.contents c.write_all.new.output.writer.now in
    subst (λ written. IfErr c.write_all.result (StopsLines written a b)) c.in_ok-differences.ensures c.write_all.ensures.stopped
