use Rattle.std.proofs.Common.{ap, ◌∙◌, arith, rules, refl}
use Rattle.std.proofs.lemmas.List.{take_all}
use Rattle.rdl_diff.specs.ByPath.{path_in}
use Rattle.rdl_diff.specs.Paths.{last_by}
use Rattle.rdl_diff.proofs.RowsAt.{rows-more}
use Rattle.rdl_diff.proofs.by_path.ByPath.of.Goals as goal

pub rows-preserved : goal.rows-preserved
rows-preserved c = λ p.
    rows-more (path_in c.args.paths.now) (λ r. r) p c.rows.by_path.entries c.insert.new.self.entries c.put_path.new.names _ c.args.rows.now c.rows.row-index _ (omega (arith, c.rows-test.true)) c.in_ok-insert.ensures.entries (search rules) refl c.in_ok-put_path.ensures (c.rows.invariant p)

pub returns : goal.returns
returns c = λ p. c.rows.invariant p ∙ ap (last_by (path_in c.args.paths.now) (λ r. r) p) (take_all c.rows.row-index c.args.rows.now (omega (arith, c.rows-test.false)))
