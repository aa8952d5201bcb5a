use Rattle.std.proofs.Common.{ap, ◌∙◌, arith, refl, sym}
use Rattle.std.proofs.lemmas.List.{take_all}
use Rattle.rdl_diff.specs.ByPath.{pair}
use Rattle.rdl_diff.specs.Paths.{last_by, path}
use Rattle.rdl_diff.proofs.RowsAt.{last_by-map, rows-more}
use Rattle.rdl_diff.proofs.by_path.ByPath.of_renames.Goals as goal

pub renames-preserved : goal.renames-preserved
renames-preserved c = λ p.
    rows-more (λ x. path x.old.now) (λ x. x.new.now) p c.renames.by_path.entries c.insert.new.self.entries c.in_ok-names.names _ c.args.renames.now c.renames.rename-index c.rename-item.result (omega (arith, c.renames-test.true)) c.in_ok-insert.ensures.entries (sym c.rename-item.is) refl c.in_ok-names.ensures (c.renames.invariant p)

pub returns : goal.returns
returns c = λ p.
    c.renames.invariant p
    ∙ ap (last_by (λ x. path x.old.now) (λ x. x.new.now) p) (take_all c.renames.rename-index c.args.renames.now (omega (arith, c.renames-test.false)))
    ∙ last_by-map (λ x. path x.0) (λ x. x.1) pair p c.args.renames.now
