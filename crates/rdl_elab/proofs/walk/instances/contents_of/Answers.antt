use Rattle.std.proofs.Common.{Option, None, false, length, refl, ap, sym, subst, ◌∙◌, arith}
use Rattle.std.specs.Prelude.{slice_get}
use Rattle.std.proofs.lemmas.Option.{slice_get_past}
use Rattle.rdl_elab.specs.declared.walk.finished.Finished.{Finished}
use Rattle.rdl_elab.specs.declared.walk.instances.Contents.{Contents}
use Rattle.rdl_elab.specs.Inside.{IsCounted}
use Rattle.rdl_elab.proofs.Insides.{levels-more, rows-more, empty-more, levels-none, rows-none, empty-none, nothing-counted}
use Rattle.rdl_elab.proofs.walk.instances.contents_of.Goals as goal

pub loop-part-init : goal.loop-part-init
loop-part-init c =
    let fs = c.args.components.now in
    let first = c.nothing-contents.ensures in
    record {
      levels = omega (arith, ap (λ x. x.levels) first);
      shallow = omega (arith, ap (λ x. x.levels) first);
      last = subst (λ (x : Contents). IsCounted (slice_get fs (length fs)) x.levels x.has_empty 0) (sym first)
          (subst (λ (o : Option Finished). IsCounted o 0 false 0) (sym (slice_get_past fs (length fs) (omega arith))) (nothing-counted 0 false (omega arith)));
      rows = omega (arith, ap (λ x. x.rows) first);
      few = omega (arith, ap (λ x. x.rows) first);
      empty = λ e. refl;
    }

pub loop-part-preserved : goal.loop-part-preserved
loop-part-preserved c =
    let fs = c.args.components.now in
    let ps = c.args.parts.now in
    let i = c.loop-part.part-index in
    let p = c.part-item.result in
    let old = c.loop-part.contents in
    let new = c.with_part-contents.result in
    let more = c.with_part-contents.ensures in
    let inv = c.loop-part.invariant in
    record {
      levels = levels-more fs i ps p _ c.loop-part-test.true c.part-item.is refl old.levels new.levels _ (omega (arith, more.levels)) inv.levels;
      shallow = omega (arith, more.levels);
      last = more.last;
      rows = rows-more fs i ps p _ c.loop-part-test.true c.part-item.is refl old.rows new.rows _ (omega (arith, more.rows)) inv.rows;
      few = omega (arith, more.rows);
      empty = λ e. empty-more fs i ps p _ c.loop-part-test.true c.part-item.is refl None _ (sym (more.empty e)) (inv.empty (more.before e));
    }

pub returns : goal.returns
returns c =
    let fs = c.args.components.now in
    let ps = c.args.parts.now in
    let i = c.loop-part.part-index in
    let inv = c.loop-part.invariant in
    let done = c.loop-part-test.false in
    record {
      levels = omega (arith, inv.levels, levels-none fs i ps done, inv.shallow);
      rows = omega (arith, inv.rows, rows-none fs i ps done, inv.few);
      empty = λ e. sym (inv.empty e) ∙ empty-none fs i ps done;
    }
