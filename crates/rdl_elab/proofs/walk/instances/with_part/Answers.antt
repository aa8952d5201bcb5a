use Rattle.std.proofs.Common.{◌+◌, Option, ap, sym, subst, ◌∙◌, arith}
use Rattle.std.specs.Prelude.{min, max, slice_get}
use Rattle.rdl_elab.specs.declared.walk.finished.Finished.{Finished}
use Rattle.rdl_elab.specs.Inside.{part_levels, part_rows, part_empty, IsCounted}
use Rattle.rdl_elab.proofs.Insides.{full-part, once-counted}
use Rattle.rdl_elab.proofs.walk.instances.with_part.Goals as goal

pub returns : goal.returns
returns c =
    let fs = c.args.components.now in
    let p = c.args.part.now in
    let old = c.args.contents in
    let new = c.with.result in
    let more = c.with.ensures in
    let f = c.in-Some.finished.now in
    let there = sym c.in-Some.ensures in
    record {
      levels = more.levels ∙ sym (ap (λ (o : Option Finished). min (max old.levels (part_levels o)) 16) there);
      rows = more.rows ∙ sym (ap (λ (o : Option Finished). min (old.rows + part_rows o) 65536) there);
      before = more.before;
      empty = λ none. ap (part_empty p) there ∙ full-part p f (more.empty none) (more.inside none);
      last = subst (λ (o : Option Finished). IsCounted o new.levels new.has_empty c.saturating_add.result) (sym (ap (slice_get fs) c.number-2.ensures ∙ there))
          (once-counted f old.levels new.levels new.has_empty c.saturating_add.result more.levels (omega (arith, c.saturating_add.ensures)) more.empty more.inside);
    }
