use Rattle.std.proofs.Common.{ap, subst, ◌∙◌, ◌++◌}
use Rattle.rdl_header.specs.Marks.{path_marks}
use Rattle.rdl_header.specs.Places.{AreApart}
use Rattle.rdl_header.proofs.Apart.{no_clash}
use Rattle.rdl_header.proofs.StandingNames.{text_apart}
use Rattle.rdl_header.proofs.text.text_apart.Goals as goal

pub returns-then-branch : goal.returns-then-branch
returns-then-branch c =
    let marks = c.as_slice.ensures.value ∙ c.in_ok-lines.ensures.marks ∙ ap (λ ms. ms ++ path_marks c.args.rows.now) c.in_ok-marks.ensures.items in
    text_apart c.args.rows.now c.in_ok-lines.lines _ c.in_ok-lines.ensures.lines (no_clash c.args.rows.now (subst AreApart marks (c.in_ok-marks_differ.ensures c.if-branch.true))) c.into_text.ensures
