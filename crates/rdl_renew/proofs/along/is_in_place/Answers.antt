use Rattle.std.proofs.Common.{ap, ◌∙◌, eqb-true}
use Rattle.rdl_marks.specs.Marks.{no_marks}
use Rattle.rdl_marks.specs.View.{old_item, same_item}
use Rattle.rdl_renew.specs.Along.{next_of}
use Rattle.rdl_renew.proofs.along.is_in_place.Goals as goal

pub returns-in-Same : goal.returns-in-Same
returns-in-Same c = λ yes. (no_marks, ap next_of c.in-Same.is ∙ ap same_item (eqb-true c.in-Same.old c.args.number yes))

pub returns-then-old-number : goal.returns-then-old-number
returns-then-old-number c = λ none.
    let inside = c.in-Marked.mark.now.inside in
    let same = c.if-old-number.true in
    (inside, ap next_of c.in-Marked.is ∙ (λ i. old_item (same i) (c.has_no_firsts.ensures none i) inside))
