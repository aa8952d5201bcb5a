use Rattle.std.proofs.Common.{sym, ap, ◌∙◌}
use Rattle.std.specs.Prelude.{slice_get}
use Rattle.rdl_tree.specs.declared.description.Item.TheVariants.{Instance}
use Rattle.rdl_marks.specs.View.{firsts_of}
use Rattle.rdl_nodes.specs.Parts.{of_item}
use Rattle.rdl_nodes.specs.View.{slots_of}
use Rattle.rdl_renew.specs.AlikeSlots.{is_alike}
use Rattle.rdl_renew.specs.Along.{next_of}
use Rattle.rdl_renew.proofs.AlikeSteps.{taken_at, same_alike, stayed_same}
use Rattle.rdl_renew.proofs.alike.is_alike_instance.Goals as goal

pub returns-in-Same : goal.returns-in-Same
returns-in-Same c = λ of.
    let w = c.args.is_width_same in
    let s = c.args.shell.now in
    let p = of_item (slice_get c.args.now.now c.args.number) in
    c.takes_the_same.ensures
    ∙ (taken_at w s c.args.before.now c.args.now.now c.in-Same.old c.args.number _ _ c.inside_at-before.ensures c.inside_at.ensures
    ∙ (sym (same_alike w (slots_of c.args.before.now) p c.in-Same.old s of)
    ∙ ap (λ n. is_alike w (slots_of c.args.before.now) p (next_of n) (Instance s of)) (sym c.in-Same.is)))

pub returns-else-not-still_says_the_same : goal.returns-else-not-still_says_the_same
returns-else-not-still_says_the_same c = λ of.
    let w = c.args.is_width_same in
    let s = c.args.shell.now in
    let mark = c.in-Marked.mark.now in
    let p = of_item (slice_get c.args.now.now c.args.number) in
    c.takes_the_same-in-Marked.ensures
    ∙ (taken_at w s c.args.before.now c.args.now.now c.in-Marked.old c.args.number _ _ c.inside_at-before-in-Marked.ensures c.inside_at-in-Marked.ensures
    ∙ (sym (stayed_same w (slots_of c.args.before.now) p c.in-Marked.old (firsts_of mark) mark.inside s of c.if-mark.false (sym c.still_says_the_same.ensures ∙ c.if-not-still_says_the_same.false))
    ∙ ap (λ n. is_alike w (slots_of c.args.before.now) p (next_of n) (Instance s of)) (sym c.in-Marked.is)))
