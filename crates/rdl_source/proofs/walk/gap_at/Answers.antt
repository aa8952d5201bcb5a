-- What stands behind the gap is the one thing that does.
use Rattle.std.proofs.Common.{◌≡◌, length, None, refl, sym, ◌∙◌, subst}
use Rattle.rdl_source.specs.declared.gap.Right.TheVariants.{End}
use Rattle.rdl_source.specs.LaidOut.{StandsBehind, start_at}
use Rattle.rdl_source.proofs.One.{if_none, no_gap, right_stands}
use Rattle.rdl_source.proofs.walk.gap_at.Goals as goal

pub returns-in-None-clause-none : goal.returns-in-None-clause-none
returns-in-None-clause-none c =
    let source = c.args.text.now in
    let ws = c.args.words.now in
    let spot = c.args.spot in
    let none : start_at ws spot.word ≡ None = sym c.start.ensures ∙ c.in-None.is in
    if_none c.gap_between.result _ _
    (no_gap source ws spot.left spot.at spot.word End (length source) (subst (StandsBehind source End (length source)) (sym none) refl)) c.gap_between.ensures.none

pub returns-in-Some-clause-none : goal.returns-in-Some-clause-none
returns-in-Some-clause-none c =
    let source = c.args.text.now in
    let ws = c.args.words.now in
    let spot = c.args.spot in
    if_none c.gap_between-in-Some.result _ _
    (no_gap source ws spot.left spot.at spot.word c.right_of.result c.in-Some.start
    (right_stands source c.in-Some.start c.right_of.result (start_at ws spot.word) c.right_of.ensures (sym c.start.ensures ∙ c.in-Some.is))) c.gap_between-in-Some.ensures.none
