use Rattle.std.proofs.Common.{◌<◌, ◌∙◌, ap, sym, arith}
use Rattle.std.specs.Option.{option_copied}
use Rattle.rdl_rewrite.specs.Change.{edited_body}
use Rattle.rdl_rewrite.specs.Patches.{level_in}
use Rattle.rdl_rewrite.proofs.Deep.{handed_refused, handed_not_deep}
use Rattle.rdl_rewrite.proofs.Made.{over, too_deep}
use Rattle.rdl_rewrite.proofs.rewrite.patches_in.Goals as goal

pub returns-then-len-gt16-clause-refused : goal.returns-then-len-gt16-clause-refused
returns-then-len-gt16-clause-refused c =
    over c.args.way.now c.args.whole.now.items c.in-Some.body.now _ (sym c.body.ensures ∙ ap option_copied c.in-Some.is) (omega (arith, c.if-len-gt16.true, c.len.ensures.same))

pub returns-in_err-patches-clause-too_deep : goal.returns-in_err-patches-clause-too_deep
returns-in_err-patches-clause-too_deep c = λ deep.
    absurd (handed_not_deep c.from_residual.result c.in_err-patches.field-0.0 _ c.from_residual.ensures.1 c.in_err-patches.ensures.refused deep)

pub returns-in_err-patches-clause-refused : goal.returns-in_err-patches-clause-refused
returns-in_err-patches-clause-refused c =
    handed_refused c.from_residual.result c.in_err-patches.field-0.0 c.args.way.now c.args.whole.now.items c.in-Some.body.now
    (edited_body c.args.whole.now.items c.args.number c.args.edit.now) (sym c.body.ensures ∙ ap option_copied c.in-Some.is) c.from_residual.ensures.1 c.in_err-patches.ensures.refused

pub returns-then-level_in-gt16-clause-refused : goal.returns-then-level_in-gt16-clause-refused
returns-then-level_in-gt16-clause-refused c =
    let deep : 16 < level_in c.args.way.now c.args.edit.now = omega (arith, c.if-level_in-gt16.true, c.level_in.ensures) in
    too_deep c.args.way.now c.args.number c.args.whole.now.items c.in-Some.body.now c.args.edit.now (sym c.body.ensures ∙ ap option_copied c.in-Some.is) deep c.in_ok-patches.ensures.accepted
