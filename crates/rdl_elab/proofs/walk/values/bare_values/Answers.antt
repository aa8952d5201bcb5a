use Rattle.std.proofs.Common.{◌≡◌, [], ◌∷◌, Some, List, length, refl, ap, sym, ◌∙◌, rules, arith}
use Rattle.std.proofs.lemmas.Grind.{common_steps}
use Rattle.std.proofs.lemmas.Result.{IfOk-weaker}
use Rattle.rdl_elab.specs.declared.row.PropertyValue.{PropertyValue}
use Rattle.rdl_elab.specs.Shown.{bare, shown_values, built_in_values}
use Rattle.rdl_elab.specs.StatedValues.{over}
use Rattle.rdl_elab.proofs.StatedLists.{over-built-in, over-by-none}
use Rattle.rdl_elab.proofs.walk.values.bare_values.Goals as goal

empty : {X : Type 0} (xs : List X) → length xs ≡ 0 → xs ≡ []
empty [] e = refl
empty (x ∷ xs) e = absurd (omega (arith, e))

pub returns-then-is_empty : goal.returns-then-is_empty
returns-then-is_empty c =
    let k = c.args.kind in
    let h = bare k c.args.own.now c.args.defaults.now in
    let no_length : length c.in_ok-stated.stated.items ≡ 0 = first_of (omega arith, search rules, grind (arith, common_steps)) in
    let none : c.in_ok-stated.stated.items ≡ [] = empty c.in_ok-stated.stated.items no_length in
    IfOk-weaker c.share.result
    (λ values. values ≡ c.values.result.now)
    (λ values. values ≡ shown_values h)
    (λ values e.
    e
    ∙ c.values.ensures
    ∙ sym (over-by-none k)
    ∙ ap (λ (xs : List PropertyValue). over (Some xs) (built_in_values k)) (sym none)
    ∙ over-built-in h c.in_ok-stated.stated.items c.in_ok-stated.ensures)
    c.share.ensures

pub returns : goal.returns
returns c =
    let k = c.args.kind in
    let h = bare k c.args.own.now c.args.defaults.now in
    let kept : c.in_ok-built_ins.built_ins.value.items ≡ c.of.result.now.value.items = search rules in
    IfOk-weaker c.over.result
    (λ values. values ≡ over (Some c.in_ok-stated.stated.items) c.in_ok-built_ins.built_ins.value.items)
    (λ values. values ≡ shown_values h)
    (λ values e.
    e
    ∙ ap (over (Some c.in_ok-stated.stated.items)) (kept ∙ c.of.ensures)
    ∙ over-built-in h c.in_ok-stated.stated.items c.in_ok-stated.ensures)
    c.over.ensures
