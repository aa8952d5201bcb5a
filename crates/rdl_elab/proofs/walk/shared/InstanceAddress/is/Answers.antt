use Rattle.std.proofs.Common.{◌≡◌, ap, sym, ◌∙◌, true, false}
use Rattle.std.specs.Prelude.{◌&&◌, nat_eq}
use Rattle.std.specs.Cmp.Lexicographic.{pointwise}
use Rattle.std.proofs.lemmas.Bool.{eq-eqb, ne_eqb}
use Rattle.rdl_elab.proofs.SameInstances.{same-instance}
use Rattle.rdl_elab.proofs.walk.shared.InstanceAddress.is.Goals as goal

pub returns-then-self-other : goal.returns-then-self-other
returns-then-self-other c =
    let a = c.self.inside in
    let b = c.other.inside in
    let same : nat_eq a.number b.number ≡ true = eq-eqb a.number b.number c.if-self-other.true in
    c.is.ensures
    ∙ ap (λ t. t && pointwise nat_eq a.around b.around) (sym same)
    ∙ sym (same-instance a.around b.around a.number b.number)
    ∙ (λ i. pointwise nat_eq (c.self.view_is i) (c.other.view_is i))

pub returns-else-self-other : goal.returns-else-self-other
returns-else-self-other c =
    let a = c.self.inside in
    let b = c.other.inside in
    let other : nat_eq a.number b.number ≡ false = ne_eqb a.number b.number c.if-self-other.false in
    other
    ∙ ap (λ t. t && pointwise nat_eq a.around b.around) (sym other)
    ∙ sym (same-instance a.around b.around a.number b.number)
    ∙ (λ i. pointwise nat_eq (c.self.view_is i) (c.other.view_is i))
