use Rattle.std.proofs.Common.{ap, sym, ◌∙◌}
use Rattle.rdl_elab.specs.Layouts.{field_bits}
use Rattle.rdl_elab.proofs.Insides.{taken-some, taken-none}
use Rattle.rdl_elab.proofs.walk.instances.fields.Goals as goal
use Rattle.rdl_elab.proofs.walk.instances.fields.Goals.{in-Some+in_ok-push, in_default}

pub loop-part-preserved : goal.loop-part-preserved
loop-part-preserved c =
    let fs = c.args.components.now in
    let p = c.part-item.result in
    elim c.match-component.branch [
      | in-Some+in_ok-push w ↦
          let f = w.in-Some.finished.now in
          taken-some field_bits c.args.mode fs c.loop-part.part-index c.args.parts.now p c.loop-part-test.true c.part-item.is f w.field_bits.result c.loop-part.fields.items c.match-component.fields.items _
          (sym w.in-Some.ensures) (w.field_bits.ensures ∙ ap (λ s. field_bits (s, w.under.result.now)) w.shell.ensures ∙ ap (λ l. field_bits (p.shell, l)) w.under.ensures) (ap (λ v. v.items) w.fields-is ∙ w.in_ok-push.ensures.items) c.loop-part.invariant
      | in_default w ↦
          taken-none field_bits c.args.mode fs c.loop-part.part-index c.args.parts.now p c.loop-part-test.true c.part-item.is c.loop-part.fields.items c.match-component.fields.items _
          (sym w.in_default.ensures) (ap (λ v. v.items) w.fields-is) c.loop-part.invariant
    ]
