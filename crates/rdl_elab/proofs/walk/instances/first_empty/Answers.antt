use Rattle.std.proofs.Common.{Some, None, refl, sym, ◌∙◌}
use Rattle.rdl_elab.proofs.Insides.{empty-more}
use Rattle.rdl_elab.proofs.walk.instances.first_empty.Goals as goal
use Rattle.rdl_elab.proofs.walk.instances.first_empty.Goals.{in-Some+in_ok-empty+in_default-2, in_default}

pub returns-in-Some-2 : goal.returns-in-Some-2
returns-in-Some-2 c =
    let fs = c.args.components.now in
    let p = c.part-item.result in
    let f = c.in-Some.finished.now in
    empty-more fs c.loop-part.part-index c.args.parts.now p (Some f) c.loop-part-test.true c.part-item.is (sym c.in-Some.ensures) (Some c.in-Some-2.empty) _ (sym c.in-Some-2.is ∙ c.in_ok-empty.ensures) c.loop-part.invariant

pub loop-part-preserved : goal.loop-part-preserved
loop-part-preserved c =
    let fs = c.args.components.now in
    let p = c.part-item.result in
    elim c.match-component.branch [
      | in-Some+in_ok-empty+in_default-2 w ↦
          let f = w.in-Some.finished.now in
          empty-more fs c.loop-part.part-index c.args.parts.now p (Some f) c.loop-part-test.true c.part-item.is (sym w.in-Some.ensures) None _ (sym w.in_default-2.is ∙ w.in_ok-empty.ensures) c.loop-part.invariant
      | in_default w ↦ empty-more fs c.loop-part.part-index c.args.parts.now p None c.loop-part-test.true c.part-item.is (sym w.in_default.ensures) None _ refl c.loop-part.invariant
    ]
