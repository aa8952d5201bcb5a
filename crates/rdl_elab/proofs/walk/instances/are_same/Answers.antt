use Rattle.std.proofs.Common.{sym}
use Rattle.rdl_elab.proofs.Insides.{same-some, same-none}
use Rattle.rdl_elab.proofs.walk.instances.are_same.Goals as goal
use Rattle.rdl_elab.proofs.walk.instances.are_same.Goals.{in-Some+else-not-is_same, in_default}

pub loop-part-preserved : goal.loop-part-preserved
loop-part-preserved c =
    let fs = c.args.components.now in
    let p = c.part-item.result in
    elim c.match-component.branch [
      | in-Some+else-not-is_same w ↦
          let f = w.in-Some.finished.now in
          same-some fs c.loop-part.part-index c.args.parts.now p c.loop-part-test.true c.part-item.is c.loop-part.invariant f (sym w.in-Some.ensures) (w.is_same.ensures w.if-not-is_same.false)
      | in_default w ↦
          same-none fs c.loop-part.part-index c.args.parts.now p c.loop-part-test.true c.part-item.is c.loop-part.invariant (sym w.in_default.ensures)
    ]
