use Rattle.std.proofs.Common.{◌+◌, ◌∷◌, ◌++◌, [], drop, ap, sym, ◌∙◌}
use Rattle.std.proofs.lemmas.List.{append_assoc}
use Rattle.rdl_nodes.specs.View.{slots_of}
use Rattle.rdl_nodes.proofs.Bodies.{drop_at}
use Rattle.rdl_nodes.proofs.SameSlots.{same_slot}
use Rattle.rdl_nodes.proofs.tree.copied.Goals as goal

pub loop-slot-preserved : goal.loop-slot-preserved
loop-slot-preserved c =
    let xs = c.args.kept.now in
    let n = c.loop-slot.slot-index in
    let done = c.loop-slot.slots.items in
    let copy = c.in_ok-try_copy.field-0 in
    let rest = drop (n + 1) xs in
    record {
      same =
          ap (λ ys. slots_of (ys ++ rest)) c.in_ok-push.ensures.items ∙ ap slots_of (append_assoc done (copy ∷ []) rest)
          ∙ same_slot done rest copy c.slot-item.result c.in_ok-try_copy.ensures
          ∙ ap (λ ys. slots_of (done ++ ys)) (sym (drop_at xs n c.slot-item.result c.loop-slot-test.true c.slot-item.is)) ∙ c.loop-slot.invariant.same;
    }
