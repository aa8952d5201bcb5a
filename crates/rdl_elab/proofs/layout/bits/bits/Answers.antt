use Rattle.rdl_elab.proofs.FieldRuns.{more_bits}
use Rattle.rdl_elab.proofs.layout.bits.bits.Goals as goal

pub loop-field-preserved : goal.loop-field-preserved
loop-field-preserved c =
    more_bits c.loop-field.next c.loop-field.field-index c.args.fields.now _ c.bits_of-span.result _ c.loop-field.spans.items c.push.new.self.items
    c.loop-field-test.true c.bits_of-span.ensures c.loop-field.invariant c.in_ok-push.ensures.items
