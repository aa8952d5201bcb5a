use Rattle.std.proofs.Common.{◌∙◌}
use Rattle.rdl_elab.proofs.Placing.{next-placed, last-placed}
use Rattle.rdl_elab.proofs.layout.place.place.Goals as goal

pub loop-item-preserved : goal.loop-item-preserved
loop-item-preserved c = record {
  around = c.put.ensures.alignment ∙ c.loop-item.invariant.around;
  left = next-placed c.loop-item.placing c.put.new.self c.loop-item.item-index c.args.items.now _ _ c.loop-item-test.true c.in_ok-put.ensures.one c.loop-item.invariant.left;
}

pub returns : goal.returns
returns c = c.layout.ensures ∙ last-placed c.loop-item.placing c.loop-item.item-index c.args.items.now _ c.loop-item-test.false c.loop-item.invariant.left
