use Rattle.std.proofs.Common.{◌∙◌, arith, flat_map}
use Rattle.std.proofs.lemmas.List.{take_all}
use Rattle.rdl_diff.specs.Alike.{item_text}
use Rattle.rdl_diff.specs.Seen.{item_seen}
use Rattle.rdl_diff.proofs.Listed.{items_all}
use Rattle.rdl_diff.proofs.inner.run_text.Goals as goal

pub returns : goal.returns
returns c =
    c.items.invariant
    ∙ (λ i. flat_map (λ x. item_text c.args.depth (item_seen x)) (take_all c.items.item-index c.args.run.now (omega (arith, c.items-test.false)) i))
    ∙ items_all c.args.depth c.args.run.now
