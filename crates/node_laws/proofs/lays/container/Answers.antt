use Rattle.std.proofs.Common.{◌∙◌}
use Rattle.rdl_elab.specs.Placing.{with_behind}
use Rattle.rdl_nodes.specs.Part.{member_of}
use Rattle.node_laws.specs.Laying.{placement_under}
use Rattle.node_laws.proofs.Placed.{one_placed, all_placed}
use Rattle.node_laws.proofs.lays.container.Goals as goal

pub loop-part-preserved : goal.loop-part-preserved
loop-part-preserved c =
    let old = c.loop-part.placing in
    let new = c.put_next.new.placing in
    let inv = c.loop-part.invariant in
    record {
      around = c.put_next.ensures.alignment ∙ inv.around;
      inside = c.put_next.ensures.mode ∙ inv.inside;
      left = one_placed (λ p. placement_under c.args.mode (member_of p)) c.loop-part.part-index c.args.parts.now _ (λ xs. with_behind old xs) (λ xs. with_behind new xs)
          c.part-item.result c.loop-part-test.true c.part-item.is c.in_ok-put_next.ensures.one inv.left;
    }

pub returns : goal.returns
returns c =
    c.layout.ensures
    ∙ all_placed (λ p. placement_under c.args.mode (member_of p)) c.loop-part.part-index c.args.parts.now _ (λ xs. with_behind c.loop-part.placing xs) c.loop-part-test.false c.loop-part.invariant.left
