use Rattle.std.proofs.Common.{◌≡◌, ◌++◌, [], ◌∷◌, rules}
use Rattle.rdl_tree.proofs.Backs.{advanced}
use Rattle.rdl_tree.proofs.Held.{nothing_lent}
use Rattle.rdl_tree.proofs.walk.advance.Goals as goal

pub patches-preserved : goal.patches-preserved
patches-preserved c =
    let items : c.push.new.self.items ≡ c.patches.steps.items ++ c.in-Ok.step ∷ [] = search rules in record {
      way = c.follow.ensures.way _ _ (advanced c.patches.steps.items c.patches.steps.items _ c.in-Ok.step _ _ _ _ _ _ c.in-Some.patch c.in-Some.ensures.items c.in-Ok.ensures.applied (nothing_lent _ c.patches.steps.items) items c.patches.invariant.way);
      room = search rules;
      steps = search rules;
    }
