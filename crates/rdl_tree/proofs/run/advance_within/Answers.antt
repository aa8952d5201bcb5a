use Rattle.std.proofs.Common.{◌≡◌, ◌++◌, [], ◌∷◌, refl, rules}
use Rattle.rdl_tree.proofs.Runs.{stays_within, same_left, advanced_within, still_within}
use Rattle.rdl_tree.proofs.run.advance_within.Goals as goal

pub patches-init : goal.patches-init
patches-init c = record {
  way = stays_within c.args.holder.now c.args.steps.now.items c.args.patches.now.items c.args.gap.now c.args.gap.now refl;
  less = search rules;
  room = c.requires.room;
  steps = c.requires.steps;
}

pub patches-preserved : goal.patches-preserved
patches-preserved c =
    let items : c.push.new.self.items ≡ c.apply_within.new.steps.items ++ c.in-Ok.step ∷ [] = search rules in record {
      way = advanced_within c.args.holder.now c.args.steps.now.items c.patches.steps.items c.apply_within.new.steps.items c.push.new.self.items c.in-Ok.step c.args.patches.now.items c.patches.patches.items c.pop.new.self.items c.in-Some.patch c.args.gap.now c.patches.gap c.apply_within.new.gap
          c.in-Some.ensures.items c.in-Ok.ensures.applied c.in-Ok.ensures.lent items c.patches.invariant.way;
      less = search rules;
      room = search rules;
      steps = search rules;
    }

pub returns-in-Err-clause-way : goal.returns-in-Err-clause-way
returns-in-Err-clause-way c =
    let items : c.push-in-Err.new.self.items ≡ c.pop.new.self.items ++ c.in-Err.same ∷ [] = search rules in
    still_within c.args.holder.now c.args.steps.now.items c.patches.steps.items c.apply_within.new.steps.items c.args.patches.now.items c.patches.patches.items c.pop.new.self.items c.push-in-Err.new.self.items c.in-Some.patch c.in-Err.same c.args.gap.now c.patches.gap c.apply_within.new.gap
    c.in-Some.ensures.items items c.in-Err.ensures.refused c.in-Err.ensures.stays c.in-Err.ensures.keeps c.patches.invariant.way

pub returns-clause-way : goal.returns-clause-way
returns-clause-way c =
    let items : c.pop.new.self.items ≡ c.patches.patches.items = search rules in
    same_left c.args.holder.now c.args.steps.now.items c.patches.steps.items c.args.patches.now.items c.patches.patches.items c.pop.new.self.items c.args.gap.now c.patches.gap items c.patches.invariant.way
