use Rattle.std.proofs.Common.{◌≡◌, ◌+◌, ◌++◌, [], ◌∷◌, length, refl, rules}
use Rattle.std.specs.Prelude.{vec_capacity}
use Rattle.rdl_tree.specs.Way.{held_at}
use Rattle.rdl_tree.specs.Gap.{around}
use Rattle.rdl_tree.proofs.Fills.{begun, one_more, stopped, ended, around-count}
use Rattle.rdl_tree.proofs.back.go_on.Goals as goal

pub steps-init : goal.steps-init
steps-init c = record {
  way = begun c.args.holder.now (held_at c.args.holder.now (vec_capacity c.args.front.now)) c.args.steps.now.items c.args.patches.now.items (around c.args.front.now.items c.args.behind.now.items) _ refl;
  room = c.requires.room;
  less = search rules;
  patches = c.requires.patches;
}

pub steps-preserved : goal.steps-preserved
steps-preserved c =
    let items : c.push.new.self.items ≡ c.steps.patches.items ++ c.in-Ok.patch ∷ [] = search rules in record {
      way = one_more c.args.holder.now (held_at c.args.holder.now (vec_capacity c.args.front.now)) (length c.steps.front.items + length c.steps.behind.items) (vec_capacity c.steps.front) (vec_capacity c.put_again.new.front)
          c.args.steps.now.items c.steps.steps.items c.pop.new.self.items c.in-Some.step c.args.patches.now.items c.steps.patches.items c.push.new.self.items c.in-Ok.patch
          (around c.args.front.now.items c.args.behind.now.items) (around c.steps.front.items c.steps.behind.items) (around c.put_again.new.front.items c.put_again.new.behind.items)
          c.in-Some.ensures.items c.in-Ok.ensures.fits c.in-Ok.ensures.capacity c.in-Ok.ensures.taken items c.steps.invariant.way;
      room = search rules;
      less = search rules;
      patches = search rules;
    }

pub returns-in-Err-clause-way : goal.returns-in-Err-clause-way
returns-in-Err-clause-way c =
    let items : c.push-in-Err.new.self.items ≡ c.pop.new.self.items ++ c.in-Err.same ∷ [] = search rules in
    stopped c.args.holder.now (held_at c.args.holder.now (vec_capacity c.args.front.now)) (length c.steps.front.items + length c.steps.behind.items) (vec_capacity c.steps.front)
    c.args.steps.now.items c.steps.steps.items c.pop.new.self.items c.push-in-Err.new.self.items c.in-Some.step c.in-Err.same c.args.patches.now.items c.steps.patches.items
    (around c.args.front.now.items c.args.behind.now.items) (around c.steps.front.items c.steps.behind.items) (around c.put_again.new.front.items c.put_again.new.behind.items)
    c.in-Some.ensures.items items c.in-Err.ensures.refused c.in-Err.ensures.stays (around-count c.steps.front.items c.steps.behind.items) c.in-Err.ensures.unfit c.steps.invariant.way

pub returns-clause-way : goal.returns-clause-way
returns-clause-way c =
    let same : c.pop.new.self.items ≡ c.steps.steps.items = search rules in
    let none : c.steps.steps.items ≡ [] = search rules in
    ended c.args.holder.now (held_at c.args.holder.now (vec_capacity c.args.front.now)) (held_at c.args.holder.now (vec_capacity c.steps.front)) c.args.steps.now.items c.steps.steps.items c.pop.new.self.items c.args.patches.now.items c.steps.patches.items
    (around c.args.front.now.items c.args.behind.now.items) (around c.steps.front.items c.steps.behind.items) same none c.steps.invariant.way
