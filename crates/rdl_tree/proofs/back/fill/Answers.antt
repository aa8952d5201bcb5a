use Rattle.std.proofs.Common.{◌≡◌, ◌++◌, [], ◌∷◌, length, refl, ap, rules, arith}
use Rattle.std.specs.Prelude.{vec_capacity}
use Rattle.rdl_tree.specs.View.{items_of}
use Rattle.rdl_tree.specs.Address.{holder_of, number_of}
use Rattle.rdl_tree.specs.Edit.{insert_item}
use Rattle.rdl_tree.specs.Gap.{around}
use Rattle.rdl_tree.specs.declared.patch.Patch.TheVariants.{Delete}
use Rattle.rdl_tree.proofs.Gaps.{all_in_front}
use Rattle.rdl_tree.proofs.Fills.{counted, moved, filled}
use Rattle.rdl_tree.proofs.back.fill.Goals as goal

pub move_in-front-requires-clause-within : goal.move_in-front-requires-clause-within
move_in-front-requires-clause-within c =
    let same : c.replace-behind.result.items ≡ c.body.inside.items.items = search rules in
    omega (arith, c.number.ensures, c.requires.within, ap length same, counted c.body.inside.items.items c.args.body.now c.body.view_is)

pub move_in-front-requires-clause-room : goal.move_in-front-requires-clause-room
move_in-front-requires-clause-room c =
    let same : c.replace-behind.result.items ≡ c.body.inside.items.items = search rules in
    omega (arith, c.requires.room, ap length same, counted c.body.inside.items.items c.args.body.now c.body.view_is)

pub returns-clause-way : goal.returns-clause-way
returns-clause-way c =
    let same : items_of c.replace-behind.result.items ≡ c.args.body.now = search rules in
    let more : c.push.new.self.items ≡ c.args.patches.now.items ++ Delete c.args.address ∷ [] = search rules in
    filled (holder_of c.args.address) c.holder-holder.result (vec_capacity c.args.room) (vec_capacity c.move_in-front.result) c.args.steps.now.items c.go_on.new.steps.items
    (c.args.patches.now.items ++ Delete c.args.address ∷ []) c.push.new.self.items c.go_on.new.patches.items
    (insert_item (number_of c.args.address) c.args.item c.args.body.now) (items_of c.pour.new.to.items) (around c.move_in-front.result.items c.move_in-front.new.items.items) (around c.go_on.new.front.items c.go_on.new.behind.items)
    c.holder-holder.ensures c.move_in-front.ensures.capacity more
    (moved c.move_in-front.result.items c.move_in-front.new.items.items c.replace-behind.result.items c.number.result (number_of c.args.address) c.args.item c.args.body.now c.move_in-front.ensures.none c.move_in-front.ensures.one_more c.number.ensures same)
    (all_in_front c.pour.new.to.items c.pour.new.from.items c.go_on.new.front.items c.go_on.new.behind.items (around c.go_on.new.front.items c.go_on.new.behind.items) c.pour.ensures.left c.pour.ensures.same refl)
    c.go_on.ensures.way
