use Rattle.std.proofs.Common.{refl}
use Rattle.rdl_tree.specs.Gap.{around}
use Rattle.rdl_tree.proofs.Gaps.{put_in_front}
use Rattle.rdl_tree.proofs.back.put_between.Goals as goal

pub returns-clause-after : goal.returns-clause-after
returns-clause-after c =
    put_in_front c.come_near.new.front.items c.insert.new.self.items c.come_near.new.behind.items c.args.front.now.items c.args.behind.now.items c.args.number c.args.item (around c.args.front.now.items c.args.behind.now.items)
    c.come_near.ensures.there c.come_near.ensures.same c.in-Ok.ensures.items refl
