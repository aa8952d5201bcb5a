use Rattle.std.proofs.Common.{sym, ◌∙◌}
use Rattle.rdl_elab.proofs.Onward.{none-behind}
use Rattle.rdl_elab.proofs.walk.reaches.Onward.put_behind.Goals as goal

pub returns-then-first-self : goal.returns-then-first-self
returns-then-first-self c = λ reaching h.
    c.clear.ensures.items ∙ sym (none-behind c.args.self.now c.args.part.now.at c.place.result c.first_under-first.result c.place.ensures c.first_under-first.ensures c.if-first-self.true reaching h)
