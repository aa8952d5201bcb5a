use Rattle.std.proofs.Common.{sym, ◌∙◌}
use Rattle.rdl_rewrite.proofs.FirstInstances.{first-put}
use Rattle.rdl_rewrite.proofs.firsts.Firsts.put.Goals as goal

pub returns-in_ok-put-in-None : goal.returns-in_ok-put-in-None
returns-in_ok-put-in-None c = λ q.
    c.in_ok-put-in-None.ensures.after q
    ∙ first-put c.args.self.now c.args.name.now q (c.args.number, c.args.is_inside) (sym c.get.ensures ∙ c.in-None.is)
