use Rattle.std.proofs.Common.{◌++◌, ap, ◌∙◌, subst, reverse}
use Rattle.std.specs.Prelude.{OnOk, OnErr}
use Rattle.std.specs.Option.{option_to_list}
use Rattle.rdl_elab.specs.TypeStacks.{pairs, Uncovers, Lacks}
use Rattle.rdl_elab.proofs.TypeStacks.{popped}
use Rattle.rdl_elab.proofs.walk.types.Types.pop.Goals as goal

pub invariant_of-self-2 : goal.invariant_of-self-2
invariant_of-self-2 c =
    let left = popped c.self.inside.items.items c.pop.new.self.items c.in-Some.nearest c.self.inside.nearest c.uncover.new.self
    (c.pop.ensures.items ∙ ap (λ o. c.pop.new.self.items ++ option_to_list o) c.in-Some.is)
    c.self.invariant.0 c.self.invariant.1 c.uncover.result
    (subst (λ name. OnOk c.uncover.result (Uncovers name c.in-Some.nearest.hidden c.self.inside.nearest c.uncover.new.self)) c.as_str.ensures c.uncover.ensures.ok)
    (subst (λ name. OnErr c.uncover.result (Lacks name c.self.inside.nearest)) c.as_str.ensures c.uncover.ensures.err)
    in
    (left.0, left.1, c.nothing-self-inside.ensures (pairs (reverse c.pop.new.self.items)))
