use Rattle.std.proofs.Common.{◌++◌, ap, ◌∙◌, subst}
use Rattle.std.specs.Option.{option_to_list}
use Rattle.rdl_nodes.specs.TypeStack.{Uncovers}
use Rattle.rdl_nodes.proofs.Defined.{popped}
use Rattle.rdl_nodes.proofs.types.Types.pop.Goals as goal

pub invariant_of-self-2 : goal.invariant_of-self-2
invariant_of-self-2 c =
    let last = c.in-Some.last in
    let old = c.args.self.now.places in
    let new = c.uncover.new.self in
    record {
      stack = popped c.args.self.now.list.items c.pop.new.self.items last old new
          (c.pop.ensures.items ∙ ap (λ o. c.pop.new.self.items ++ option_to_list o) c.in-Some.is)
          c.args.self.now.stack.0 c.args.self.now.stack.1
          (subst (λ name. Uncovers name last.hides old new) c.as_str.ensures c.uncover.ensures);
    }
