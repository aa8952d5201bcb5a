use Rattle.std.proofs.Common.{◌≡◌, ◌-◌, ◌≤◌, List, length, drop, reverse, ℕ, ap, ◌∙◌, sym, subst}
use Rattle.rdl_tree.specs.declared.value.Value.{Value}
use Rattle.rdl_elab.specs.declared.walk.defaults.Default.{Default}
use Rattle.rdl_elab.specs.DefaultStacks.{pairs, AreStacked}
use Rattle.rdl_elab.proofs.DefaultStacks.{stack-shorter, stacked-shorter}
use Rattle.rdl_elab.proofs.walk.defaults.Defaults.truncate.Goals as goal

pub returns : goal.returns
returns c =
    let view : pairs (reverse c.self.inside.items.items) ≡ c.args.self.now = c.self.view_is in
    ap (λ (xs : List Default). pairs (reverse xs)) c.truncate.ensures.items
    ∙ stack-shorter c.args.len c.self.inside.items.items (subst (λ (v : List (List ℕ × Value)). c.args.len ≤ length v) (sym view) c.requires)
    ∙ ap (λ (v : List (List ℕ × Value)). drop (length v - c.args.len) v) view

pub invariant_of-self : goal.invariant_of-self
invariant_of-self c =
    let view : pairs (reverse c.self.inside.items.items) ≡ c.args.self.now = c.self.view_is in
    subst (λ (xs : List Default). AreStacked (reverse xs)) (sym c.truncate.ensures.items)
    (stacked-shorter c.args.len c.self.inside.items.items (subst (λ (v : List (List ℕ × Value)). c.args.len ≤ length v) (sym view) c.requires) c.self.invariant)
