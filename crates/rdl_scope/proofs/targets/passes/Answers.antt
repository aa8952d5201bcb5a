use Rattle.std.proofs.Common.{◌∷◌, [], ◌++◌, ◌+◌, Some, drop, ap, sym, ◌∙◌}
use Rattle.rdl_scope.specs.Target.{passes}
use Rattle.rdl_scope.proofs.Passing.{after, passed_all, met_none, met_last, met_more}
use Rattle.rdl_scope.proofs.targets.passes.Goals as goal

pub returns : goal.returns
returns c =
    sym (c.loop-i.invariant ∙ passed_all c.args.description.now.items c.loop-i.here c.loop-i.before c.args.names.now c.loop-i.path.items c.loop-i.i c.loop-i-test.false)

pub returns-in_default : goal.returns-in_default
returns-in_default c =
    sym (c.loop-i.invariant
    ∙ met_none c.args.description.now.items c.loop-i.here c.loop-i.before c.args.names.now c.loop-i.path.items c.loop-i.i c.index-names-i.result
    c.loop-i-test.true c.index-names-i.is (sym c.instance_in.ensures ∙ c.in_default.is))

pub returns-then-i-names : goal.returns-then-i-names
returns-then-i-names c =
    let path = c.loop-i.path.items in
    ap Some (c.in_ok-push.ensures.items ∙ ap (λ a. path ++ a ∷ []) c.copy.ensures)
    ∙ sym (c.loop-i.invariant
    ∙ met_last c.args.description.now.items c.loop-i.here c.loop-i.before c.args.names.now path c.loop-i.i c.index-names-i.result c.in-Some.instance
    c.loop-i-test.true c.index-names-i.is c.if-i-names.true (sym c.instance_in.ensures ∙ c.in-Some.is))

pub returns-in_default-component_of : goal.returns-in_default-component_of
returns-in_default-component_of c =
    sym (c.loop-i.invariant
    ∙ met_more c.args.description.now.items c.loop-i.here c.loop-i.before c.args.names.now c.loop-i.path.items c.loop-i.i c.index-names-i.result c.in-Some.instance _
    c.loop-i-test.true c.index-names-i.is c.if-i-names.false (sym c.instance_in.ensures ∙ c.in-Some.is) (sym c.component_of.ensures ∙ c.in_default-component_of.is))

pub loop-i-preserved : goal.loop-i-preserved
loop-i-preserved c =
    let d = c.args.description.now.items in
    let path = c.loop-i.path.items in
    let inside = c.in-Some-component_of.component in
    let rest = drop (c.loop-i.i + 1) c.args.names.now in
    c.loop-i.invariant
    ∙ met_more d c.loop-i.here c.loop-i.before c.args.names.now path c.loop-i.i c.index-names-i.result c.in-Some.instance _
    c.loop-i-test.true c.index-names-i.is c.if-i-names.false (sym c.instance_in.ensures ∙ c.in-Some.is) (sym c.component_of.ensures ∙ c.in-Some-component_of.is)
    ∙ ap (λ k. after (path ++ c.in-Some.instance ∷ []) (passes d inside k rest)) (sym c.items_in-before.ensures)
    ∙ ap (λ p. after p (passes d inside c.items_in-before.result rest)) (sym (c.in_ok-push.ensures.items ∙ ap (λ a. path ++ a ∷ []) c.copy.ensures))
