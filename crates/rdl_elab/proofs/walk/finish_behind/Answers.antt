use Rattle.std.proofs.Common.{◌≡◌, List, [], ◌∷◌, ◌++◌, ℕ, length, ap, subst, ◌∙◌, arith, length-append}
use Rattle.std.proofs.lemmas.Result.{IfOk-weaker}
use Rattle.rdl_tree.specs.View.{items_of}
use Rattle.rdl_scope.specs.Closed.{Standing, nothing, standing}
use Rattle.rdl_elab.specs.Finished.{IsFinished}
use Rattle.rdl_elab.specs.Stands.{made_at, Stands}
use Rattle.rdl_elab.proofs.walk.finish_behind.Goals as goal

pub walk_items-requires-clause-room : goal.walk_items-requires-clause-room
walk_items-requires-clause-room c = omega (arith, ap length c.new-root.ensures, c.requires.room)

pub finish-requires-clause-room : goal.finish-requires-clause-room
finish-requires-clause-room c = omega (arith, ap length c.inside.ensures, length-append c.new-root.result (c.args.n ∷ []), ap length c.new-root.ensures, c.requires.inside)

pub returns : goal.returns
returns c =
    let d = c.args.description.now.items in
    let fs = c.finish.new.walk.components.items in
    let component = c.args.component.now in
    let e = standing nothing [] 0 (items_of c.args.items.now) in
    let at : c.inside.result ≡ c.args.n ∷ [] = c.inside.ensures ∙ ap (λ (r : List ℕ). r ++ c.args.n ∷ []) c.new-root.ensures in
    IfOk-weaker c.finish.result
    (λ k. (e : Standing) → Stands d c.walk_items.new.walk e → IsFinished d fs k (made_at e c.inside.result component))
    (λ k. Stands d c.args.walk.now nothing → IsFinished d fs k (made_at e (c.args.n ∷ []) component))
    (λ k made first.
    let after : Stands d c.walk_items.new.walk e =
    subst (λ (b : List ℕ). Stands d c.walk_items.new.walk (standing nothing b 0 (items_of c.args.items.now))) c.new-root.ensures (c.in_ok-walk_items.ensures.stands nothing first) in
    subst (λ (a : List ℕ). IsFinished d fs k (made_at e a component)) at (made e after))
    c.finish.ensures.made
