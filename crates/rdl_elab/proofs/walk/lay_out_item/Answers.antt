use Rattle.std.proofs.Common.{◌≡◌, [], ◌∷◌, take, Some, None, refl, ap, sym, subst}
use Rattle.std.specs.Option.{is_some}
use Rattle.rdl_tree.specs.View.{items_of}
use Rattle.rdl_scope.specs.Closed.{nothing, standing}
use Rattle.rdl_elab.specs.Finished.{IsFinished}
use Rattle.rdl_elab.specs.Stands.{made_at}
use Rattle.rdl_elab.proofs.Goings.{stands-first, first-room, own-room}
use Rattle.rdl_elab.proofs.Roots.{root-past, root-item}
use Rattle.rdl_elab.proofs.walk.lay_out_item.Goals as goal

pub returns-then-n-items-clause-there : goal.returns-then-n-items-clause-there
returns-then-n-items-clause-there c = sym (root-past c.args.description.now.items c.args.n c.as_slice-items.result.now c.as_slice-items.ensures c.if-n-items.true)

pub returns-in_default-clause-there : goal.returns-in_default-clause-there
returns-in_default-clause-there c =
    let xs = c.as_slice-items.result.now in
    sym (ap is_some (root-item c.args.description.now.items c.args.n xs (take c.args.n xs) c.index-items-n.result None c.as_slice-items.ensures refl c.if-n-items.false c.index-items-n.is (sym c.in_default.ensures)))

pub finish_behind-requires-clause-room : goal.finish_behind-requires-clause-room
finish_behind-requires-clause-room c =
    let xs = c.as_slice-items.result.now in
    first-room c.args.description.now.items xs (take c.args.n xs) c.args.n c.as_slice-items.ensures refl c.requires

pub finish_behind-requires-clause-inside : goal.finish_behind-requires-clause-inside
finish_behind-requires-clause-inside c =
    own-room c.args.description.now.items c.args.n c.as_slice-items.result.now c.index-items-n.result c.in-Some.component.now [] (c.args.n ∷ []) c.as_slice-items.ensures c.if-n-items.false c.index-items-n.is (sym c.in-Some.ensures) refl refl c.requires

pub returns-clause-there : goal.returns-clause-there
returns-clause-there c =
    let xs = c.as_slice-items.result.now in
    sym (ap is_some (root-item c.args.description.now.items c.args.n xs (take c.args.n xs) c.index-items-n.result (Some c.in-Some.component.now) c.as_slice-items.ensures refl c.if-n-items.false c.index-items-n.is (sym c.in-Some.ensures)))

pub returns-clause-finished : goal.returns-clause-finished
returns-clause-finished c = λ made is.
    let d = c.args.description.now.items in
    let xs = c.as_slice-items.result.now in
    let e = standing nothing [] 0 (items_of (take c.args.n xs)) in
    let found = root-item d c.args.n xs (take c.args.n xs) c.index-items-n.result (Some c.in-Some.component.now) c.as_slice-items.ensures refl c.if-n-items.false c.index-items-n.is (sym c.in-Some.ensures) in
    let same : made_at e (c.args.n ∷ []) c.in-Some.component.now ≡ made = cc (found, is) in
    subst (IsFinished d c.finish_behind.new.walk.components.items c.in_ok-number.number) same
    (c.in_ok-number.ensures (stands-first d c.in_ok-walk.walk c.in_ok-walk.ensures.types c.in_ok-walk.ensures.defaults))
