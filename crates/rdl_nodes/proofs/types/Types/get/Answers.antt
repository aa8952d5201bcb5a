use Rattle.std.proofs.Common.{◌≡◌, List, reverse, ap, sym, ◌∙◌, rules}
use Rattle.std.specs.Prelude.{Some, None, option_map, slice_get}
use Rattle.rdl_scope.specs.Closed.{lookup}
use Rattle.rdl_nodes.specs.declared.types.Defined.{Defined}
use Rattle.rdl_nodes.specs.HeldTypes.{held}
use Rattle.rdl_nodes.specs.TypeStack.{placed}
use Rattle.rdl_nodes.proofs.Defined.{type_found}
use Rattle.rdl_nodes.proofs.types.Types.get.Goals as goal

pub returns-in_err-place : goal.returns-in_err-place
returns-in_err-place c =
    let xs = c.args.self.now.list.items in
    let none : c.from_residual.result ≡ None = search rules in
    let there = c.get.ensures (placed (reverse xs)) c.args.self.now.stack.1 in
    let named = ap (λ n. lookup n (placed (reverse xs))) c.as_str.ensures in
    ap (option_map _) none ∙ sym (type_found xs c.args.name.now None (sym c.in_err-place.was ∙ there ∙ named))

pub returns : goal.returns
returns c =
    let xs = c.args.self.now.list.items in
    let place = c.in_ok-place.place in
    let there = c.get.ensures (placed (reverse xs)) c.args.self.now.stack.1 in
    let named = ap (λ n. lookup n (placed (reverse xs))) c.as_str.ensures in
    c.at.ensures
    ∙ ap (λ (ys : List Defined). option_map held (slice_get ys place)) c.as_slice.ensures.value
    ∙ sym (type_found xs c.args.name.now (Some place) (sym c.in_ok-place.was ∙ there ∙ named))
