use Rattle.std.proofs.Common.{◌≡◌, ◌∷◌, ◌++◌, [], cond, Some, ap, sym, ◌∙◌, option_map}
use Rattle.std.specs.Prelude.{bytes_eq}
use Rattle.std.specs.Option.{is_some}
use Rattle.rdl_tree.specs.ItemAt.{item_at}
use Rattle.rdl_tree.specs.View.{list_of}
use Rattle.rdl_tree.specs.Properties.{property_of}
use Rattle.rdl_tree.specs.declared.description.Item.TheVariants.{Instance}
use Rattle.rdl_scope.specs.Keys.{key_before}
use Rattle.rdl_scope.specs.ItemFaults.{dynamic_fault, item_fault, reached_before, target_kind}
use Rattle.rdl_scope.specs.Scopes.{number_under, scope_found, place_under, place_put, along_place}
use Rattle.rdl_scope.proofs.Levelled.{item-deeper}
use Rattle.rdl_scope.proofs.Repeats.{dynamic-key}
use Rattle.rdl_scope.proofs.Known.{know-define, know-instance, know-own, know-default, know-dynamic, place-component, met-instance}
use Rattle.rdl_scope.proofs.faults.item_fault.Goals as goal

pub returns-in-Define-clause-passed : goal.returns-in-Define-clause-passed
returns-in-Define-clause-passed c = λ none.
    know-define c.args.description.now.items c.args.at.now c.args.body.now c.args.n c.args.passed.now c.in-Define.name c.in-Define.component
    c.requires.here (c.requires.item ∙ ap Some c.in-Define.is) c.requires.passed

pub returns-in_ok-twice-in-Instance-clause-fault :
    goal.returns-in_ok-twice-in-Instance-clause-fault
unfolding item_fault
returns-in_ok-twice-in-Instance-clause-fault c =
    let d = c.args.description.now.items in
    let b = c.args.at.now in
    let n = c.args.n in
    let s = c.in-Instance.shell in
    let o = c.in-Instance.of in
    let stands : item_at (b ++ n ∷ []) d ≡ Some (Instance s o) = item-deeper b n d c.args.body.now c.requires.here ∙ c.requires.item ∙ ap Some c.in-Instance.is in
    c.instance_fault.ensures
    ∙ met-instance d c.args.around b c.args.body.now n c.args.passed.now s o c.place_of-place.result c.kind_of-kind.result c.in_ok-twice-in-Instance.twice
    stands (ap (option_map (along_place b)) c.place_of-place.ensures ∙ place-component d b n s o (scope_found c.args.levels.now c.args.definitions.now) stands c.requires.scope)
    c.kind_of-kind.ensures (c.in_ok-twice-in-Instance.ensures.twice ∙ ap (λ q. is_some (place_under c.args.passed.now.places q)) (c.as_str-in-Instance.ensures ∙ c.name.ensures)) c.requires.passed
    ∙ sym (ap (item_fault d c.args.around b c.args.body.now n) c.in-Instance.is)

pub returns-in_ok-twice-in-Instance-clause-passed :
    goal.returns-in_ok-twice-in-Instance-clause-passed
returns-in_ok-twice-in-Instance-clause-passed c = λ none.
    let d = c.args.description.now.items in
    let b = c.args.at.now in
    let n = c.args.n in
    let s = c.in-Instance.shell in
    let o = c.in-Instance.of in
    let got = c.requires.item ∙ ap Some c.in-Instance.is in
    let stands : item_at (b ++ n ∷ []) d ≡ Some (Instance s o) = item-deeper b n d c.args.body.now c.requires.here ∙ got in
    let leads = ap (option_map (along_place b)) c.place_of-place.ensures ∙ place-component d b n s o (scope_found c.args.levels.now c.args.definitions.now) stands c.requires.scope in
    know-instance d c.args.around b c.args.body.now n c.args.passed.now s o c.place_of-place.result c.note.new.self c.requires.here got leads
    (sym (c.instance_fault.ensures
    ∙ met-instance d c.args.around b c.args.body.now n c.args.passed.now s o c.place_of-place.result c.kind_of-kind.result c.in_ok-twice-in-Instance.twice stands leads
    c.kind_of-kind.ensures (c.in_ok-twice-in-Instance.ensures.twice ∙ ap (λ q. is_some (place_under c.args.passed.now.places q)) (c.as_str-in-Instance.ensures ∙ c.name.ensures)) c.requires.passed) ∙ none)
    (λ q. c.in_ok-twice-in-Instance.ensures.noted q ∙ ap (λ m. place_put m q c.place_of-place.result (place_under c.args.passed.now.places q)) (c.as_str-in-Instance.ensures ∙ c.name.ensures))
    c.requires.passed

pub returns-in_ok-twice-in-Own-clause-passed : goal.returns-in_ok-twice-in-Own-clause-passed
returns-in_ok-twice-in-Own-clause-passed c = λ none.
    know-own c.args.description.now.items c.args.at.now c.args.body.now c.args.n c.args.passed.now c.in-Own.name c.in-Own.value c.note-in-Own.new.self
    c.requires.here (c.requires.item ∙ ap Some c.in-Own.is) (λ q. c.in_ok-twice-in-Own.ensures.noted q ∙ ap (λ m. cond (bytes_eq m q) (Some c.args.n) (number_under c.args.passed.now.owns q)) c.as_str-in-Own-2.ensures) c.requires.passed

pub returns-in_ok-twice-in-Default-clause-passed :
    goal.returns-in_ok-twice-in-Default-clause-passed
returns-in_ok-twice-in-Default-clause-passed c = λ none.
    know-default c.args.description.now.items c.args.at.now c.args.body.now c.args.n c.args.passed.now c.in-Default.name c.in-Default.value c.note-in-Default.new.self
    c.requires.here (c.requires.item ∙ ap Some c.in-Default.is) (λ q. c.in_ok-twice-in-Default.ensures.noted q ∙ ap (λ m. cond (bytes_eq m q) (Some c.args.n) (number_under c.args.passed.now.defaults q)) c.as_str-in-Default.ensures) c.requires.passed

pub returns-in_ok-twice-in-Dynamic-clause-fault : goal.returns-in_ok-twice-in-Dynamic-clause-fault
unfolding item_fault
returns-in_ok-twice-in-Dynamic-clause-fault c =
    let d = c.args.description.now.items in
    let b = c.args.at.now in
    let body = c.args.body.now in
    let n = c.args.n in
    let t = c.in-Dynamic.target in
    let name = c.in-Dynamic.name in
    let v = c.in-Dynamic.value in
    let kind = c.in_ok-kind-in-Dynamic.kind in
    let reached = reached_before t name n body in
    c.dynamic_fault.ensures
    ∙ ap (λ z. dynamic_fault z c.property-in-Dynamic.result v kind)
    (c.in_ok-twice-in-Dynamic.ensures.twice (λ key. key_before key n (list_of body)) c.requires.passed.dynamics ∙ dynamic-key t name n body)
    ∙ ap (λ p. dynamic_fault reached p v kind) (c.property-in-Dynamic.ensures ∙ ap property_of c.as_str-in-Dynamic.ensures)
    ∙ ap (dynamic_fault reached (property_of name) v) (c.in_ok-kind-in-Dynamic.ensures.kind ∙ ap (target_kind d b n) c.names-names.ensures)
    ∙ sym (ap (item_fault d c.args.around b body n) c.in-Dynamic.is)

pub returns-in_ok-twice-in-Dynamic-clause-passed :
    goal.returns-in_ok-twice-in-Dynamic-clause-passed
returns-in_ok-twice-in-Dynamic-clause-passed c = λ none.
    let body = c.args.body.now in
    let n = c.args.n in
    know-dynamic c.args.description.now.items c.args.at.now body n c.args.passed.now c.in-Dynamic.target c.in-Dynamic.name c.in-Dynamic.value c.note-in-Dynamic.new.self
    c.requires.here (c.requires.item ∙ ap Some c.in-Dynamic.is)
    (c.in_ok-twice-in-Dynamic.ensures.noted (λ key. key_before key n (list_of body)) c.requires.passed.dynamics)
    c.requires.passed
