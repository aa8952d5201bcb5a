use Rattle.std.proofs.Common.{◌≡◌, ◌≤◌, ◌-◌, ◌++◌, ◌∷◌, [], ◌∙◌, ap, subst, sym, drop, length, option_copied, string_bytes, arith}
use Rattle.std.specs.Prelude.{OnOk}
use Rattle.std.specs.Option.{option_to_list}
use Rattle.rdl_list.specs.ListText.{path_text}
use Rattle.rdl_list.proofs.Paths.{one_gone, none_gone, left_out, all_left_out}
use Rattle.rdl_list.proofs.line.push_path.Goals as goal

pub left_out-preserved : goal.left_out-preserved
left_out-preserved c =
    let one = one_gone c.next.result c.left_out.passed c.names-around.result c.left_out.around c.next.new.self c.if-is_none.ensures c.next.ensures c.left_out.invariant.1 in
    (c.left_out.invariant.0, one.0, one.1)

pub returns-then-is_none : goal.returns-then-is_none
returns-then-is_none c =
    let path = c.parts-parts.result in
    let register = option_to_list (option_copied path.register) in
    let ends = path.last.now ∷ [] in
    let none = none_gone c.next.result c.left_out.around c.next.new.self c.if-is_none.ensures c.next.ensures in
    subst (λ names. OnOk c.push_end.result (string_bytes c.push_end.new.text ≡ string_bytes c.args.text.now ++ path_text names))
    (all_left_out c.args.left_out c.left_out.passed c.names-around.result register ends (sym none ∙ c.left_out.invariant.1) c.left_out.invariant.2 c.left_out-test.true
    ∙ ap (λ around. drop c.args.left_out ((around ++ register) ++ ends)) c.names-around.ensures
    ∙ ap (drop c.args.left_out) (sym c.parts-parts.ensures))
    (subst (λ text. OnOk c.push_end.result (string_bytes c.push_end.new.text ≡ text ++ path_text (drop (c.args.left_out - c.left_out.passed) (register ++ ends)))) c.left_out.invariant.0 c.push_end.ensures)

pub returns : goal.returns
returns c =
    let path = c.parts-parts.result in
    let register = option_to_list (option_copied path.register) in
    let ends = path.last.now ∷ [] in
    let names = c.names-around.result in
    let all : c.left_out.passed ≡ c.args.left_out = omega arith in
    let inside : c.args.left_out ≤ length names = omega arith in
    subst (λ names. OnOk c.push_names.result (string_bytes c.push_names.new.text ≡ string_bytes c.args.text.now ++ path_text names))
    (left_out c.args.left_out names c.left_out.around register ends (c.left_out.invariant.1 ∙ ap (λ k. drop k names) all) inside
    ∙ ap (λ around. drop c.args.left_out ((around ++ register) ++ ends)) c.names-around.ensures
    ∙ ap (drop c.args.left_out) (sym c.parts-parts.ensures))
    (subst (λ text. OnOk c.push_names.result (string_bytes c.push_names.new.text ≡ text ++ path_text ((c.left_out.around ++ register) ++ ends))) c.left_out.invariant.0 c.push_names.ensures)
