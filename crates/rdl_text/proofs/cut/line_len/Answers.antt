use Rattle.std.proofs.Common.{◌≡◌, List, ℕ, sym, ap, ◌∙◌, refl, arith, length}
use Rattle.std.proofs.lemmas.List.{length-drop}
use Rattle.std.specs.List.{prefix_len}
use Rattle.rdl_text.specs.Words.{is_in_line}
use Rattle.rdl_text.proofs.Cutting.{tail}
use Rattle.rdl_text.proofs.Lines.{line-whole, line-up_to}
use Rattle.rdl_text.proofs.cut.line_len.Goals as goal

pub returns-in-Some-clause-len : goal.returns-in-Some-clause-len
returns-in-Some-clause-len c =
    let s = c.args.bytes.now in
    sym (line-up_to _ c.in-Some.len c.in-Some.ensures.0 c.in-Some.ensures.1) ∙ ap (prefix_len is_in_line) (tail s s 2 refl)

pub returns-in-Some-clause-within : goal.returns-in-Some-clause-within
returns-in-Some-clause-within c =
    let s = c.args.bytes.now in
    omega (arith, c.in-Some.ensures.0.high, ap (λ (u : List ℕ). length u) (tail s s 2 refl), length-drop 2 s, c.requires)

pub returns-in-None-clause-len : goal.returns-in-None-clause-len
returns-in-None-clause-len c =
    let s = c.args.bytes.now in
    sym (line-whole _ c.in-None.ensures) ∙ ap (prefix_len is_in_line) (tail s s 2 refl)
