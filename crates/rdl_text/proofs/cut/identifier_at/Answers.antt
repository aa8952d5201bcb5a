-- A word that begins with a letter ends behind the last byte in a row that an identifier goes on with.
use Rattle.std.proofs.Common.{◌≡◌, ℕ, ◌+◌, ◌-◌, List, take, drop, sym, ◌∙◌, ap, subst, arith}
use Rattle.rdl_text.specs.Spelling.{IsSpelled}
use Rattle.rdl_text.specs.Word.{word}
use Rattle.rdl_text.specs.declared.token.TokenKind.TheVariants as kinds
use Rattle.rdl_text.proofs.Standing.{letter_cut}
use Rattle.rdl_text.proofs.cut.identifier_at.Goals as goal

pub range-requires-clause-end_boundary : goal.range-requires-clause-end_boundary
range-requires-clause-end_boundary c =
    (letter_cut c.args.text.now c.as_bytes.result.now c.args.start _ c.utf8.text c.as_bytes.ensures.value c.requires.stands c.requires.letter (ap (λ (n : ℕ). 1 + n) c.run_len-len.ensures.len)).boundary

pub new-requires : goal.new-requires
new-requires c =
    let there = letter_cut c.args.text.now c.as_bytes.result.now c.args.start _ c.utf8.text c.as_bytes.ensures.value c.requires.stands c.requires.letter (ap (λ (n : ℕ). 1 + n) c.run_len-len.ensures.len) in
    let long : c.args.start + (1 + c.run_len-len.result) - c.args.start ≡ 1 + c.run_len-len.result = omega arith in
    subst (λ (s : List ℕ). IsSpelled kinds.Identifier s) (sym (c.range.ensures.value ∙ ap (λ (n : ℕ). take n (drop c.args.start c.args.text.now)) long)) there.spelled

pub returns : goal.returns
returns c =
    let there = letter_cut c.args.text.now c.as_bytes.result.now c.args.start _ c.utf8.text c.as_bytes.ensures.value c.requires.stands c.requires.letter (ap (λ (n : ℕ). 1 + n) c.run_len-len.ensures.len) in
    let long : c.args.start + (1 + c.run_len-len.result) - c.args.start ≡ 1 + c.run_len-len.result = omega arith in
    c.new.ensures ∙ (ap (word kinds.Identifier c.args.start) (c.range.ensures.value ∙ ap (λ (n : ℕ). take n (drop c.args.start c.args.text.now)) long) ∙ there.is)
