-- The longest word at a place where a word stands is that word.
use Rattle.std.proofs.Common.{◌≡◌, ℕ, ◌+◌, ◌-◌, List, take, drop, sym, ◌∙◌, ap, subst, arith}
use Rattle.rdl_text.specs.Spelling.{IsSpelled}
use Rattle.rdl_text.specs.Word.{word}
use Rattle.rdl_text.proofs.Standing.{front_is, none_stands, cut_there}
use Rattle.rdl_text.proofs.cut.longest_at.Goals as goal

pub range-requires-clause-end_boundary : goal.range-requires-clause-end_boundary
range-requires-clause-end_boundary c =
    (cut_there c.args.text.now c.as_bytes.result.now c.args.start c.in-Some.front c.in-Ok.kind c.utf8.text c.as_bytes.ensures.value c.requires c.in-Some.ensures.word (sym c.in-Ok.is ∙ c.kind_of.ensures)).boundary

pub new-requires : goal.new-requires
new-requires c =
    let there = cut_there c.args.text.now c.as_bytes.result.now c.args.start c.in-Some.front c.in-Ok.kind c.utf8.text c.as_bytes.ensures.value c.requires c.in-Some.ensures.word (sym c.in-Ok.is ∙ c.kind_of.ensures) in
    let long : c.args.start + c.in-Some.front.len - c.args.start ≡ c.in-Some.front.len = omega arith in
    subst (λ (s : List ℕ). IsSpelled c.in-Ok.kind s) (sym (c.range.ensures.value ∙ ap (λ (n : ℕ). take n (drop c.args.start c.args.text.now)) long)) there.spelled

pub unreachable-requires : goal.unreachable-requires
unreachable-requires c =
    let is = (front_is c.args.text.now c.as_bytes.result.now c.args.start c.in-Some.front _ c.as_bytes.ensures.value c.requires c.in-Some.ensures.word c.kind_of.ensures).1 in
    let fault = c.in-Err.is in
    cc

pub unreachable-requires-in-None : goal.unreachable-requires-in-None
unreachable-requires-in-None c = none_stands c.args.text.now c.as_bytes.result.now c.args.start c.as_bytes.ensures.value c.requires c.in-None.ensures.word

pub returns : goal.returns
returns c =
    let there = cut_there c.args.text.now c.as_bytes.result.now c.args.start c.in-Some.front c.in-Ok.kind c.utf8.text c.as_bytes.ensures.value c.requires c.in-Some.ensures.word (sym c.in-Ok.is ∙ c.kind_of.ensures) in
    let long : c.args.start + c.in-Some.front.len - c.args.start ≡ c.in-Some.front.len = omega arith in
    c.new.ensures ∙ (ap (word c.in-Ok.kind c.args.start) (c.range.ensures.value ∙ ap (λ (n : ℕ). take n (drop c.args.start c.args.text.now)) long) ∙ there.is)
