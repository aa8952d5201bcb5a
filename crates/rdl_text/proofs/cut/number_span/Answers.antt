-- The number in front is the longest word, and is judged by its row.
use Rattle.std.proofs.Common.{Result, Some, sym, ◌∙◌, ap}
use Rattle.rdl_text.specs.Front.{span_of, judged_front}
use Rattle.rdl_text.specs.Words.{judged}
use Rattle.rdl_text.specs.declared.fault.WordFault.{WordFault}
use Rattle.rdl_text.specs.declared.token.TokenKind.{TokenKind}
use Rattle.rdl_text.proofs.Fronts.{digit_span}
use Rattle.rdl_text.proofs.cut.number_span.Goals as goal

pub returns-in-Ok : goal.returns-in-Ok
returns-in-Ok c =
    let s = c.args.bytes.now in
    let front = c.in-Some.front in
    sym (digit_span s (Some (judged_front s front)) c.requires c.in-Some.ensures.word
    ∙ ap (λ (k : Result TokenKind WordFault). span_of (judged front.len k)) (sym c.kind_of.ensures ∙ c.in-Ok.is))

pub returns-in-Err : goal.returns-in-Err
returns-in-Err c =
    let s = c.args.bytes.now in
    let front = c.in-Some.front in
    sym (digit_span s (Some (judged_front s front)) c.requires c.in-Some.ensures.word
    ∙ ap (λ (k : Result TokenKind WordFault). span_of (judged front.len k)) (sym c.kind_of.ensures ∙ c.in-Err.is))

pub returns-in-Some : goal.returns-in-Some
returns-in-Some c =
    let s = c.args.bytes.now in
    let front = c.in-Some.front in
    let small = c.is_small.ensures c.if-is_small.true s c.in-Some.ensures.inside in
    sym (digit_span s (Some (judged_front s front)) c.requires c.in-Some.ensures.word
    ∙ ap (λ (k : Result TokenKind WordFault). span_of (judged front.len k)) small.1)
