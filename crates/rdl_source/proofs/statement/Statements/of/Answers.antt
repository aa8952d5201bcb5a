-- What has been read up to the end is the whole text.
use Rattle.std.proofs.Common.{◌∙◌, sym, ap, Some, length, subst, arith, IfSome, take_all}
use Rattle.std.proofs.lemmas.Slice.{between_from_start}
use Rattle.rdl_source.specs.declared.gap.Left.TheVariants.{Begin}
use Rattle.rdl_source.specs.declared.lay.Body.{Body}
use Rattle.rdl_source.specs.LaidOut.{Lie, IsLaidOut}
use Rattle.rdl_source.specs.Only.{IsBody}
use Rattle.rdl_source.proofs.One.{no_body}
use Rattle.rdl_source.proofs.Whole.{laid_out, laid_whole}
use Rattle.rdl_source.proofs.statement.Statements.of.Goals as goal

pub returns-clause-laid : goal.returns-clause-laid
returns-clause-laid c =
    let ws = c.args.words.now in
    let ps = c.args.places.now in
    let body = c.in-Some.body in
    let bytes = c.as_bytes.result.now in
    let lie : Lie bytes ws body.statements Begin 0 body.begin 0 ps body.close body.word =
    subst (λ o. IfSome o (λ (b : Body). Lie bytes ws b.statements Begin 0 b.begin 0 ps b.close b.word)) c.in-Some.is c.in_ok-body.ensures.lie in
    subst (λ s. IsLaidOut s ws ps body.statements) c.as_bytes.ensures.value
    (laid_out bytes ws body.statements body.begin ps body.close body.word lie c.if-body-ne0.false (c.if-body-len.false ∙ c.len.ensures))

pub returns-clause-text : goal.returns-clause-text
returns-clause-text c =
    let text = c.args.text.now in
    laid_whole text c.args.words.now c.args.places.now c.in-Some.body.statements (returns-clause-laid c)
    ∙ (between_from_start text (length text) ∙ take_all (length text) text (omega arith))

pub returns-in_default-clause-only : goal.returns-in_default-clause-only
returns-in_default-clause-only c laid h deep =
    let bytes = c.as_bytes.result.now in
    let ws = c.args.words.now in
    let lie = subst (λ s. IsLaidOut s ws c.args.places.now laid) (sym c.as_bytes.ensures.value) h in
    absurd (no_body c.in_ok-body.field-0 laid 0 (length bytes) (length ws) c.in_default.not-Some (c.in_ok-body.ensures.only laid 0 (length bytes) (length ws) lie deep))

pub returns-then-body-ne0-clause-only : goal.returns-then-body-ne0-clause-only
returns-then-body-ne0-clause-only c laid h deep =
    let bytes = c.as_bytes.result.now in
    let ws = c.args.words.now in
    let lie = subst (λ s. IsLaidOut s ws c.args.places.now laid) (sym c.as_bytes.ensures.value) h in
    let is = subst (λ o. IsBody o laid 0 (length bytes) (length ws)) c.in-Some.is (c.in_ok-body.ensures.only laid 0 (length bytes) (length ws) lie deep) in
    absurd (c.if-body-ne0.true is.1)

pub returns-then-body-len-clause-only : goal.returns-then-body-len-clause-only
returns-then-body-len-clause-only c laid h deep =
    let bytes = c.as_bytes.result.now in
    let ws = c.args.words.now in
    let lie = subst (λ s. IsLaidOut s ws c.args.places.now laid) (sym c.as_bytes.ensures.value) h in
    let is = subst (λ o. IsBody o laid 0 (length bytes) (length ws)) c.in-Some.is (c.in_ok-body.ensures.only laid 0 (length bytes) (length ws) lie deep) in
    absurd (c.if-body-len.true (is.3 ∙ sym c.len.ensures))

pub returns-clause-only : goal.returns-clause-only
returns-clause-only c laid h deep =
    let bytes = c.as_bytes.result.now in
    let ws = c.args.words.now in
    let lie = subst (λ s. IsLaidOut s ws c.args.places.now laid) (sym c.as_bytes.ensures.value) h in
    let is = subst (λ o. IsBody o laid 0 (length bytes) (length ws)) c.in-Some.is (c.in_ok-body.ensures.only laid 0 (length bytes) (length ws) lie deep) in
    ap Some is.0
