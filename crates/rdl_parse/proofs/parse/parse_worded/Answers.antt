use Rattle.std.proofs.Common.{◌≡◌, ◌⊎◌, ap, sym, ◌∙◌, subst, Ok}
use Rattle.rdl_parse.specs.Symbol.{symbols}
use Rattle.rdl_parse.specs.Reading.{Fails, limit, text_at, whole}
use Rattle.rdl_parse.specs.Places.{located}
use Rattle.rdl_parse.specs.Faults.{out_of_memory}
use Rattle.rdl_parse.specs.Parsing.{Refuses}
use Rattle.rdl_parse.proofs.Answered.{text-found, text-only, text-refused, text-memory}
use Rattle.rdl_parse.proofs.parse.parse_worded.Goals as goal

pub returns-in-Ok-new-clause-found : goal.returns-in-Ok-new-clause-found
returns-in-Ok-new-clause-found c =
    let read : text_at 16 limit (symbols c.in-Ok.words) ≡ Ok (whole c.in-Ok-text.description.items c.in-Ok-text.spots.items) = ap (λ ws. text_at 16 limit (symbols ws)) (sym c.as_words.ensures) ∙ c.in-Ok-text.ensures in
    let places : c.in-Ok-new.places ≡ located c.args.text.now c.in-Ok.words c.in-Ok-text.spots.items = c.in-Ok-new.ensures ∙ ap (located c.args.text.now c.in-Ok.words) c.as_slice.ensures.value in
    text-found c.args.text.now c.in-Ok.words (whole c.in-Ok-text.description.items c.in-Ok-text.spots.items) c.in-Ok-new.places c.in-Ok.ensures.ok read places

pub returns-in-Ok-new-clause-only : goal.returns-in-Ok-new-clause-only
returns-in-Ok-new-clause-only c =
    let read : text_at 16 limit (symbols c.in-Ok.words) ≡ Ok (whole c.in-Ok-text.description.items c.in-Ok-text.spots.items) = ap (λ ws. text_at 16 limit (symbols ws)) (sym c.as_words.ensures) ∙ c.in-Ok-text.ensures in
    let places : c.in-Ok-new.places ≡ located c.args.text.now c.in-Ok.words c.in-Ok-text.spots.items = c.in-Ok-new.ensures ∙ ap (located c.args.text.now c.in-Ok.words) c.as_slice.ensures.value in
    text-only c.args.text.now c.in-Ok.words (whole c.in-Ok-text.description.items c.in-Ok-text.spots.items) c.in-Ok-new.places c.in-Ok.ensures.ok read places

pub returns-clause-only : goal.returns-clause-only
returns-clause-only c =
    let fails : Fails c.in-Err-text.stop (text_at 16 limit (symbols c.in-Ok.words)) = subst (λ ws. Fails c.in-Err-text.stop (text_at 16 limit (symbols ws))) c.as_words.ensures c.in-Err-text.ensures in
    λ d p s i. c.stop_fault.ensures ∙ text-memory c.args.text.now c.in-Ok.words c.in-Err-text.stop c.in-Ok.ensures.ok fails d p s i

pub returns-clause-refused : goal.returns-clause-refused
returns-clause-refused c =
    let fails : Fails c.in-Err-text.stop (text_at 16 limit (symbols c.in-Ok.words)) = subst (λ ws. Fails c.in-Err-text.stop (text_at 16 limit (symbols ws))) c.as_words.ensures c.in-Err-text.ensures in
    subst (λ f. (f ≡ out_of_memory) ⊎ Refuses c.args.text.now f) (sym c.stop_fault.ensures) (text-refused c.args.text.now c.in-Ok.words c.in-Err-text.stop c.in-Ok.ensures.ok fails)
