use Rattle.std.proofs.Common.{◌≡◌, ◌⊎◌, ap, sym, ◌∙◌, subst, Ok}
use Rattle.rdl_parse.specs.Symbol.{symbols}
use Rattle.rdl_parse.specs.Reading.{Fails, limit, items_at}
use Rattle.rdl_parse.specs.Faults.{out_of_memory}
use Rattle.rdl_parse.specs.Parsing.{RefusesItem}
use Rattle.rdl_parse.proofs.Answered.{statement-found, statement-only, statement-refused, statement-memory}
use Rattle.rdl_parse.proofs.parse.parse_item.Goals as goal

pub returns-in-Ok-items-clause-found : goal.returns-in-Ok-items-clause-found
returns-in-Ok-items-clause-found c =
    let read : items_at 16 limit (symbols c.in-Ok.words) ≡ Ok c.in-Ok-items.items.items = ap (λ ws. items_at 16 limit (symbols ws)) (sym c.as_words.ensures) ∙ c.in-Ok-items.ensures in
    statement-found c.args.text.now c.in-Ok.words c.in-Ok-items.items.items c.in-Ok.ensures.ok read

pub returns-in-Ok-items-clause-only : goal.returns-in-Ok-items-clause-only
returns-in-Ok-items-clause-only c =
    let read : items_at 16 limit (symbols c.in-Ok.words) ≡ Ok c.in-Ok-items.items.items = ap (λ ws. items_at 16 limit (symbols ws)) (sym c.as_words.ensures) ∙ c.in-Ok-items.ensures in
    λ xs s i. statement-only c.args.text.now c.in-Ok.words c.in-Ok-items.items.items c.in-Ok.ensures.ok read xs s

pub returns-clause-only : goal.returns-clause-only
returns-clause-only c =
    let fails : Fails c.in-Err-items.stop (items_at 16 limit (symbols c.in-Ok.words)) = subst (λ ws. Fails c.in-Err-items.stop (items_at 16 limit (symbols ws))) c.as_words.ensures c.in-Err-items.ensures in
    λ xs s i. c.stop_fault.ensures ∙ statement-memory c.args.text.now c.in-Ok.words c.in-Err-items.stop c.in-Ok.ensures.ok fails xs s i

pub returns-clause-refused : goal.returns-clause-refused
returns-clause-refused c =
    let fails : Fails c.in-Err-items.stop (items_at 16 limit (symbols c.in-Ok.words)) = subst (λ ws. Fails c.in-Err-items.stop (items_at 16 limit (symbols ws))) c.as_words.ensures c.in-Err-items.ensures in
    subst (λ f. (f ≡ out_of_memory) ⊎ RefusesItem c.args.text.now f) (sym c.stop_fault.ensures) (statement-refused c.args.text.now c.in-Ok.words c.in-Err-items.stop c.in-Ok.ensures.ok fails)
