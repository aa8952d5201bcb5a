use Rattle.std.proofs.Common.{length, option_map, ap, sym, ◌∙◌}
use Rattle.std.specs.Option.{option_or}
use Rattle.rdl_scope.specs.Scopes.{level_found}
use Rattle.rdl_scope.proofs.Levelled.{level_last}
use Rattle.rdl_scope.proofs.levels.+level_found.Goals as goal

pub returns-in-Some : goal.returns-in-Some
returns-in-Some t c =
    let outer = c.in_ok-level.outer.now in
    let q = c.args.name.now in
    sym (level_last c.args.levels.now outer c.in_ok-level.level.now q c.in_ok-level.ensures.cases.0 ∙ ap (λ o. option_or (option_map (λ k. (length outer, k)) o) (level_found 0 outer q)) (sym c.get.ensures ∙ c.in-Some.is))

pub returns-in-None : goal.returns-in-None
returns-in-None t c =
    let outer = c.in_ok-level.outer.now in
    let q = c.args.name.now in
    c.level_found.ensures ∙ sym (level_last c.args.levels.now outer c.in_ok-level.level.now q c.in_ok-level.ensures.cases.0 ∙ ap (λ o. option_or (option_map (λ k. (length outer, k)) o) (level_found 0 outer q)) (sym c.get.ensures ∙ c.in-None.is))
