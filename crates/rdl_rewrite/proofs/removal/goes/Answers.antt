use Rattle.std.proofs.Common.{◌≡◌, ◌++◌, ◌∷◌, [], ap, sym, ◌∙◌}
use Rattle.std.proofs.lemmas.Result.{IfOk-weaker}
use Rattle.rdl_scope.specs.Target.{passes}
use Rattle.rdl_rewrite.specs.Addresses.{passes_by}
use Rattle.rdl_rewrite.specs.Removal.{goes}
use Rattle.rdl_rewrite.proofs.Before.{goes_by}
use Rattle.rdl_rewrite.proofs.removal.goes.Goals as goal

pub returns-in-Dynamic : goal.returns-in-Dynamic
returns-in-Dynamic c =
    let d = c.args.sweep.now.whole.now.items in
    let way = c.args.sweep.now.way.now in
    let b = c.args.at.now in
    let n = c.args.number in
    let goes_there = goes_by d way b n c.args.found.now c.in-Dynamic.target c.in-Dynamic.field-1 c.in-Dynamic.field-2 c.requires.here c.in-Dynamic.is (sym c.ends_at.ensures ∙ c.if-ends_at.false) in
    IfOk-weaker c.passes_taken.result (λ answer. answer ≡ passes_by way (passes d b n c.names.result.now)) (λ answer. answer ≡ goes d way (b ++ n ∷ [])) (λ _ is. is ∙ ap (λ t. passes_by way (passes d b n t)) c.names.ensures ∙ goes_there) c.passes_taken.ensures
