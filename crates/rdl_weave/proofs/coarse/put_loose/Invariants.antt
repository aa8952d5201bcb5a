use Rattle.std.proofs.Common.{◌≡◌, ◌++◌, drop, string_bytes}
use Rattle.rdl_weave.specs.Coarse.{text_of, spans_of, loose}
use Rattle.rdl_weave.proofs.coarse.put_loose.Given as goal

-- what is put in, and what is left, is all
abbrev pub invariant-statements : goal.invariant-statements
invariant-statements l =
    (string_bytes l.text ++ text_of l.ground.source.now (loose l.ground.source.now l.ground.sizes.now (drop l.statement-index l.statements) l.rest)
    ≡ string_bytes l.initial.text ++ text_of l.ground.source.now (loose l.ground.source.now l.ground.sizes.now l.statements l.origins))
    × (l.spans.items ++ spans_of (loose l.ground.source.now l.ground.sizes.now (drop l.statement-index l.statements) l.rest)
    ≡ l.initial.spans.items ++ spans_of (loose l.ground.source.now l.ground.sizes.now l.statements l.origins))
