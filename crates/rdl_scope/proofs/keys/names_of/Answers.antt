use Rattle.std.proofs.Common.{◌∷◌, [], ◌++◌, take, take_all, map, ap, sym, ◌∙◌}
use Rattle.std.proofs.lemmas.List.{map-append, take_more}
use Rattle.rdl_scope.proofs.keys.names_of.Goals as goal

pub returns : goal.returns
returns c =
    c.loop-part.invariant
    ∙ ap (λ ns. c.args.key.now.name.now ∷ ns) (take_all c.loop-part.part-index c.names-target.result.now c.loop-part-test.false ∙ c.names-target.ensures)

pub loop-part-preserved : goal.loop-part-preserved
loop-part-preserved c =
    let i = c.loop-part.part-index in
    let parts = c.names-target.result.now in
    let text = c.as_str-in-loop-part.result in
    ap (map (λ s. s.now)) c.in_ok-push-2.ensures.items
    ∙ map-append (λ s. s.now) c.loop-part.names.items (text ∷ [])
    ∙ ap (λ ts. ts ++ text.now ∷ []) c.loop-part.invariant
    ∙ ap (λ n. c.args.key.now.name.now ∷ (take i parts ++ n ∷ [])) (c.as_str-in-loop-part.ensures ∙ c.part-item.is)
    ∙ ap (λ ns. c.args.key.now.name.now ∷ ns) (sym (take_more parts i c.part-item.result c.loop-part-test.true))
