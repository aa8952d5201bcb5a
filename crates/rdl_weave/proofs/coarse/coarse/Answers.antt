use Rattle.std.proofs.Common.{rules, ◌≡◌, ◌≤◌, true, false, ◌++◌, length, ap, sym, subst, ◌∙◌, string_bytes}
use Rattle.rdl_origin.specs.View.{list_of}
use Rattle.rdl_parse.specs.Faults.{max_text}
use Rattle.rdl_weave.specs.Coarse as spec
use Rattle.rdl_weave.specs.Coarse.{text_of, spans_of}
use Rattle.rdl_weave.specs.Spelled.{SpellsAs}
use Rattle.rdl_weave.proofs.Spoken.{answer_keeps, not_unspelled}
use Rattle.rdl_weave.proofs.coarse.coarse.Goals as goal

pub returns-then-not-branch-clause-sound : goal.returns-then-not-branch-clause-sound
returns-then-not-branch-clause-sound c = λ fits e.
    let text : string_bytes c.put_body.new.sheet.text ≡ text_of c.args.ground.source.now (spec.coarse c.args.ground.source.now c.args.ground.sizes.now c.args.was.statements.now c.args.was.origins.now c.args.last.now) =
    c.in_ok-put_body.ensures.text ∙ ap (λ t. t ++ text_of c.args.ground.source.now (spec.coarse c.args.ground.source.now c.args.ground.sizes.now c.args.was.statements.now c.args.was.origins.now c.args.last.now)) c.new.ensures.bytes in
    let short : length (string_bytes c.put_body.new.sheet.text) ≤ max_text = search rules in
    let says : SpellsAs c.args.canonical.now (string_bytes c.put_body.new.sheet.text) → c.in_ok-spells_as.field-0 ≡ true =
    λ s. c.in_ok-spells_as.ensures.1 (subst (λ t. SpellsAs c.args.canonical.now t) (sym c.as_str.ensures.value) s) in
    let refused : c.in_ok-spells_as.field-0 ≡ false = search rules in
    not_unspelled c.args.ground.source.now c.args.ground.sizes.now c.args.canonical.now (string_bytes c.put_body.new.sheet.text) c.args.was.statements.now c.args.was.origins.now c.args.last.now c.in_ok-spells_as.field-0
    c.requires text short says refused fits

pub returns-clause-found : goal.returns-clause-found
returns-clause-found c =
    let text : string_bytes c.put_body.new.sheet.text ≡ text_of c.args.ground.source.now (spec.coarse c.args.ground.source.now c.args.ground.sizes.now c.args.was.statements.now c.args.was.origins.now c.args.last.now) =
    c.in_ok-put_body.ensures.text ∙ ap (λ t. t ++ text_of c.args.ground.source.now (spec.coarse c.args.ground.source.now c.args.ground.sizes.now c.args.was.statements.now c.args.was.origins.now c.args.last.now)) c.new.ensures.bytes in
    let spans : c.put_body.new.sheet.spans.items ≡ spans_of (spec.coarse c.args.ground.source.now c.args.ground.sizes.now c.args.was.statements.now c.args.was.origins.now c.args.last.now) =
    c.in_ok-put_body.ensures.spans ∙ ap (λ t. t ++ spans_of (spec.coarse c.args.ground.source.now c.args.ground.sizes.now c.args.was.statements.now c.args.was.origins.now c.args.last.now)) c.new-2.ensures.items in
    let covered : spec.covers c.put_body.new.sheet.spans.items c.args.ground.sizes.now c.args.was.statements.now (list_of c.args.was.origins.now) ≡ true = search rules in
    let spelled : SpellsAs c.args.canonical.now (string_bytes c.put_body.new.sheet.text) = search rules in (
      spelled,
      answer_keeps c.args.ground.source.now c.args.ground.sizes.now (string_bytes c.put_body.new.sheet.text) c.put_body.new.sheet.spans.items c.args.was.statements.now c.args.was.origins.now c.args.last.now text spans covered,
    )
