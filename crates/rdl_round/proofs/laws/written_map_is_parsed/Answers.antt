use Rattle.std.proofs.Common.{◌≡◌, ◌∙◌, sym, subst}
use Rattle.rdl_parse.specs.Parsing.{SpellsText}
use Rattle.rdl_write.specs.MapText.{map_text}
use Rattle.rdl_round.proofs.Back.{faultless-reads-back}
use Rattle.rdl_round.proofs.Faultless.{fitting}
use Rattle.rdl_round.proofs.laws.written_map_is_parsed.Goals as goal

pub returns-in-Ok : goal.returns-in-Ok
returns-in-Ok c = λ h k clear.
    let d = c.args.description.now.items in
    let r = faultless-reads-back d h k clear in
    let text : c.as_str.result.now ≡ map_text d = c.as_str.ensures.value ∙ c.in_ok-text.ensures in
    let spells : SpellsText c.as_str.result.now d r.0 = subst (λ s. SpellsText s d r.0) (sym text) r.1 in
    (c.in-Ok.ensures.only d r.0 spells (fitting d clear)).0

pub returns : goal.returns
returns c = λ h k clear.
    let d = c.args.description.now.items in
    let r = faultless-reads-back d h k clear in
    let text : c.as_str.result.now ≡ map_text d = c.as_str.ensures.value ∙ c.in_ok-text.ensures in
    let spells : SpellsText c.as_str.result.now d r.0 = subst (λ s. SpellsText s d r.0) (sym text) r.1 in
    c.in-Err.ensures.only d r.0 spells (fitting d clear)
