use Rattle.std.proofs.Common.{sym, ap, ◌∙◌}
use Rattle.node_laws.specs.Laid.{laying}
use Rattle.rdl_seen.specs.Contents.{is_large}
use Rattle.rdl_seen.proofs.Sizes.{small_maps_fit}
use Rattle.rdl_held.proofs.held.check_renewed.Goals as goal

pub returns-then-not-is_large-clause-ok : goal.returns-then-not-is_large-clause-ok
returns-then-not-is_large-clause-ok c =
    let d = c.args.description.now.items in
    let slots = c.slots.ensures ∙ c.requires.kept in
    small_maps_fit laying d (c.requires.clean c.if-renewed.true) (ap (λ s. is_large s d) (sym slots) ∙ (sym c.is_large.ensures ∙ c.if-not-is_large.true))
