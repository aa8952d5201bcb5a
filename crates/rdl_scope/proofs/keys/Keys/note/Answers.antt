use Rattle.std.proofs.Common.{rules, ◌≡◌, ap, ◌∙◌}
use Rattle.std.specs.Prelude.{◌||◌, bytes_eq}
use Rattle.std.specs.Cmp.Lexicographic.{pointwise}
use Rattle.rdl_scope.specs.KeySpot.{names, key_spot}
use Rattle.rdl_scope.specs.declared.entry.Spot.TheVariants.{Own}
use Rattle.rdl_scope.proofs.KeySpots as spots
use Rattle.rdl_scope.proofs.keys.Keys.note.Goals as goal

pub returns-in-Own-clause-noted : goal.returns-in-Own-clause-noted
returns-in-Own-clause-noted c = λ f h p.
    let s = c.begin.new.self in
    let q = names c.args.key in
    let at : key_spot s.slots.items s.firsts.items q ≡ Own c.in-Own.field-0 = search rules in
    spots.own-again s.slots.items s.firsts.items q c.in-Own.field-0 s.others at p ∙ ap (λ t. pointwise bytes_eq q p || t) (c.in_ok-begin.ensures p ∙ h p)
