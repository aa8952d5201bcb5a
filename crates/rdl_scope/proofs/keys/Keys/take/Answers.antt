use Rattle.std.proofs.Common.{rules, suc, length, ◌≡◌, ap, ◌∙◌}
use Rattle.std.specs.List.{slice_set}
use Rattle.rdl_scope.specs.KeySpot.{is_noted}
use Rattle.rdl_scope.proofs.KeySpots as spots
use Rattle.rdl_scope.proofs.keys.Keys.take.Goals as goal

pub returns : goal.returns
returns c =
    let s = c.args.self.now in
    let number : c.in_ok-number.number ≡ suc (length s.firsts.items) = search rules in
    λ q. ap (λ firsts. is_noted (slice_set s.slots.items c.args.slot c.in_ok-number.number) firsts s.others q) c.in_ok-push.ensures.items
    ∙ spots.free_put s.slots.items s.firsts.items c.args.slot c.in_ok-number.number c.args.key s.others c.requires number q
