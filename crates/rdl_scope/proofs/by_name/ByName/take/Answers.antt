use Rattle.std.proofs.Common.{rules, suc, length, arith, true, ◌≡◌, refl, sym, ap, ◌∙◌, None, Some}
use Rattle.rdl_scope.specs.Front.{front, name_cmp}
use Rattle.rdl_scope.specs.Spot.{spot, slot, is_own, value_at}
use Rattle.rdl_scope.specs.declared.entry.Spot.TheVariants.{Free, Own, Other}
use Rattle.std.specs.BTreeMap.{get_by}
use Rattle.std.specs.List.{slice_get, slice_set}
use Rattle.rdl_scope.proofs.Fronts.{name_updates}
use Rattle.rdl_scope.proofs.Spots as spots
use Rattle.rdl_scope.proofs.by_name.ByName.take.Goals as goal

pub returns-clause-after : goal.returns-clause-after
returns-clause-after g c =
    let own : is_own c.args.entry.name.now c.args.entry ≡ true = search rules in
    let number : c.in_ok-number.number ≡ suc (length c.args.self.now.entries.items) = search rules in
    λ q. ap (λ es. value_at es q (get_by (name_cmp q) c.args.self.now.others) (slice_get (slice_set c.args.self.now.slots.items c.args.slot c.in_ok-number.number) (slot (slice_set c.args.self.now.slots.items c.args.slot c.in_ok-number.number) q))) c.in_ok-push.ensures.items
    ∙ spots.free_put c.args.self.now.slots.items c.args.self.now.entries.items c.args.entry.name.now c.args.slot c.in_ok-number.number c.args.entry (λ p. get_by (name_cmp p) c.args.self.now.others) c.requires.free number refl own c.args.self.now.free q
