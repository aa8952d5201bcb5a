use Rattle.std.proofs.Common.{rules, ◌≡◌, refl, sym, ap, ◌∙◌, None, Some}
use Rattle.rdl_scope.specs.Front.{front, name_cmp}
use Rattle.rdl_scope.specs.Spot.{spot, is_own}
use Rattle.rdl_scope.specs.declared.entry.Spot.TheVariants.{Free, Own, Other}
use Rattle.std.specs.BTreeMap.{get_by}
use Rattle.std.specs.List.{slice_get}
use Rattle.rdl_scope.proofs.Fronts.{name_updates}
use Rattle.rdl_scope.proofs.Spots as spots
use Rattle.rdl_scope.proofs.by_name.ByName.remove.Goals as goal

pub invariant_of-self-in-Other : goal.invariant_of-self-in-Other
invariant_of-self-in-Other g c =
    let at : spot {V = g.row.V.Denot} c.args.self.now.slots.items c.args.self.now.entries.items c.args.name.now ≡ Other = search rules in
    record { free = spots.other_stay c.args.self.now.slots.items c.args.self.now.entries.items c.args.name.now None _ _ at (name_updates c.args.self.now.others c.remove.new.self c.args.name.now c.key_of-key.result _ c.key_of-key.ensures.front c.key_of-key.ensures.name c.remove.ensures.updates) c.args.self.now.free }

pub returns-in-Own : goal.returns-in-Own
returns-in-Own g c =
    let at : spot {V = g.row.V.Denot} c.args.self.now.slots.items c.args.self.now.entries.items c.args.name.now ≡ Own c.in-Own.number = search rules in
    let there = spots.own_there c.args.self.now.slots.items c.args.self.now.entries.items c.args.name.now c.in-Own.number c.index_mut.result.now at c.index_mut.ensures.value in
    spots.own_put c.args.self.now.slots.items c.args.self.now.entries.items c.args.name.now c.in-Own.number c.index_mut.result.now None (λ q. get_by (name_cmp q) c.args.self.now.others) at there

pub returns-in-Other : goal.returns-in-Other
returns-in-Other g c =
    let at : spot {V = g.row.V.Denot} c.args.self.now.slots.items c.args.self.now.entries.items c.args.name.now ≡ Other = search rules in
    spots.other_put c.args.self.now.slots.items c.args.self.now.entries.items c.args.name.now None _ _ at (name_updates c.args.self.now.others c.remove.new.self c.args.name.now c.key_of-key.result _ c.key_of-key.ensures.front c.key_of-key.ensures.name c.remove.ensures.updates)
