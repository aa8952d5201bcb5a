use Rattle.std.proofs.Common.{rules, cond, bytes_eq, ◌≡◌, refl, sym, ap, ◌∙◌, None, Some}
use Rattle.rdl_scope.specs.Front.{front, name_cmp}
use Rattle.rdl_scope.specs.Spot.{spot, is_own}
use Rattle.rdl_scope.specs.declared.entry.Spot.TheVariants.{Free, Own, Other}
use Rattle.std.specs.BTreeMap.{get_by}
use Rattle.std.specs.Option.{is_none}
use Rattle.rdl_scope.specs.ByName.{value_under}
use Rattle.std.specs.List.{slice_get}
use Rattle.rdl_scope.proofs.Fronts.{name_gets, name_updates}
use Rattle.rdl_scope.proofs.Spots as spots
use Rattle.rdl_scope.proofs.by_name.ByName.put.Goals as goal

pub invariant_of-self-in-Other : goal.invariant_of-self-in-Other
invariant_of-self-in-Other g c =
    let at : spot {V = g.row.V.Denot} c.args.self.now.slots.items c.args.self.now.entries.items c.args.name.now ≡ Other = search rules in
    record {
      free = spots.either c.insert.result c.insert.ensures.updates c.insert.ensures.err
          (λ u. spots.other_stay c.args.self.now.slots.items c.args.self.now.entries.items c.args.name.now (Some c.args.value) _ _ at (name_updates c.args.self.now.others c.insert.new.self c.args.name.now c.key_of-key.result _ c.key_of-key.ensures.front c.key_of-key.ensures.name u) c.args.self.now.free)
          (λ u. λ q e. let same : get_by (name_cmp q) c.insert.new.self ≡ get_by (name_cmp q) c.args.self.now.others = search rules in ap is_none same ∙ c.args.self.now.free q e);
    }

pub returns-in-Own-clause-before : goal.returns-in-Own-clause-before
returns-in-Own-clause-before g c =
    let at : spot {V = g.row.V.Denot} c.args.self.now.slots.items c.args.self.now.entries.items c.args.name.now ≡ Own c.in-Own.number = search rules in
    let there = spots.own_there c.args.self.now.slots.items c.args.self.now.entries.items c.args.name.now c.in-Own.number c.index_mut.result.now at c.index_mut.ensures.value in
    c.replace.ensures.value ∙ sym (spots.own_found c.args.self.now.slots.items c.args.self.now.entries.items c.args.name.now c.in-Own.number (get_by (name_cmp c.args.name.now) c.args.self.now.others) c.index_mut.result.now at there)

pub returns-in-Own-clause-after : goal.returns-in-Own-clause-after
returns-in-Own-clause-after g c =
    let at : spot {V = g.row.V.Denot} c.args.self.now.slots.items c.args.self.now.entries.items c.args.name.now ≡ Own c.in-Own.number = search rules in
    let there = spots.own_there c.args.self.now.slots.items c.args.self.now.entries.items c.args.name.now c.in-Own.number c.index_mut.result.now at c.index_mut.ensures.value in
    λ q. spots.own_put c.args.self.now.slots.items c.args.self.now.entries.items c.args.name.now c.in-Own.number c.index_mut.result.now c.replace.new.dest (λ p. get_by (name_cmp p) c.args.self.now.others) at there q
    ∙ ap (λ w. cond (bytes_eq c.args.name.now q) w (value_under c.args.self.now q)) c.replace.ensures.after

pub returns-in_ok-insert-in-Other-clause-before : goal.returns-in_ok-insert-in-Other-clause-before
returns-in_ok-insert-in-Other-clause-before g c =
    let at : spot {V = g.row.V.Denot} c.args.self.now.slots.items c.args.self.now.entries.items c.args.name.now ≡ Other = search rules in
    c.in_ok-insert-in-Other.ensures.old ∙ name_gets c.args.self.now.others c.insert.new.self c.args.name.now c.key_of-key.result c.key_of-key.ensures.front c.key_of-key.ensures.name ∙ sym (spots.other_found c.args.self.now.slots.items c.args.self.now.entries.items c.args.name.now (get_by (name_cmp c.args.name.now) c.args.self.now.others) at)

pub returns-in_ok-insert-in-Other-clause-after : goal.returns-in_ok-insert-in-Other-clause-after
returns-in_ok-insert-in-Other-clause-after g c =
    let at : spot {V = g.row.V.Denot} c.args.self.now.slots.items c.args.self.now.entries.items c.args.name.now ≡ Other = search rules in
    spots.other_put c.args.self.now.slots.items c.args.self.now.entries.items c.args.name.now (Some c.args.value) _ _ at (name_updates c.args.self.now.others c.insert.new.self c.args.name.now c.key_of-key.result _ c.key_of-key.ensures.front c.key_of-key.ensures.name c.in_ok-insert-in-Other.ensures.updates)
