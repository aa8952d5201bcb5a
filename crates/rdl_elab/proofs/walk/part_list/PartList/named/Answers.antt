use Rattle.std.proofs.Common.{◌≡◌, ap, subst, sym, true, ◌∙◌}
use Rattle.std.specs.Prelude.{IfSome, option_and_then, slice_get}
use Rattle.rdl_elab.specs.Kept.{PartList}
use Rattle.rdl_elab.specs.PartNames.{AreNamed, has_name, part_named, place_named}
use Rattle.rdl_elab.proofs.PartPlaces.{part-placed}
use Rattle.rdl_elab.proofs.walk.part_list.PartList.named.Goals as goal

pub returns-in-Some : goal.returns-in-Some
returns-in-Some c =
    let ps = c.self.inside.items.items in
    let q = c.args.name.now in
    let text = c.as_str-text.result.now in
    let are = subst (λ o. IfSome o (λ names. AreNamed names ps)) c.in-Some.is c.self.invariant in
    let put_in : has_name c.in-Some.names.marks text ≡ true = sym c.has.ensures ∙ c.if-has.true in
    c.part_at.ensures
    ∙ (λ i. option_and_then (slice_get (c.as_slice-parts.ensures.value i)) ((c.get.ensures ∙ are text put_in ∙ ap (λ x. place_named x ps) c.as_str-text.ensures) i))
    ∙ part-placed q ps
    ∙ ap (λ (v : PartList). part_named q v.items) c.self.view_is
