use Rattle.std.proofs.Common.{◌≡◌, not, true, length, sym, ap, subst, ◌∙◌}
use Rattle.rdl_tree.specs.Items.{Items}
use Rattle.rdl_tree.specs.View as tree
use Rattle.rdl_nodes.specs.Placed.{placed_over}
use Rattle.rdl_nodes.specs.View.{slots_of}
use Rattle.rdl_nodes.proofs.Counts.{counts_so}
use Rattle.rdl_seen.specs.Node.{Around}
use Rattle.rdl_renew.specs.Alike.{AreAlike}
use Rattle.rdl_renew.specs.AlikeSlots.{tells_of_width, are_alike}
use Rattle.rdl_renew.specs.InPlace.{AreInPlace, IsLike}
use Rattle.rdl_renew.specs.Renewing.{Became}
use Rattle.rdl_renew.proofs.Alone.{was_false}
use Rattle.rdl_renew.proofs.AlikeSteps.{alike_are}
use Rattle.rdl_renew.proofs.CountSteps.{if_ok}
use Rattle.rdl_renew.proofs.InPlace.{stays_own, stays_inside}
use Rattle.rdl_renew.proofs.LaidAgain.{stays_laid_out, node_is}
use Rattle.rdl_renew.proofs.renew.finished_again.Given.{Over}
use Rattle.rdl_renew.proofs.renew.finished_again.Goals as goal
use Rattle.rdl_renew.proofs.renew.finished_again.Goals.{After-drop-done-2}

-- what the code tells of the instances
alike_is : (g : Over) (c : After-drop-done-2 g) (old : Items) (saw : Around) → Became g.L.Lays.laying saw c.args.before.now.slots c.args.inside.now old c.args.component.now.body
    → IsLike c.args.inside.now c.args.before.now.slots c.args.component.now.body c.args.done
    → c.is_alike.result ≡ are_alike (not (tells_of_width c.args.done.reach.alert)) c.args.inside.now c.args.before.now.slots (slots_of c.args.done.slots.items) c.args.component.now.body
alike_is g c old saw became like =
    let lay = g.L.Lays.laying in
    let body = c.args.component.now.body in
    let inside = c.args.inside.now in
    c.is_alike.ensures lay saw old (subst (λ s. Became lay saw s inside old body) (sym c.slots.ensures) became) (subst (λ s. IsLike inside s body c.args.done) (sym c.slots.ensures) like)
    ∙ ap (λ s. are_alike (not (tells_of_width c.args.done.reach.alert)) inside s (slots_of c.args.done.slots.items) body) c.slots.ensures

pub returns-clause-node : goal.returns-clause-node
returns-clause-node g c = λ old saw sees became core differs like here kept.
    let lay = g.L.Lays.laying in
    let kind = c.args.component.now.kind in
    let body = c.args.component.now.body in
    let defaults = c.args.defaults.now in
    let items = c.args.done.slots.items in
    let inside = c.args.inside.now in
    let width = not (tells_of_width c.args.done.reach.alert) in
    let alike = c.is_alike.result in
    let are : alike ≡ true → AreAlike width inside c.slots.result.now items body =
    λ so. alike_are width inside c.slots.result.now items body (ap (λ s. are_alike width inside s (slots_of items) body) c.slots.ensures ∙ (sym (alike_is g c old saw became like) ∙ so)) in
    let stays =
    stays_laid_out lay kind old body saw sees width alike inside c.args.done.reach.alert c.args.before.now.core defaults c.args.before.now.slots c.slots.result.now items g.met.L.Lays.by_said
    became core c.slots.ensures (λ w. was_false (tells_of_width c.args.done.reach.alert) w) differs here are in
    let place : c.is_in_place.result ≡ true → AreInPlace inside (length (tree.list_of body)) × (length c.slots-2.result.now ≡ length items) =
    λ so. let told = c.is_in_place.ensures so in (like.in_place told.0, told.1) in
    let own = stays_own lay kind old body saw sees inside c.args.before.now.core c.args.before.now.slots c.slots-2.result.now items c.is_in_place.result became core c.slots-2.ensures kept place in
    node_is lay kind body sees defaults (slots_of items) c.finished_over.result here kept (c.finished_over.ensures.node own stays)

pub returns-clause-placed : goal.returns-clause-placed
returns-clause-placed g c = λ old saw became like.
    if_ok c.finished_over.result c.finished_over.ensures.placed
    (λ n counted.
    counts_so c.args.placed.now c.finished_over.new.placed (λ j. placed_over (alike_is g c old saw became like j) c.args.before.now.core n.core) counted)

pub finished_over-requires : goal.finished_over-requires
finished_over-requires g c = stays_inside c.args.before.now.slots c.slots-3.result.now c.args.done c.is_same_inside.result c.slots-3.ensures c.requires c.is_same_inside.ensures
