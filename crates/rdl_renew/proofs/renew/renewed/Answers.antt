use Rattle.std.proofs.Common.{sym, ap, subst, ◌∙◌}
use Rattle.rdl_seen.specs.Alert.{AgreeBut}
use Rattle.rdl_seen.specs.Meaning.{nothing_around, node_at}
use Rattle.rdl_seen.proofs.Alerts.{nothing_differs}
use Rattle.rdl_seen.proofs.KeptAt.{kept_are_nodes}
use Rattle.rdl_nodes.specs.View.{slots_of}
use Rattle.rdl_renew.proofs.CountSteps.{map_counted}
use Rattle.rdl_renew.proofs.renew.renewed.Goals as goal

pub returns-clause-nodes : goal.returns-clause-nodes
returns-clause-nodes g c = λ old described ordered kept at m a there around n here.
    let lay = g.L.Lays.laying in
    let agree = subst (λ x. AgreeBut x nothing_around nothing_around) (sym c.none-2.ensures) (nothing_differs nothing_around) in
    let slots =
    c.in_ok-done.ensures.slots old nothing_around (record { describes = described; in_order = ordered; kept = c.slots.ensures ∙ kept })
    (record { scope = tt; defaults = c.none.ensures; agree = agree }) in
    kept_are_nodes lay c.args.description.now.items at m a there around n (ap (node_at at) (sym slots ∙ sym c.of_slots.ensures) ∙ here)

pub returns-clause-clean : goal.returns-clause-clean
returns-clause-clean g c = λ old described ordered kept told was.
    let agree = subst (λ x. AgreeBut x nothing_around nothing_around) (sym c.none-2.ensures) (nothing_differs nothing_around) in
    let clean =
    c.in_ok-done.ensures.clean old nothing_around (record { describes = described; in_order = ordered; kept = c.slots.ensures ∙ kept })
    (record { scope = tt; defaults = c.none.ensures; agree = agree }) told in
    clean.1 was

pub returns-clause-placed : goal.returns-clause-placed
returns-clause-placed g c = λ old described ordered kept.
    let agree = subst (λ x. AgreeBut x nothing_around nothing_around) (sym c.none-2.ensures) (nothing_differs nothing_around) in
    let counted =
    c.in_ok-done.ensures.placed old nothing_around (record { describes = described; in_order = ordered; kept = c.slots.ensures ∙ kept })
    (record { scope = tt; defaults = c.none.ensures; agree = agree }) in
    map_counted c.args.marks.now c.args.tree.now (slots_of c.slots.result.now) c.args.description.now.items (slots_of c.in_ok-done.done.slots.items) c.of_slots.result c.none-2.result c.renew_body.new.account.placed
    c.none-2.ensures c.slots.ensures c.of_slots.ensures counted
