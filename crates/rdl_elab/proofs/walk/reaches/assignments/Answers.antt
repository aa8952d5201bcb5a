use Rattle.std.proofs.Common.{◌++◌, drop, ap, sym, ◌∙◌}
use Rattle.rdl_tree.specs.View.{items_of, list_of}
use Rattle.rdl_elab.specs.Reaches.{reaches_by}
use Rattle.rdl_elab.proofs.OwnValues.{from-first}
use Rattle.rdl_elab.specs.KeptTargets.{kept_target}
use Rattle.rdl_elab.proofs.Assignments.{goes-some, goes-none}
use Rattle.rdl_elab.proofs.walk.reaches.assignments.Goals as goal
use Rattle.rdl_elab.proofs.walk.reaches.assignments.Goals.{in-Some+in_ok-push, in_default}

pub items-init : goal.items-init
items-init c =
    let f = kept_target c.args.components.now c.args.parts.now.items in
    let body = c.args.body.now in
    let i = c.args.first_dynamic in
    (from-first f i body c.requires ∙ ap (λ rs. rs ++ reaches_by f i (items_of (drop i (list_of body)))) (sym c.in_ok-list.ensures.items), tt)

pub items-preserved : goal.items-preserved
items-preserved c =
    let f = kept_target c.args.components.now c.args.parts.now.items in
    let xs = c.as_slice-all.result.now in (
      elim c.match-found.branch [
        | in-Some+in_ok-push w ↦
            goes-some f c.args.body.now xs c.items.i c.index-all-i.result c.as_slice-all.ensures c.items-test.true c.index-all-i.is c.in_ok-found.found c.in_ok-found.ensures.assignment c.items.list.items c.items.invariant.0
            w.in-Some.assignment c.match-found.list.items w.in-Some.is (ap (λ v. v.items) w.list-is ∙ w.in_ok-push.ensures.items)
        | in_default w ↦
            goes-none f c.args.body.now xs c.items.i c.index-all-i.result c.as_slice-all.ensures c.items-test.true c.index-all-i.is c.in_ok-found.found c.in_ok-found.ensures.assignment c.items.list.items c.items.invariant.0
            c.match-found.list.items w.in_default.is (ap (λ v. v.items) w.list-is)
      ],
      c.in_ok-found.ensures.first,
    )
