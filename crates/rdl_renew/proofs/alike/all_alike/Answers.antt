use Rattle.std.proofs.Common.{◌≡◌, ◌+◌, ◌<◌, ◌^◌, ◌&&◌, length, refl, sym, ap, ◌∙◌, rules}
use Rattle.rdl_tree.specs.Items.{Items}
use Rattle.rdl_marks.specs.View.{in_order}
use Rattle.rdl_nodes.specs.View.{slots_of}
use Rattle.rdl_seen.specs.Layouts.{Laying}
use Rattle.rdl_seen.specs.Node.{Around}
use Rattle.rdl_renew.specs.Along.{next_of}
use Rattle.rdl_renew.specs.Renewing.{Became}
use Rattle.rdl_renew.proofs.AlikeSteps.{alike_from, alike_next, alike_past}
use Rattle.rdl_renew.proofs.alike.all_alike.Goals as goal
use Rattle.rdl_renew.proofs.alike.all_alike.Goals.{After-is_alike}

-- the next item, and those behind it
next : (c : After-is_alike) (lay : Laying) (saw : Around) (old : Items) → Became lay saw (slots_of c.args.before.now) c.args.marks.now old c.args.body.now
    → alike_from c.args.is_width_same c.args.marks.now c.args.before.now c.args.now.now c.args.body.now c.loop-i.i
    ≡ (c.is_alike.result && alike_from c.args.is_width_same c.args.marks.now c.args.before.now c.args.now.now c.args.body.now (c.loop-i.i + 1))
next c lay saw old became =
    let i = c.loop-i.i in
    let marks = c.marks.inside in
    let fit : length c.args.before.now < 2 ^ 64 = search rules in
    alike_next lay saw old c.args.is_width_same c.args.marks.now c.args.before.now c.args.now.now c.args.body.now i c.index-items-i.result (next_of c.next-next.result) c.as_slice-items.result.now (in_order marks.pieces)
    marks.behind marks.gone.items became fit c.as_slice-items.ensures c.loop-i-test.true c.index-items-i.is c.marks.view_is
    (c.next-next.ensures.next marks.gone.items i c.loop-i.invariant.passed)
    ∙ ap (λ b. b && alike_from c.args.is_width_same c.args.marks.now c.args.before.now c.args.now.now c.args.body.now (i + 1)) (sym c.is_alike.ensures)

pub loop-i-init : goal.loop-i-init
loop-i-init c = record {
  passed = c.new-along.ensures;
  alike = λ lay saw old became. refl;
}

pub loop-i-preserved : goal.loop-i-preserved
loop-i-preserved c =
    let i = c.loop-i.i in
    let marks = c.marks.inside in
    let few : i + 1 < 2 ^ 64 = search rules in
    record {
      passed = c.next-next.ensures.passed i few c.loop-i.invariant.passed;
      alike = λ lay saw old became.
          c.loop-i.invariant.alike lay saw old became
          ∙ (next c.before lay saw old became
          ∙ ap (λ b. b && alike_from c.args.is_width_same c.args.marks.now c.args.before.now c.args.now.now c.args.body.now (i + 1)) c.if-not-is_alike.false);
    }

pub returns-then-not-is_alike : goal.returns-then-not-is_alike
returns-then-not-is_alike c = λ lay saw old became.
    sym (
    c.loop-i.invariant.alike lay saw old became
    ∙ (next c.before lay saw old became
    ∙ ap (λ b. b && alike_from c.args.is_width_same c.args.marks.now c.args.before.now c.args.now.now c.args.body.now (c.loop-i.i + 1)) c.if-not-is_alike.true)
    )

pub returns : goal.returns
returns c = λ lay saw old became.
    sym (
    c.loop-i.invariant.alike lay saw old became
    ∙ alike_past c.args.is_width_same c.args.marks.now c.args.before.now c.args.now.now c.args.body.now c.loop-i.i c.as_slice-items.result.now c.as_slice-items.ensures c.loop-i-test.false
    )
