-- Where each item has none by itself, and all stand alone, the field has none.
use Rattle.std.proofs.Common.{Some, arith}
use Rattle.rdl_tree.specs.declared.shell.Kind.TheVariants.{Field}
use Rattle.rdl_seen.specs.Inside.{no_instances}
use Rattle.rdl_seen.specs.Meaning.{around_before}
use Rattle.rdl_seen.specs.OneByOne.{instances_before}
use Rattle.rdl_renew.specs.Judged.{IsCleanInField}
use Rattle.rdl_renew.proofs.ApartItems.{one_missing, one_there, below_count}
use Rattle.rdl_renew.proofs.LoneItems.{lone_bodies_are_clean}
use Rattle.rdl_renew.proofs.judge.is_clean_field.Goals.{in-Some+else-not-is_clean_in_field, in_default}
use Rattle.rdl_renew.proofs.judge.is_clean_field.Goals as goal

pub loop-i-preserved : goal.loop-i-preserved
loop-i-preserved c =
    let body = c.args.body.now in
    elim c.match-item.branch [
      | in-Some+else-not-is_clean_in_field w ↦ one_there (λ j y. IsCleanInField y) body 0 c.loop-i.i w.in-Some.item.now c.loop-i.invariant w.in-Some.ensures (w.is_clean_in_field.ensures w.if-not-is_clean_in_field.false)
      | in_default w ↦ one_missing (λ j y. IsCleanInField y) body 0 c.loop-i.i c.loop-i.invariant w.in_default.ensures
    ]

pub returns : goal.returns
returns c e lay a =
    let body = c.args.body.now in
    let far = c.loop-i-test.false in
    lone_bodies_are_clean lay a (Some Field) body (c.all_stand_alone.ensures e)
    (λ i y got.
    let below = below_count body i y c.len-i-end.result c.len-i-end.ensures got in
    c.loop-i.invariant i y (omega arith) (omega (arith, below, far)) got lay (around_before lay i a body) (instances_before lay i a no_instances body))
