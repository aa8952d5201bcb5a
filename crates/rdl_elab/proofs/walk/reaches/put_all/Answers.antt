use Rattle.std.proofs.Common.{sym, ◌∙◌, arith}
use Rattle.rdl_elab.proofs.Onward.{put-numbered, pass-numbered}
use Rattle.rdl_elab.proofs.walk.reaches.put_all.Goals as goal

pub assignments-preserved-in-Some : goal.assignments-preserved-in-Some
assignments-preserved-in-Some c = record {
  chained = put-numbered c.assignments.heads c.assignments.links c.put_first.new.heads c.put_first.new.links c.args.reaching.now c.assignments.number c.in-Some.next c.index-reaching-number.result
      c.assignments-test.true c.assignments.invariant.within c.index-reaching-number.is c.assignments.invariant.long c.assignments.invariant.slots
      (sym c.next.ensures ∙ c.in-Some.is) c.put_first.ensures.heads c.put_first.ensures.links c.assignments.invariant.chained;
  within = omega arith;
  slots = omega arith;
  long = omega arith;
}

pub assignments-preserved : goal.assignments-preserved
assignments-preserved c = record {
  chained = pass-numbered c.assignments.heads c.assignments.links c.args.reaching.now c.assignments.number c.index-reaching-number.result
      c.assignments-test.true c.assignments.invariant.within c.index-reaching-number.is c.assignments.invariant.long
      (sym c.next.ensures ∙ c.in_default.is) c.assignments.invariant.chained;
  within = omega arith;
  slots = c.assignments.invariant.slots;
  long = c.assignments.invariant.long;
}
