use Rattle.std.proofs.Common.{◌∙◌, arith}
use Rattle.rdl_marks.proofs.Cuts.{popped_count, moved_back}
use Rattle.rdl_marks.proofs.marks.Pieces.go_back.Goals as goal

pub overflow_sub-self : goal.overflow_sub-self
overflow_sub-self c =
    omega (arith, c.len.ensures, popped_count c.cut_back.new.self.front.items c.pop.new.self.items c.in-Some.piece c.cut_back.new.self.before c.in_ok-cut_back.ensures.counted c.in-Some.ensures.items)

pub loop-self-preserved : goal.loop-self-preserved
loop-self-preserved c = record {
  counted = omega (arith, c.len.ensures, popped_count c.cut_back.new.self.front.items c.pop.new.self.items c.in-Some.piece c.cut_back.new.self.before c.in_ok-cut_back.ensures.counted c.in-Some.ensures.items);
  same =
      moved_back c.cut_back.new.self.front.items c.pop.new.self.items c.cut_back.new.self.back.items c.push.new.self.items c.in-Some.piece c.in-Some.ensures.items c.in_ok-push.ensures.items
      ∙ c.in_ok-cut_back.ensures.same
      ∙ c.loop-self.invariant.same;
}

pub returns-in_err-push-clause-counted : goal.returns-in_err-push-clause-counted
returns-in_err-push-clause-counted c =
    omega (arith, c.len.ensures, popped_count c.cut_back.new.self.front.items c.pop.new.self.items c.in-Some.piece c.cut_back.new.self.before c.in_ok-cut_back.ensures.counted c.in-Some.ensures.items)
