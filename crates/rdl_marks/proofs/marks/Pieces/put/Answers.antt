use Rattle.std.proofs.Common.{◌≡◌, ◌+◌, length, rules, arith}
use Rattle.std.proofs.lemmas.Grind.{common_steps}
use Rattle.rdl_marks.specs.View.{piece_traces}
use Rattle.rdl_marks.proofs.Cuts.{traces_put, put_counted}
use Rattle.rdl_marks.proofs.marks.Pieces.put.Goals as goal

pub returns-clause-counted : goal.returns-clause-counted
returns-clause-counted c =
    let sum : c.in-Some.before ≡ c.args.self.now.before + length (piece_traces c.args.piece) = first_of (omega arith, search rules, grind (arith, common_steps)) in
    put_counted c.args.self.now.front.items c.push.new.self.items c.args.piece c.args.self.now.before c.in-Some.before c.requires sum c.in_ok-push.ensures.items

pub returns-clause-before : goal.returns-clause-before
returns-clause-before c = traces_put c.args.self.now.front.items c.push.new.self.items c.args.piece c.in_ok-push.ensures.items
