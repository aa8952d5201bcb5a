use Rattle.std.proofs.Common.{ap}
use Rattle.rdl_diff.specs.Seen.{lines_seen}
use Rattle.rdl_diff.proofs.Matches.{lines_made}
use Rattle.rdl_diff.proofs.matched.lines.Goals as goal

pub returns : goal.returns
returns c =
    lines_made c.args.choice.now c.args.old.now c.args.new.now c.in_ok-matched.matched (lines_seen c.new-lines.result.items) (lines_seen c.push_renamed.new.lines.items) (lines_seen c.push_gone.new.lines.items) (lines_seen c.push_all_new.new.lines.items)
    c.as_slice.result.now c.as_slice-2.result.now c.in_ok-matched.ensures c.as_slice.ensures.value c.as_slice-2.ensures.value (ap lines_seen c.new-lines.ensures.items) c.in_ok-push_renamed.ensures c.in_ok-push_gone.ensures c.in_ok-push_all_new.ensures
