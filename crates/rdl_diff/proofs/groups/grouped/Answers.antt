use Rattle.std.proofs.Common.{[], ap, sym, ◌∙◌}
use Rattle.rdl_diff.specs.Alike.{joined}
use Rattle.rdl_diff.specs.Seen.{items_seen}
use Rattle.rdl_diff.proofs.Joining.{grouped-more}
use Rattle.rdl_diff.proofs.groups.grouped.Goals as goal

pub runs-preserved : goal.runs-preserved
runs-preserved c = record {
  keyed = c.in_ok-join.ensures.keyed;
  joined =
      c.in_ok-join.ensures.joined
      ∙ ap (λ gs. joined c.args.depth gs (items_seen c.in-Some.run'.items)) c.runs.invariant.joined
      ∙ sym (grouped-more (λ r. items_seen r.items) c.args.depth [] c.runs.yielded c.in-Some.run');
}
