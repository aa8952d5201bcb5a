use Rattle.std.proofs.Common.{◌++◌, ap, ◌∙◌, flat_map}
use Rattle.rdl_diff.specs.Alike.{told_inside}
use Rattle.rdl_diff.specs.Seen.{items_seen}
use Rattle.rdl_diff.proofs.Cuts.{runs_flat}
use Rattle.rdl_diff.proofs.once.told_at.Goals as goal

pub returns : goal.returns
returns c =
    let d = c.args.depth in
    let rs = c.in_ok-runs.runs.items in
    c.in_ok-push_runs.ensures
    ∙ ap (λ told. items_seen told ++ flat_map (λ r. told_inside d (items_seen r.items)) rs) c.in_ok-told.ensures.items
    ∙ runs_flat (λ r. items_seen r.items) d rs
    ∙ ap (flat_map (told_inside d)) c.in_ok-runs.ensures
