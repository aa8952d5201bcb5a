use Rattle.std.proofs.Common.{◌∙◌}
use Rattle.rdl_nodes.proofs.contents.Contents.again.Goals as goal

pub returns : goal.returns
returns c = λ before inside same.
    let sums = c.of-sums.ensures in
    record {
      levels = inside.levels ∙ same.levels;
      depth = inside.depth ∙ same.depth;
      rows = sums.rows;
      has_instances = inside.has_instances ∙ same.has_instances;
      count = sums.count;
      weight = sums.weight;
      has_empty = inside.has_empty ∙ same.has_empty;
      sound = inside.sound ∙ same.sound;
      takes = sums.takes;
      asks = inside.asks ∙ same.asks;
      is_assigned = inside.is_assigned ∙ same.is_assigned;
    }
