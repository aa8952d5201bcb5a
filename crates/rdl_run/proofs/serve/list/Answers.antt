use Rattle.std.proofs.Common.{ap, ◌∙◌}
use Rattle.rdl_list.specs.ListText.{list_lines}
use Rattle.rdl_run.proofs.serve.list.Goals as goal

pub returns-in-Ok-text-clause-lists : goal.returns-in-Ok-text-clause-lists
returns-in-Ok-text-clause-lists c =
    record {
      laid_out = record { rows = c.in-Ok.rows; are = c.in-Ok.ensures };
      lines = c.in-Ok-text.ensures ∙ ap list_lines c.as_slice.ensures;
    }
