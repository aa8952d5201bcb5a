use Rattle.std.specs.Option.{option_copied}
use Rattle.rdl_run.proofs.Opened.{opened}
use Rattle.rdl_run.proofs.open.open_map.Goals as goal

pub returns-in-Ok-map_shown-clause-opens : goal.returns-in-Ok-map_shown-clause-opens
returns-in-Ok-map_shown-clause-opens c =
    opened (option_copied c.args.name) _ c.args.bytes.now _ _ c.in-Ok-map_shown.map.state c.in-Ok.ensures.read c.in-Ok-map_shown.ensures.ok c.in-Ok-map_shown.ensures.accepted c.in_ok-copied.ensures
