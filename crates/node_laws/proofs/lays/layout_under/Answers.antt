use Rattle.std.proofs.Common.{ap, ◌∙◌}
use Rattle.node_laws.specs.Laid.{seen_layout}
use Rattle.node_laws.proofs.AsLaid.{if_ok}
use Rattle.node_laws.proofs.lays.layout_under.Goals as goal

pub returns : goal.returns
returns c = if_ok c.seen_layout.result (λ x e. e ∙ ap seen_layout c.in_ok-layout.ensures) c.seen_layout.ensures
