use Rattle.std.proofs.Common.{ap, ◌∙◌}
use Rattle.rdl_elab.specs.Start.{full_alignment}
use Rattle.rdl_elab.specs.Capped.{capped}
use Rattle.rdl_elab.proofs.CappedNumbers.{full_array}
use Rattle.rdl_elab.proofs.layout.place.full_alignment.Goals as goal

pub returns-then-is_array : goal.returns-then-is_array
returns-then-is_array c =
    full_array c.args.is_array c.args.elements c.from.result c.saturating_mul.result c.capped-whole.result c.next_power_of_two.result c.min.result
    c.if-is_array.true c.saturating_mul.ensures c.capped-whole.ensures c.next_power_of_two.ensures.power c.next_power_of_two.ensures.lower_bound c.next_power_of_two.ensures.upper_bound c.min.ensures
    ∙ ap (λ s. capped (full_alignment c.args.is_array c.args.elements s)) c.from.ensures
