-- The verdict of a dynamic assignment, as it is kept.
-- own: how the code holds verdicts.
use Rattle.rdl_nodes.specs.declared.verdict.Asked.{Asked}
use Rattle.rdl_nodes.specs.declared.verdict.Asked.TheVariants.{Order, Room}
use Rattle.rdl_nodes.specs.declared.verdict.HeldVerdict.{HeldVerdict}
use Rattle.rdl_nodes.specs.declared.verdict.HeldVerdict.TheVariants.{Known, AsksOwn}
use Rattle.rdl_seen.specs.Inside as inside

abbrev pub asked_of : Asked → inside.Asked
asked_of Order = inside.order
asked_of (Room bits) = inside.room bits

abbrev pub verdict_of : HeldVerdict → inside.Verdict
verdict_of (Known b) = inside.known b
verdict_of (AsksOwn a number) = inside.asks_own (asked_of a) number
