use Rattle.rdl_reach.proofs.Steps.{places_what_is_in_reach, places_nothing}
use Rattle.rdl_reach.proofs.laws.steps_place_what_is_in_reach.Goals as goal

pub returns-clause-placed : goal.returns-clause-placed
returns-clause-placed c = places_what_is_in_reach

pub returns-clause-nothing : goal.returns-clause-nothing
returns-clause-nothing c = places_nothing
