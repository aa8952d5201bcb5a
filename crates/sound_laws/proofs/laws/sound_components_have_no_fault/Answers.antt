use Rattle.sound_laws.proofs.Maps.{faultless, map_faultless, map_rows}
use Rattle.sound_laws.proofs.Unjudged.{unjudged}
use Rattle.sound_laws.proofs.laws.sound_components_have_no_fault.Goals as goal

pub returns-clause-below : goal.returns-clause-below
returns-clause-below c = faultless

pub returns-clause-unjudged : goal.returns-clause-unjudged
returns-clause-unjudged c = unjudged

pub returns-clause-map : goal.returns-clause-map
returns-clause-map c = map_faultless

pub returns-clause-rows : goal.returns-clause-rows
returns-clause-rows c = map_rows
