use Rattle.sound_laws.proofs.Maps.{named, harmless}
use Rattle.sound_laws.proofs.Fitting.{fitting_harmless}
use Rattle.sound_laws.proofs.laws.sound_components_do_no_harm.Goals as goal

pub returns-clause-named : goal.returns-clause-named
returns-clause-named c = named

pub returns-clause-harmless : goal.returns-clause-harmless
returns-clause-harmless c = harmless

pub returns-clause-told : goal.returns-clause-told
returns-clause-told c = fitting_harmless
