use Rattle.rdl_seen.proofs.Unmoved.{cuts_off, ignores_other_types, ignores_other_defaults}
use Rattle.rdl_seen.proofs.laws.components_listen_no_further.Goals as goal

pub returns-clause-cut_off : goal.returns-clause-cut_off
returns-clause-cut_off c = cuts_off

pub returns-clause-types : goal.returns-clause-types
returns-clause-types c = ignores_other_types

pub returns-clause-defaults : goal.returns-clause-defaults
returns-clause-defaults c = ignores_other_defaults
