use Rattle.rdl_seen.proofs.Alerts.{unreached_are_kept, unreached_are_known, nothing_differs, more_may_differ, stays_behind, stays_behind_type, types_come_and_go, defaults_come_and_go}
use Rattle.rdl_seen.proofs.laws.alerts_tell.Goals as goal

pub returns-clause-kept : goal.returns-clause-kept
returns-clause-kept c = unreached_are_kept

pub returns-clause-known : goal.returns-clause-known
returns-clause-known c = unreached_are_known

pub returns-clause-nothing : goal.returns-clause-nothing
returns-clause-nothing c = nothing_differs

pub returns-clause-more : goal.returns-clause-more
returns-clause-more c = more_may_differ

pub returns-clause-behind : goal.returns-clause-behind
returns-clause-behind c = stays_behind

pub returns-clause-behind_type : goal.returns-clause-behind_type
returns-clause-behind_type c = stays_behind_type

pub returns-clause-types : goal.returns-clause-types
returns-clause-types c = types_come_and_go

pub returns-clause-defaults : goal.returns-clause-defaults
returns-clause-defaults c = defaults_come_and_go
