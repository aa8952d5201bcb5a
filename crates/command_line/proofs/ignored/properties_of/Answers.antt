use Rattle.std.proofs.Common.{inr, refl, sym}
use Rattle.command_line.proofs.Unknown.{known_more, unknown_here, unknown_later}
use Rattle.command_line.proofs.ignored.properties_of.Goals as goal

pub returns-in-None-clause-fault : goal.returns-in-None-clause-fault
returns-in-None-clause-fault c = inr (refl, c.names.invariant.unknown (unknown_here c.names.rest.now _ c.in-len1-up.len_at_least (sym c.in-None.ensures)))

pub names-preserved : goal.names-preserved
names-preserved c = record { known = known_more c.names.properties.items c.push.new.properties.items c.names.rest.now _ c.in-Some.known _ c.in-len1-up.len_at_least c.in-Some.ensures c.in_ok-push-in-Some.ensures c.names.invariant.known; unknown = λ h. c.names.invariant.unknown (unknown_later c.names.rest.now h) }
