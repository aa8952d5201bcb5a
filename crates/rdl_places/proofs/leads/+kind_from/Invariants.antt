use Rattle.std.proofs.Common.{length}
use Rattle.rdl_places.proofs.leads.+kind_from.Given as goal

abbrev pub decreases-kind_from : goal.decreases-kind_from
decreases-kind_from l = length l.names.now
