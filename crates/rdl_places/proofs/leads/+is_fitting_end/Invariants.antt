use Rattle.std.proofs.Common.{length}
use Rattle.rdl_places.proofs.leads.+is_fitting_end.Given as goal

abbrev pub decreases-is_fitting_end : goal.decreases-is_fitting_end
decreases-is_fitting_end l = length l.names.now
