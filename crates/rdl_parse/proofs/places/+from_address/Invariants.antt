use Rattle.std.proofs.Common.{length}
use Rattle.rdl_parse.proofs.places.+from_address.Given as goal

abbrev pub decreases-from_address : goal.decreases-from_address
decreases-from_address l = length l.path.now
