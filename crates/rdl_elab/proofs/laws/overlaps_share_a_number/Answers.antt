use Rattle.rdl_elab.proofs.Overlaps.{overlap-shares, shares-overlap}
use Rattle.rdl_elab.proofs.laws.overlaps_share_a_number.Goals as goal

pub returns : goal.returns
returns c = record { shared = overlap-shares; apart = shares-overlap }
