use Rattle.std.proofs.Common.{◌∙◌}
use Rattle.rdl_places.specs.HeldScope.{places_of}
use Rattle.rdl_places.proofs.Ends.{kind_is}
use Rattle.rdl_places.proofs.leads.kind_in.Goals as goal

pub returns : goal.returns
returns c lay is = c.kind_at.ensures ∙ kind_is lay c.args.target.now (places_of c.args.scope.now) is
