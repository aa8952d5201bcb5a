use Rattle.std.proofs.Common.{ap, ◌∙◌}
use Rattle.rdl_places.specs.Ends.{verdict_at}
use Rattle.rdl_places.specs.HeldScope.{places_of}
use Rattle.rdl_seen.specs.Inside.{asked}
use Rattle.rdl_places.proofs.Ends.{verdict_is}
use Rattle.rdl_places.proofs.leads.verdict_of.Goals as goal

pub returns : goal.returns
returns c lay is =
    let ps = places_of c.args.scope.now in
    c.asked_verdict.ensures
    ∙ ap (λ a. verdict_at a c.args.target.now ps) c.asked.ensures
    ∙ verdict_is lay (asked c.args.property.now c.args.value.now) c.args.target.now ps is
