use Rattle.std.proofs.Common.{◌∙◌, ap}
use Rattle.rdl_seen.specs.Inside.{with_instance}
use Rattle.rdl_nodes.specs.HeldInside.{within_of, inside_of}
use Rattle.rdl_nodes.proofs.Instances.{inside_more}
use Rattle.rdl_nodes.proofs.inside.Inside.push.Goals as goal

pub returns : goal.returns
returns c =
    ap inside_of c.in_ok-push.ensures.items
    ∙ inside_more c.self.inside.instances.items (record { name = c.args.name; within = c.args.within })
    ∙ ap (with_instance c.args.name.now (within_of c.args.within)) c.self.view_is
