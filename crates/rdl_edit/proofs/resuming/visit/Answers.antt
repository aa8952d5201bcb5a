use Rattle.std.proofs.Common.{◌∙◌}
use Rattle.rdl_elab.proofs.KnownRows.{levels-few}
use Rattle.rdl_edit.proofs.Walking.{home-lead, home-there, home-again}
use Rattle.rdl_edit.proofs.resuming.visit.Goals as goal

pub come_back-requires : goal.come_back-requires
come_back-requires c =
    home-lead c.args.steps.items c.args.description.now.items c.go.new.description.items _ c.in-Ok-go.ways.items c.in-Ok-go.ensures.fits (levels-few c.args.description.now.items c.args.held.now.top c.requires.rows) c.in-Ok-go.ensures.there c.in-Ok-go.ensures.ways

pub returns-in-Ok-come_back-clause-home : goal.returns-in-Ok-come_back-clause-home
returns-in-Ok-come_back-clause-home c =
    c.in-Ok-come_back.ensures.home
    ∙ home-there c.args.steps.items c.args.description.now.items c.go.new.description.items _ c.in-Ok-go.ways.items c.in-Ok-go.ensures.fits (levels-few c.args.description.now.items c.args.held.now.top c.requires.rows) c.in-Ok-go.ensures.there c.in-Ok-go.ensures.ways

pub returns-in-Ok-come_back-clause-steps : goal.returns-in-Ok-come_back-clause-steps
returns-in-Ok-come_back-clause-steps c =
    c.in-Ok-come_back.ensures.steps
    ∙ home-again c.args.steps.items c.args.description.now.items c.go.new.description.items _ c.in-Ok-go.ways.items c.in-Ok-go.ensures.fits (levels-few c.args.description.now.items c.args.held.now.top c.requires.rows) c.in-Ok-go.ensures.there c.in-Ok-go.ensures.ways
