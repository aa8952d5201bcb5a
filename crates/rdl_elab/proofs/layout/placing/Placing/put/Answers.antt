use Rattle.rdl_elab.proofs.Placing.{behind-one}
use Rattle.rdl_elab.proofs.layout.placing.Placing.put.Goals as goal

pub returns-clause-one : goal.returns-clause-one
returns-clause-one c =
    let old = c.args.self.now in
    behind-one old.alignment old.mode old.end old.size old.access old.spans.items c.args.item c.start_of-start.result c.end_of-end.result c.max-self.result c.max-self-2.result c.push.new.self.items
    c.start_of-start.ensures c.end_of-end.ensures c.max-self.ensures c.max-self-2.ensures c.in_ok-push.ensures.items
