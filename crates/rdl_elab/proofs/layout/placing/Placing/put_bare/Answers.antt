use Rattle.std.specs.Prelude.{max}
use Rattle.std.proofs.Common.{ap, sym, ◌∙◌}
use Rattle.rdl_elab.proofs.BarePlaces.{bare_end}
use Rattle.rdl_elab.proofs.Placing.{behind-one}
use Rattle.rdl_elab.proofs.layout.placing.Placing.put_bare.Goals as goal

pub returns-clause-one : goal.returns-clause-one
returns-clause-one c = λ item behind so.
    let old = c.args.self.now in
    let from = c.next_multiple-start.result in
    behind-one old.alignment old.mode old.end old.size old.access old.spans.items item from c.min-end.result c.max-self.result c.max-self-2.result c.push.new.self.items
    (c.next_multiple-start.ensures ∙ so.starts old.end) (bare_end item from c.args.place.size c.saturating_add.result c.min-end.result so.elements so.size c.saturating_add.ensures c.min-end.ensures)
    c.max-self.ensures (c.max-self-2.ensures ∙ ap (λ a. max old.access a) (sym so.access)) c.in_ok-push.ensures.items behind
