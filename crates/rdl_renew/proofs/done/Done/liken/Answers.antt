use Rattle.std.proofs.Common.{◌≡◌, true, subst, rules}
use Rattle.rdl_nodes.specs.View.{slots_of}
use Rattle.rdl_renew.specs.InPlace.{AddSameAt}
use Rattle.rdl_renew.proofs.done.Done.liken.Goals as goal

pub returns-clause-add_same : goal.returns-clause-add_same
returns-clause-add_same c = λ yes.
    let before : c.args.self.now.add_same ≡ true = search (rules, yes) in
    let one : c.adds_same_at-adds_same.result ≡ true = search (rules, yes) in
    (before, subst (λ xs. AddSameAt c.args.number (slots_of c.args.before.now) (slots_of xs)) c.as_slice.ensures.value (c.adds_same_at-adds_same.ensures one))
