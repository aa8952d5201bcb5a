use Rattle.std.proofs.Common.{◌≡◌, ◌+◌, Some, refl, sym, ap, ◌∙◌, arith}
use Rattle.rdl_marks.specs.View.{in_order, same_item}
use Rattle.rdl_renew.specs.declared.along.Along.{Along}
use Rattle.rdl_renew.proofs.Passed.{same_told, same_passed}
use Rattle.rdl_renew.proofs.along.Along.next.Goals as goal

pub returns-then-self-clause-passed : goal.returns-then-self-clause-passed
returns-then-self-clause-passed c = λ i few was.
    let a = c.args.self.now in
    let b : Along = record { pieces = a.pieces; items = a.items + 1; same = a.same } in
    same_passed (in_order c.args.pieces.now) c.args.behind a b i 1 was (omega (arith, c.if-self.true)) refl refl refl

pub returns-then-self-clause-next : goal.returns-then-self-clause-next
returns-then-self-clause-next c = λ gone i was numbered.
    let a = c.args.self.now in
    let told = same_told (in_order c.args.pieces.now) c.args.behind gone a i was c.if-self.true in
    let few = numbered (a.same.from + a.items) told in
    let number : c.saturating_add-number.result ≡ a.same.from + a.items = c.saturating_add-number.ensures ∙ omega (arith, few) in
    told ∙ ap (λ n. Some (same_item n)) (sym number)
