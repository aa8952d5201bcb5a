use Rattle.std.proofs.lemmas.Result.{err_from_is_err_and}
use Rattle.std.proofs.Common.{◌≡◌, ◌+◌, arith, ap, sym, ◌∙◌, true, false, Ok, Err}
use Rattle.rdl_tree.specs.View.{items_of}
use Rattle.rdl_parse.specs.Finds.{seen}
use Rattle.rdl_parse.specs.Reading.{goes_on}
use Rattle.rdl_parse.specs.Symbol.{symbols}
use Rattle.rdl_parse.specs.declared.fault.Fault.TheVariants.{TooDeep}
use Rattle.rdl_parse.proofs.Bodies.{body-unopened, body-deep, body-unfilled, body-unclosed, body-closed, statement-smaller, statements-fails, statements-next, statements-done}
use Rattle.rdl_parse.proofs.reader.Reader.+parse.Goals as goal

pub body-returns-in_err-mark : goal.body-returns-in_err-mark
body-returns-in_err-mark t c =
    let p = err_from_is_err_and c.from_residual.result c.from_residual.ensures.1 in
    rw (p.1, p.2) (body-unopened _ c.args.levels c.args.room (symbols c.args.self.now.rest) c.in_err-mark.ensures)

pub body-returns-then-levels-eq0 : goal.body-returns-then-levels-eq0
body-returns-then-levels-eq0 t c =
    body-deep c.args.levels c.args.room (symbols c.args.self.now.rest) _ c.in_ok-mark.ensures c.if-levels-eq0.true ∙ ap (λ n. Err (TooDeep (n + 1))) (sym c.len.ensures.len)

pub body-returns-in_err-items : goal.body-returns-in_err-items
body-returns-in_err-items t c =
    let p = err_from_is_err_and c.from_residual-in_err-items.result c.from_residual-in_err-items.ensures.1 in
    rw (p.1, p.2) (body-unfilled _ c.args.levels c.args.room (symbols c.args.self.now.rest) _ c.in_ok-mark.ensures (omega arith) c.in_err-items.ensures)

pub body-returns-in_err-mark-2 : goal.body-returns-in_err-mark-2
body-returns-in_err-mark-2 t c =
    let p = err_from_is_err_and c.from_residual-in_err-mark-2.result c.from_residual-in_err-mark-2.ensures.1 in
    rw (p.1, p.2) (body-unclosed _ c.args.levels c.args.room (symbols c.args.self.now.rest) _ _ _ c.in_ok-mark.ensures (omega arith) c.in_ok-items.ensures c.in_err-mark-2.ensures)

pub body-returns : goal.body-returns
body-returns t c =
    body-closed c.args.levels c.args.room (symbols c.args.self.now.rest) _ (seen c.in_ok-items.field-0) (symbols c.statements.new.self.rest) (symbols c.mark-2.new.self.rest) c.in_ok-mark.ensures (omega arith) c.in_ok-items.ensures c.in_ok-mark-2.ensures
    ∙ ap (λ b. Ok (record { items = b; spots = c.in_ok-items.field-0.spots.items }, symbols c.mark-2.new.self.rest)) (sym (c.from_vec.ensures ∙ ap items_of c.shrink_to_fit.ensures.items))

pub statements-returns-in_err-room : goal.statements-returns-in_err-room
statements-returns-in_err-room t c =
    let p = err_from_is_err_and c.from_residual.result c.from_residual.ensures.1 in
    let on : goes_on (symbols c.turns.self.rest) ≡ true = sym c.goes_on.ensures ∙ c.turns-test.true in
    rw (p.1, p.2) (statements-fails _ c.args.levels c.args.before (symbols c.args.self.now.rest) (seen c.turns.found, c.turns.room) (symbols c.turns.self.rest) on c.in_err-room.ensures c.turns.invariant)

pub statements-turns-smaller : goal.statements-turns-smaller
statements-turns-smaller t c = statement-smaller _ _ _ _ _ _ c.in_ok-room.ensures

pub statements-turns-preserved : goal.statements-turns-preserved
statements-turns-preserved t c =
    let on : goes_on (symbols c.turns.self.rest) ≡ true = sym c.goes_on.ensures ∙ c.turns-test.true in
    statements-next c.args.levels _ (seen c.turns.found, c.turns.room) (symbols c.turns.self.rest) (seen c.statement.new.found, c.in_ok-room.room) (symbols c.statement.new.self.rest) on c.in_ok-room.ensures c.turns.invariant

pub statements-returns : goal.statements-returns
statements-returns t c =
    let over : goes_on (symbols c.turns.self.rest) ≡ false = sym c.goes_on.ensures ∙ c.turns-test.false in
    statements-done c.args.levels c.args.before (symbols c.args.self.now.rest) (seen c.turns.found, c.turns.room) (symbols c.turns.self.rest) over c.turns.invariant
