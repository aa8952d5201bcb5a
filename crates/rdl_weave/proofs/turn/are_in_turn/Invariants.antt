use Rattle.std.proofs.Common.{drop}
use Rattle.rdl_source.specs.Laid.{ended}
use Rattle.rdl_source.specs.View.{last_of, put}
use Rattle.rdl_weave.specs.InTurn.{InTurn, still}
use Rattle.rdl_weave.proofs.turn.are_in_turn.Given as goal

abbrev pub invariant-statements : goal.invariant-statements
invariant-statements l =
    InTurn l.check.source.now (still l.check.sizes.now (put (drop l.statement-index l.statement-items) (ended (last_of l.statements))) l.rest) (drop l.at l.check.text.now)
    → InTurn l.check.source.now (still l.check.sizes.now l.statements l.origins) l.check.text.now
