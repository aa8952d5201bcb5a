use Rattle.std.proofs.Common.{◌+◌, ◌*◌}
use Rattle.library_tests.proofs.statements.+shown.Given as goal

abbrev pub decreases-push_statement : goal.decreases-push_statement
decreases-push_statement l = 2 * l.levels

abbrev pub decreases-push_statements : goal.decreases-push_statements
decreases-push_statements l = 2 * l.levels + 1
