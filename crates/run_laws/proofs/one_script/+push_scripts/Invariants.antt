use Rattle.std.proofs.Common.{length}
use Rattle.run_laws.proofs.one_script.+push_scripts.Given as goal

abbrev pub decreases-push_scripts : goal.decreases-push_scripts
decreases-push_scripts l = length l.scripts.now
