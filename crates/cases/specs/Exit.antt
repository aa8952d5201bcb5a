-- The exit status of a run and of a comparison that wrote its whole output. Own.
use Rattle.std.specs.Prelude.{ℕ}
use Rattle.rdl_diff.specs.declared.status.Status.{Status as Comparison}
use Rattle.rdl_diff.specs.declared.status.Status.TheVariants as comparisons
use Rattle.rdl_run.specs.declared.status.Status.{Status}
use Rattle.rdl_run.specs.declared.status.Status.TheVariants as statuses

abbrev pub status_code : Status → ℕ
status_code statuses.Accepted = 0
status_code statuses.LineRefused = 1
status_code statuses.MapRefused = 2
status_code (statuses.Incomplete missing) = 3

abbrev pub comparison_code : Comparison → ℕ
comparison_code comparisons.Same = 0
comparison_code comparisons.Different = 1
comparison_code comparisons.MapRefused = 2
