use denote.Text.{Utf8}
use denote.Shadow.{shadow}
use Rattle.whole_files.proofs.output.sync_folders.Given as goal

abbrev pub invariant-loop-one : goal.invariant-loop-one
invariant-loop-one g l = shadow (Utf8 l.synced)
