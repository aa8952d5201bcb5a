-- No word so far is a semicolon or a brace.
use Rattle.std.proofs.Common.{◌≡◌, ℕ, ◌<◌, ◌≤◌, false, Some}
use Rattle.rdl_text.specs.Rows.{byte}
use Rattle.rdl_source.specs.LaidOut.{start_at, is_stop}
use Rattle.rdl_source.proofs.walk.stop_from.Given as goal

abbrev pub invariant-words : goal.invariant-words
invariant-words l = (i b : ℕ) → l.word ≤ i → i < l.number → start_at l.words i ≡ Some b → is_stop (byte l.text b) ≡ false
