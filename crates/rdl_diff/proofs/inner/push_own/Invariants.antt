use Rattle.std.proofs.Common.{◌≡◌, ◌++◌, flat_map, take, string_bytes}
use Rattle.rdl_diff.specs.Alike.{own_text}
use Rattle.rdl_diff.specs.Seen.{change_seen}
use Rattle.rdl_diff.proofs.inner.push_own.Given as goal

abbrev pub invariant-changes : goal.invariant-changes
invariant-changes l = string_bytes l.text ≡ string_bytes l.initial.text ++ flat_map (λ c. own_text (change_seen c)) (take l.change-index l.changes)
