use Rattle.std.proofs.Common.{◌≡◌, ◌++◌, flat_map, string_bytes}
use Rattle.rdl_diff.specs.Left.{left, texts_left}
use Rattle.rdl_diff.specs.Written.{diff_text}
use Rattle.rdl_diff.proofs.diff.diff_text.Given as goal

abbrev pub invariant-texts : goal.invariant-texts
invariant-texts l = diff_text l.choice l.old l.new ≡ string_bytes l.text ++ flat_map (λ t. t) (left l.differences)

abbrev pub decreases-texts : goal.decreases-texts
decreases-texts l = texts_left l.differences
