-- The end of the comment in what is left, so many bytes further, is that in all.
use Rattle.std.proofs.Common.{◌≡◌, ◌-◌, drop, length}
use Rattle.rdl_text.specs.Words.{comment_end}
use Rattle.rdl_text.proofs.Closing.{further}
use Rattle.rdl_source.proofs.gap.comment_end.Given as goal

abbrev pub invariant-slashes : goal.invariant-slashes
invariant-slashes l = further l.at (comment_end (drop l.at l.bytes)) ≡ comment_end l.bytes

abbrev pub decreases-slashes : goal.decreases-slashes
decreases-slashes l = length l.bytes - l.at
