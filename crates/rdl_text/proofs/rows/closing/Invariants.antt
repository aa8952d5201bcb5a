-- The quote of what is left, so many bytes further, is that of all.
use Rattle.std.proofs.Common.{◌≡◌, ◌-◌, false, drop, length}
use Rattle.rdl_text.specs.Rows.{closing}
use Rattle.rdl_text.proofs.Closing.{further}
use Rattle.rdl_text.proofs.rows.closing.Given as goal

abbrev pub invariant-near : goal.invariant-near
invariant-near l = further l.at (closing false (drop l.at l.bytes)) ≡ closing false l.bytes

abbrev pub decreases-near : goal.decreases-near
decreases-near l = length l.bytes - l.at

abbrev pub invariant-scan : goal.invariant-scan
invariant-scan l = further l.at (closing false (drop l.at l.bytes)) ≡ closing false l.bytes

abbrev pub decreases-scan : goal.decreases-scan
decreases-scan l = length l.bytes - l.at
