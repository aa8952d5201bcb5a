-- Whatever lies behind what has been read so far lies with it behind the begin.
use Rattle.std.proofs.Common.{◌+◌, ◌-◌, ◌*◌, ◌≤◌, length}
use Rattle.rdl_source.specs.LaidOut.{IsGap}
use Rattle.rdl_source.proofs.Laying.{Done}
use Rattle.rdl_source.proofs.One.{Undone}
use Rattle.rdl_source.proofs.lay.+lay.Given as goal

abbrev pub decreases-read_body : goal.decreases-read_body
decreases-read_body l = 2 * l.levels + 1

abbrev pub decreases-read_words : goal.decreases-read_words
decreases-read_words l = 2 * l.levels

abbrev pub invariant-read_body-statements : goal.invariant-read_body-statements
invariant-read_body-statements l = record {
  gap : IsGap l.text l.words l.spot.left l.gap.right l.spot.at l.spot.word l.gap.lead.to l.gap.trail.to l.gap.float l.gap.lead;
  done : Done l.text l.words l.fn.begin l.first.trail.to l.fn.places l.list.items l.spot l.gap.trail.to l.rest;
  undone : Undone l.text l.words l.levels l.fn.begin l.first.trail.to l.fn.places l.list.items l.spot l.gap.trail.to l.rest;
  forward : l.fn.begin.word ≤ l.spot.word;
}

abbrev pub decreases-read_body-statements : goal.decreases-read_body-statements
decreases-read_body-statements l = length l.words - l.spot.word
