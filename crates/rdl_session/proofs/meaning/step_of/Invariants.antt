use Rattle.std.proofs.Common.{◌≡◌, length}
use Rattle.std.specs.Prelude.{map}
use Rattle.rdl_session.specs.Meaning.{all_of, patch_of}
use Rattle.rdl_session.specs.Seen.{seen}
use Rattle.rdl_session.proofs.Cuts.{ahead}
use Rattle.rdl_session.proofs.meaning.step_of.Given as goal

abbrev pub invariant-lines : goal.invariant-lines
invariant-lines l = ahead l.patches.items (all_of patch_of (map seen l.rest)) ≡ all_of patch_of (map seen l.fn.lines)

abbrev pub decreases-lines : goal.decreases-lines
decreases-lines l = length l.rest
