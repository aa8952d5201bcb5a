use Rattle.std.proofs.Common.{◌≡◌, length, IsUtf8}
use Rattle.rdl_script.specs.Operands.{all_of, segment_in, parts}
use Rattle.rdl_script.proofs.Splits.{ahead}
use Rattle.rdl_script.proofs.path.all_segments.Given as goal

abbrev pub invariant-parts : goal.invariant-parts
invariant-parts l = record { utf8 : IsUtf8 l.rest; told : ahead l.path (all_of segment_in (parts 47 l.rest)) ≡ all_of segment_in (parts 47 l.fn.text) }

abbrev pub decreases-parts : goal.decreases-parts
decreases-parts l = length l.rest
