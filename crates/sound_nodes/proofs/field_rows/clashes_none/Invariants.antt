use Rattle.std.proofs.Common.{◌≡◌, drop}
use Rattle.std.specs.Prelude.{map}
use Rattle.rdl_seen.specs.Fields.{clashes_none}
use Rattle.rdl_nodes.specs.Part.{access_of}
use Rattle.sound_nodes.proofs.field_rows.clashes_none.Given as goal

abbrev pub invariant-loop-i : goal.invariant-loop-i
invariant-loop-i l = clashes_none l.span l.access l.spans (map access_of l.parts) ≡ clashes_none l.span l.access (drop l.i l.spans) (map access_of (drop l.i l.parts))
