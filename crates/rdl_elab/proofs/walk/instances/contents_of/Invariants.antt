use Rattle.std.proofs.Common.{◌≡◌, ◌≤◌, ◌+◌, false, drop}
use Rattle.std.specs.Prelude.{min, max, slice_get}
use Rattle.rdl_elab.specs.Inside.{kept_levels, finished_rows, kept_empty, IsCounted}
use Rattle.rdl_elab.proofs.walk.instances.contents_of.Given as goal

abbrev pub invariant-loop-part : goal.invariant-loop-part
invariant-loop-part l = record {
  levels : min (max l.contents.levels (kept_levels l.components (drop l.part-index l.parts))) 16 ≡ min (kept_levels l.components l.parts) 16;
  shallow : l.contents.levels ≤ 16;
  last : IsCounted (slice_get l.components l.last.number) l.contents.levels l.contents.has_empty l.last.rows;
  rows : min (l.contents.rows + finished_rows l.components (drop l.part-index l.parts)) 65536 ≡ min (finished_rows l.components l.parts) 65536;
  few : l.contents.rows ≤ 65536;
  empty : l.contents.has_empty ≡ false → kept_empty l.components (drop l.part-index l.parts) ≡ kept_empty l.components l.parts;
}
