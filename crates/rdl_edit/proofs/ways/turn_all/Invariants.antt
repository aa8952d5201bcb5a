use Rattle.std.proofs.Common.{◌≡◌, ◌+◌, ◌++◌, length}
use mathlib.Core.List.{reverse}
use Rattle.rdl_tree.specs.Patch.{AllFit, image, inverses}
use Rattle.rdl_edit.specs.Resuming.{all_fit}
use Rattle.rdl_edit.proofs.ways.turn_all.Given as goal

abbrev pub invariant-loop-patch : goal.invariant-loop-patch
invariant-loop-patch l = record {
  made : image l.fn.patches.items l.fn.description.items ≡ image l.patch-iterator.rest.items l.description.items;
  back : inverses l.fn.patches.items l.fn.description.items ≡ inverses l.patch-iterator.rest.items l.description.items ++ reverse l.back.items;
  fit : AllFit l.patch-iterator.rest.items l.description.items → AllFit l.fn.patches.items l.fn.description.items;
  tested : all_fit l.fn.patches.items l.fn.description.items ≡ all_fit l.patch-iterator.rest.items l.description.items;
  all : l.yielded ++ l.patch-iterator.rest.items ≡ l.fn.patches.items;
  count : length l.yielded + l.patch-iterator.rest.len ≡ length l.fn.patches.items;
}
