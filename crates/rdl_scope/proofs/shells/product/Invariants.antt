use Rattle.std.proofs.Common.{◌≡◌, ◌*◌, ◌^◌, ◌-◌, ◌<◌, drop}
use Rattle.std.specs.Prelude.{min}
use Rattle.rdl_scope.specs.ItemFaults.{product}
use Rattle.rdl_scope.proofs.shells.product.Given as goal

abbrev pub invariant-loop-size : goal.invariant-loop-size
invariant-loop-size l = record {
  so_far : min (product l.sizes) (2 ^ 128 - 1) ≡ min (l.elements * product (drop l.size-index l.sizes)) (2 ^ 128 - 1);
  small : l.elements < 2 ^ 128;
}
