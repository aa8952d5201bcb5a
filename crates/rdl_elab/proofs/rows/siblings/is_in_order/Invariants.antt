use Rattle.std.proofs.Common.{◌≡◌, drop}
use Rattle.rdl_elab.specs.SiblingsBefore.{in_order}
use Rattle.rdl_elab.proofs.rows.siblings.is_in_order.Given as goal

abbrev pub invariant-loop-span : goal.invariant-loop-span
invariant-loop-span l = in_order l.end (drop l.span-index l.spans) ≡ in_order 0 l.spans
