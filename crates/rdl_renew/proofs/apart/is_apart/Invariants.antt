use Rattle.std.proofs.Common.{◌≡◌}
use Rattle.std.specs.Prelude.{false}
use Rattle.rdl_renew.specs.Apart.{has_same_key}
use Rattle.rdl_renew.proofs.ApartItems.{AllFrom}
use Rattle.rdl_renew.proofs.apart.is_apart.Given as goal

abbrev pub invariant-loop-i : goal.invariant-loop-i
invariant-loop-i l = AllFrom (λ j z. (j ≡ l.number → ⊥) → has_same_key l.item z ≡ false) l.body 0 l.i
