-- Each item up to here has no fault in a field.
use Rattle.rdl_renew.specs.Judged.{IsCleanInField}
use Rattle.rdl_renew.proofs.ApartItems.{AllFrom}
use Rattle.rdl_renew.proofs.judge.is_clean_field.Given as goal

abbrev pub invariant-loop-i : goal.invariant-loop-i
invariant-loop-i l = AllFrom (λ j y. IsCleanInField y) l.body 0 l.i
