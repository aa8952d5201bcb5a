use Rattle.std.proofs.Common.{refl, arith}
use Rattle.rdl_origin.proofs.Values.{numbered-values, all-values}
use Rattle.rdl_origin.proofs.laws.untouched_items_are_the_same.Goals as goal

pub returns-clause-first : goal.returns-clause-first
returns-clause-first c = λ last h. numbered-values 0 last 0 last (omega (arith, h)) (λ m k. refl)

pub returns-clause-then : goal.returns-clause-then
returns-clause-then c = λ ps t last origins k h. all-values 0 last ps t origins k h
