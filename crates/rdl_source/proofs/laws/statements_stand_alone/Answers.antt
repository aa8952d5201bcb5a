use Rattle.rdl_source.proofs.Standing.{statements_alone, statements_shallow}
use Rattle.rdl_source.proofs.laws.statements_stand_alone.Goals as goal

pub returns-clause-alone : goal.returns-clause-alone
returns-clause-alone c = λ source ws d p laid u h s lie. statements_alone source ws d p laid u h s lie

pub returns-clause-shallow : goal.returns-clause-shallow
returns-clause-shallow c = λ source ws d p laid u h s lie. statements_shallow source ws d p laid u h s lie
