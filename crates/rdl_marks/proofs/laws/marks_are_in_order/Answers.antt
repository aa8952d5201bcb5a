use Rattle.rdl_marks.proofs.Apart.{had_other_numbers}
use Rattle.rdl_marks.proofs.Orders.{first_in_order, stays_in_order, stay_in_order, passes_over, goes_on}
use Rattle.rdl_marks.proofs.laws.marks_are_in_order.Goals as goal

pub returns-clause-first : goal.returns-clause-first
returns-clause-first c = first_in_order

pub returns-clause-one : goal.returns-clause-one
returns-clause-one c = stays_in_order

pub returns-clause-all : goal.returns-clause-all
returns-clause-all c = stay_in_order

pub returns-clause-passed : goal.returns-clause-passed
returns-clause-passed c = passes_over

pub returns-clause-on : goal.returns-clause-on
returns-clause-on c = goes_on

pub returns-clause-apart : goal.returns-clause-apart
returns-clause-apart c = had_other_numbers
