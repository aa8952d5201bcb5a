use Rattle.rdl_marks.proofs.Described.{nothing_changed, one_described, all_described}
use Rattle.rdl_marks.proofs.laws.marks_describe.Goals as goal

pub returns-clause-first : goal.returns-clause-first
returns-clause-first c = λ old. nothing_changed old

pub returns-clause-one : goal.returns-clause-one
returns-clause-one c = λ back m p old now h e k. one_described p back m old now h e k

pub returns-clause-all : goal.returns-clause-all
returns-clause-all c = λ ps m old now h k. all_described ps m old now h k
