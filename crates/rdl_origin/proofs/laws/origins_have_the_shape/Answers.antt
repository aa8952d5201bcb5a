use Rattle.rdl_origin.proofs.Shapes.{shape-numbered, all_placed, all_shape}
use Rattle.rdl_origin.proofs.laws.origins_have_the_shape.Goals as goal

pub returns-clause-first : goal.returns-clause-first
returns-clause-first c = λ last. shape-numbered 0 last

pub returns-clause-placed : goal.returns-clause-placed
returns-clause-placed c = λ ps t origins e h. all_placed ps t origins e h

pub returns-clause-then : goal.returns-clause-then
returns-clause-then c = λ ps t origins e h. all_shape ps t origins e h
