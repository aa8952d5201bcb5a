use Rattle.rdl_origin.specs.View.{list_of}
use Rattle.rdl_weave.specs.Coarse.{coarse}
use Rattle.rdl_weave.proofs.Covered.{keeps_covered}
use Rattle.rdl_weave.proofs.Fitting.{keeps_order_of}
use Rattle.rdl_weave.proofs.Spoken.{spells_coarse}
use Rattle.rdl_weave.proofs.laws.coarse_texts_stand.Goals as goal

pub returns-clause-keeps : goal.returns-clause-keeps
returns-clause-keeps c = λ source sizes l t last h. keeps_covered source sizes (coarse source sizes l t last) l (list_of t) h

pub returns-clause-spells : goal.returns-clause-spells
returns-clause-spells c = λ source canonical l t last h short. spells_coarse source canonical l t last h short

pub returns-clause-order : goal.returns-clause-order
returns-clause-order c = λ source l t last s u w v o r. keeps_order_of source l t last s u w v o r
