use Rattle.rdl_script.specs.Commands.{lines_of}
use Rattle.run_laws.proofs.FirstStays.{stays_first, found, in_order}
use Rattle.run_laws.proofs.scripts.edited_texts_are_found.Goals as goal

pub returns-clause-first : goal.returns-clause-first
returns-clause-first c = λ option limit bytes script last no l. stays_first option limit bytes l.first (lines_of script) l.replies l.refuses last no l.opens l.serves

pub returns-clause-found : goal.returns-clause-found
returns-clause-found c = λ options map script canonical edited e none no asked missing. found options map script canonical edited e none no asked missing

pub returns-clause-order : goal.returns-clause-order
returns-clause-order c = λ options map script canonical text e none no asked. in_order options map script canonical text e none no asked
