use Rattle.rdl_scope.proofs.Accepted.{clear-root, clear-inside, kinds-allowed}
use Rattle.rdl_scope.proofs.laws.accepted_items_have_no_fault.Goals as goal

pub returns : goal.returns
returns c = record { root = clear-root; inside = clear-inside; kinds = λ d none a c n s o k. kinds-allowed d a c n s o k none }
