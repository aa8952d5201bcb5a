use Rattle.std.proofs.Common.{◌-◌, sym, subst}
use Rattle.rdl_marks.specs.View.{piece_traces}
use Rattle.rdl_renew.specs.Apart.{AreSame}
use Rattle.rdl_renew.proofs.ApartItems.{run_same, one_same}
use Rattle.rdl_renew.proofs.apart.is_kept.Goals as goal

pub returns-in-Kept : goal.returns-in-Kept
returns-in-Kept c e = subst (λ p. AreSame (piece_traces p)) (sym c.in-Kept.is) (run_same c.in-Kept.field-0 (c.in-Kept.field-1 - c.in-Kept.field-0))

pub returns-in-Marked : goal.returns-in-Marked
returns-in-Marked c e = subst (λ p. AreSame (piece_traces p)) (sym c.in-Marked.is) (one_same c.in-Marked.field-0 c.in-Marked.mark (c.has_no_firsts_but_its_type.ensures e))
