use Rattle.rdl_run.proofs.Undone.{undone-none}
use Rattle.rdl_run.proofs.laws.undone_edits_have_no_lines.Goals as goal

pub returns : goal.returns
returns c = λ old mid e before after made at there m old_rows new_rows laid_out again. undone-none old mid e before after m old_rows new_rows made at there laid_out again
