use Rattle.rdl_run.proofs.Continued.{has_output}
use Rattle.rdl_run.proofs.laws.each_run_has_an_output.Goals as goal

pub returns : goal.returns
returns c = λ options map script. let o = has_output options map script in (o.out, o.is_output)
