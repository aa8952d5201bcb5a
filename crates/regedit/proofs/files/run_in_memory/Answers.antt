use Rattle.regedit.proofs.FromRun.{have_left}
use Rattle.regedit.proofs.files.run_in_memory.Goals as goal

pub returns : goal.returns
returns g c = record {
  left = have_left c.args.asked.now _ _ _ _ c.in_ok-texts.texts c.left_by.result c.in_ok-texts.ensures.ran c.in_ok-texts.ensures.beside c.left_by.ensures.ending c.left_by.ensures.outputs;
}
