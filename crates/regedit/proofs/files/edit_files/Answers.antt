use Rattle.regedit.proofs.FromRun.{is_ending_of}
use Rattle.regedit.proofs.files.edit_files.Goals as goal

pub returns : goal.returns
returns g c = record { ending = is_ending_of c.args.asked.now c.in_ok-ending.field-0 c.in_ok-ending.ensures.left }
