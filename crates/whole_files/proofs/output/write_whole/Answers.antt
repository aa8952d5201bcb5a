use Rattle.std.proofs.Common.{sym, subst}
use Rattle.whole_files.specs.Outputs.{AreOf}
use Rattle.whole_files.proofs.Named.{named_if, none_waits}
use Rattle.whole_files.proofs.output.write_whole.Goals as goal

pub returns : goal.returns
returns g c =
    let outputs = c.args.outputs.now in
    let none = none_waits outputs c.new-waiting.result.items c.new-waiting.ensures.items in
    let all = subst (AreOf outputs) (sym c.as_slice-2.ensures.value) (c.in_default.ensures.of none) in
    record { named = named_if outputs c.as_slice-2.result.now c.replace_all.result all c.replace_all.ensures }
