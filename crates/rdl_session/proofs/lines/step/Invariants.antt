use Rattle.std.proofs.Common.{◌≡◌, ◌-◌}
use Rattle.std.specs.Prelude.{map}
use Rattle.rdl_session.specs.Reading.{many, patch_in, step_in}
use Rattle.rdl_session.specs.Seen.{seen}
use Rattle.rdl_session.proofs.Runs.{behind}
use Rattle.rdl_session.proofs.lines.step.Given as goal

abbrev pub invariant-patches : goal.invariant-patches
invariant-patches l = behind (map seen l.patches.items) (many patch_in (l.count - l._number) l.rest) ≡ step_in l.fn.text
