use Rattle.std.proofs.Common.{◌≡◌, ◌-◌}
use Rattle.std.specs.Prelude.{map}
use Rattle.rdl_session.specs.Reading.{many, step_in, steps_in}
use Rattle.rdl_session.specs.Seen.{seen}
use Rattle.rdl_session.proofs.Runs.{behind}
use Rattle.rdl_session.proofs.lines.steps.Given as goal

abbrev pub invariant-steps : goal.invariant-steps
invariant-steps l = behind (map (λ patches. map seen patches.items) l.steps.items) (many step_in (l.count - l._number) l.rest) ≡ steps_in l.fn.word l.fn.text
