use Rattle.std.proofs.Common.{◌≡◌, ◌++◌, map, take, string_bytes}
use Rattle.std.specs.List.{flat_map}
use Rattle.rdl_session.specs.Text.{step_text}
use Rattle.rdl_session.specs.Written.{written}
use Rattle.rdl_session.proofs.write.push_steps.Given as goal

abbrev pub invariant-steps : goal.invariant-steps
invariant-steps l = string_bytes l.text ≡ string_bytes l.initial.text ++ flat_map (λ step. step_text (map written step.now)) (take l.step-index l.steps)
