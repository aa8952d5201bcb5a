use Rattle.std.proofs.Common.{◌≡◌, map, drop}
use Rattle.rdl_origin.specs.Numbered.{origins_of}
use Rattle.rdl_run.specs.Edited.{all_led_back, are_all_placed}
use Rattle.rdl_run.proofs.edited.led_back.Given as goal

abbrev pub invariant-steps : goal.invariant-steps
invariant-steps l =
    (all_led_back (map (λ step. step.now) (drop l.step-index l.steps)) l.origins ≡ all_led_back (map (λ step. step.now) l.steps) (origins_of l.last.items))
    × (are_all_placed (map (λ step. step.now) (drop l.step-index l.steps)) l.origins ≡ are_all_placed (map (λ step. step.now) l.steps) (origins_of l.last.items))
