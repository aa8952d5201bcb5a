use Rattle.std.proofs.Common.{◌≡◌, ◌++◌, take, string_bytes}
use Rattle.std.specs.List.{flat_map}
use Rattle.rdl_session.specs.Text.{patch_text}
use Rattle.rdl_session.specs.Written.{written}
use Rattle.rdl_session.proofs.write.push_step.Given as goal

abbrev pub invariant-patches : goal.invariant-patches
invariant-patches l = string_bytes l.text ≡ string_bytes l.initial.text ++ flat_map (λ p. patch_text (written p)) (take l.patch-index l.patches)
