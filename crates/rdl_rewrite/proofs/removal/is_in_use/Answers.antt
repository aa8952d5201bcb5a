use Rattle.std.proofs.Common.{[], None, Some, refl, ap, sym, ◌∙◌}
use Rattle.std.specs.Option.{option_copied}
use Rattle.rdl_rewrite.specs.Addresses.{addresses}
use Rattle.rdl_rewrite.proofs.Found.{undefined, unused}
use Rattle.rdl_rewrite.proofs.Led.{led_root, led_here}
use Rattle.rdl_rewrite.proofs.removal.is_in_use.Goals as goal

pub returns-in_default : goal.returns-in_default
returns-in_default c =
    let d = c.args.sweep.now.whole.now.items in
    sym (unused d c.args.sweep.now.way.now None (addresses [] 0 d) (ap option_copied (sym c.in_default.is) ∙ c.requires.known.taken) (λ t. refl))

pub returns-in_default-found : goal.returns-in_default-found
returns-in_default-found c =
    let d = c.args.sweep.now.whole.now.items in
    let found = c.in-Some.found.now in
    sym (unused d c.args.sweep.now.way.now (Some found) (addresses [] 0 d) (ap option_copied (sym c.in-Some.is) ∙ c.requires.known.taken) (undefined found (λ n k e. c.in_default-found.not-Define n k e)))

pub is_used-requires-clause-led : goal.is_used-requires-clause-led
is_used-requires-clause-led c = led_here _ _ _ _ _ c.new.ensures (led_root c.args.sweep.now.whole.now.items c.args.sweep.now.way.now)
