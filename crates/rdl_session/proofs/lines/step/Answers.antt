use Rattle.std.proofs.Common.{◌-◌, ◌∙◌, sym, ap, arith}
use Rattle.std.specs.Prelude.{map}
use Rattle.rdl_session.specs.Reading.{◌>>=◌, many, patch_in, step_in}
use Rattle.rdl_session.specs.Seen.{seen}
use Rattle.rdl_session.proofs.Runs.{behind, run-on, run-stop, run-end, run-begin}
use Rattle.rdl_session.proofs.lines.step.Goals as goal

pub patches-init : goal.patches-init
unfolding step_in
patches-init c =
    ap (λ xs. behind (map seen xs) (many patch_in (c.in-Some.count - 0) c.in-Some.rest.now)) c.new-patches.ensures.items
    ∙ run-begin patch_in c.in-Some.count c.in-Some.rest.now _ (ap (λ o. o >>= λ k. many patch_in k.0 k.1) c.in-Some.ensures)

pub returns-in-None : goal.returns-in-None
returns-in-None c =
    run-stop patch_in (map seen c.patches.patches.items) c.in-Some.count c.patches._number c.patches.rest.now _ c.patches-test.true (sym c.in-None.ensures) c.patches.invariant

pub patches-preserved : goal.patches-preserved
patches-preserved c =
    run-on seen patch_in c.patches.patches.items c.push.new.self.items c.in-Some.count c.patches._number c.in-Some-patch.patch c.patches.rest.now c.in-Some-patch.behind.now _ c.patches-test.true
    (sym c.in-Some-patch.ensures) c.in_ok-push-in-Some-patch.ensures.items c.patches.invariant

pub returns : goal.returns
returns c =
    run-end patch_in (map seen c.patches.patches.items) c.in-Some.count c.patches._number c.patches.rest.now _ (omega (arith, c.patches-test.false, c.patches.auto._number-end)) c.patches.invariant
