-- From what waits for files to the outputs of these files.
use Rattle.std.proofs.Common.{◌≡◌, ◌<◌, ℕ, List, [], Result, Ok, Err, sym, ap, ◌∙◌, subst, arith}
use Rattle.std.specs.Prelude.{IfErr}
use Rattle.whole_files.specs.Outputs.{AreOf, IsAt, IsAtOne, IsAtWaiting}
use Rattle.whole_files.specs.declared.output.Output.{Output}
use Rattle.whole_files.specs.declared.output.OutputFault.{OutputFault}
use Rattle.whole_files.specs.declared.output.Waiting.{Waiting}

pub none_waits : (outputs : List Output) (ws : List Waiting) → ws ≡ [] → AreOf outputs ws
none_waits outputs ws none = subst (AreOf outputs) (sym none) (λ k d low. absurd (omega arith))

named-by : (outputs : List Output) (ws : List Waiting) (fault : OutputFault) → AreOf outputs ws → IsAtWaiting ws fault → IsAtOne outputs fault
named-by outputs ws fault of at =
    let found = of at.0 at.1 at.2 in
    let same : at.1.path.now ≡ found.1.path.now = ap (λ (w : Waiting). w.path.now) (sym at.3) ∙ found.4 in
    (found.0, found.1, found.2, found.3, subst (λ (p : List ℕ). IsAt p fault) same at.4)

pub named_if : {X : Type 0} (outputs : List Output) (ws : List Waiting) (r : Result X OutputFault) → AreOf outputs ws → IfErr r (IsAtWaiting ws) → IfErr r (IsAtOne outputs)
named_if outputs ws (Ok x) of at = tt
named_if outputs ws (Err fault) of at = named-by outputs ws fault of at
