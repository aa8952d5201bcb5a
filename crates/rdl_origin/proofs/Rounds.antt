-- Traces and their list are one another's images.
use Rattle.std.proofs.Common.{◌≡◌, ℕ, zero, suc, List, [], ◌∷◌, refl, ap}
use Rattle.std.specs.Prelude.{slice_get, option_map}
use Rattle.rdl_origin.specs.Traces.{Traces, no_traces, trace, inside_of}
use Rattle.rdl_origin.specs.View.{traces_of, list_of}
use Rattle.rdl_origin.specs.declared.origin.Origin.{Origin}

pub list_of-traces_of : (os : List Origin) → list_of (traces_of os) ≡ os
list_of-traces_of [] = refl
list_of-traces_of (o ∷ os) = ap (λ rest. o ∷ rest) (list_of-traces_of os)

pub traces_of-list_of : (t : Traces) → traces_of (list_of t) ≡ t
traces_of-list_of no_traces = refl
traces_of-list_of (trace now is_touched is_moved inside rest) = ap (trace now is_touched is_moved inside) (traces_of-list_of rest)

pub inside_of-get : (i : ℕ) (os : List Origin) → inside_of i (traces_of os) ≡ option_map (λ (o : Origin). o.inside) (slice_get os i)
inside_of-get i [] = refl
inside_of-get zero (o ∷ os) = refl
inside_of-get (suc i) (o ∷ os) = inside_of-get i os

pub ruleset views = (list_of-traces_of, traces_of-list_of)
