-- Where targets lead.
use Rattle.std.proofs.Common.{◌≡◌, ℕ, List, [], ◌∷◌, true, refl}
use Rattle.rdl_seen.specs.Inside as seen
use Rattle.rdl_seen.specs.Inside.{end_in, is_fitting_end, nothing_within}

-- nothing is found inside nothing
pub leads_nowhere : (a : seen.Asked) (names : List (List ℕ)) → is_fitting_end a (end_in names nothing_within) ≡ true
leads_nowhere a [] = refl
leads_nowhere a (n ∷ []) = refl
leads_nowhere a (n ∷ m ∷ names) = refl
