-- How a comparison ends. Own.
use Rattle.std.specs.Prelude.{ℕ, List, [], ◌∷◌}
use Rattle.rdl_diff.specs.declared.status.Status.{Status}
use Rattle.rdl_diff.specs.declared.status.Status.TheVariants.{Same, Different, MapRefused}

-- nothing differs where nothing is written
abbrev pub status_of : (text : List ℕ) → Status
status_of [] = Same
status_of (b ∷ bs) = Different

-- the number with which a program ends that tells it
abbrev pub status_code : Status → ℕ
status_code Same = 0
status_code Different = 1
status_code MapRefused = 2
