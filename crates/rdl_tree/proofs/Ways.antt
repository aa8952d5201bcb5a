-- A way that is known up to some number.
use Rattle.std.proofs.Common.{◌≡◌, ℕ, List, [], ◌∷◌, ◌++◌, refl, ap, append_assoc}
use Rattle.std.specs.Prelude.{Result, Ok, Err}
use Rattle.rdl_tree.specs.Find.{after_number}
use Rattle.rdl_tree.specs.declared.path.PathFault.{PathFault}

-- the numbers, and then the way that follows them
abbrev pub after : List ℕ → Result (List ℕ) PathFault → Result (List ℕ) PathFault
after path (Ok way) = Ok (path ++ way)
after path (Err fault) = Err fault

pub after-none : (r : Result (List ℕ) PathFault) → after [] r ≡ r
after-none (Ok way) = refl
after-none (Err fault) = refl

pub after-number : (path : List ℕ) (i : ℕ) (r : Result (List ℕ) PathFault) → after path (after_number i r) ≡ after (path ++ i ∷ []) r
after-number path i (Ok way) = ap Ok (simp append_assoc)
after-number path i (Err fault) = refl

pub ruleset ways = (after-none, after-number)
