-- The exit status of who asks what a fault is. Own.
use Rattle.std.specs.Prelude.{◌≡◌, ◌⊎◌, ℕ}

-- it was printed, the writing failed, or there is no such fault
abbrev pub IsExplained : ℕ → Type 0
IsExplained n = (n ≡ 0) ⊎ (n ≡ 4) ⊎ (n ≡ 5)
