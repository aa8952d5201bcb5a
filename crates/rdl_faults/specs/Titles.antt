-- The texts that are of a number. Own.
use Rattle.std.specs.Prelude.{◌≡◌, ℕ, ◌+◌, List, [], ◌∷◌, ◌++◌, length, take}

-- the text begins with the number and a space
abbrev pub Titles : (number text : List ℕ) → Type 0
Titles number text = take (length number + 1) text ≡ number ++ 32 ∷ []
