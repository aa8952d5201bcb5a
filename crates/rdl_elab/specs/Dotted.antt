-- Names in a text with a dot behind each. Own.
use Rattle.std.specs.Prelude.{◌≡◌, ℕ, ◌++◌, ◌==◌, List, [], ◌∷◌, codes, if◌then◌else◌}
use Rattle.std.specs.List.{flat_map}

-- with one byte before the first of them
abbrev pub with_front : ℕ → List (List ℕ) → List (List ℕ)
with_front byte [] = (byte ∷ []) ∷ []
with_front byte (name ∷ names) = (byte ∷ name) ∷ names

-- the names, each up to a dot or the end
unfoldable pub names_in : List ℕ → List (List ℕ)
names_in [] = []
names_in (byte ∷ bytes) = if byte == 46 then [] ∷ names_in bytes else with_front byte (names_in bytes)

-- the text has a dot behind each of its names
abbrev pub IsDotted : List ℕ → Type 0
IsDotted text = text ≡ flat_map (λ name. name ++ codes ".") (names_in text)
