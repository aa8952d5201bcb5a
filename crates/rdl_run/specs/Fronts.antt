-- The message of a map that is refused, which says of two maps which one it is. Own.
use Rattle.std.specs.Prelude.{ℕ, ◌==◌, List, [], ◌∷◌, ◌++◌, if◌then◌else◌}

-- from the first colon on
abbrev pub from_colon : List ℕ → List ℕ
from_colon [] = []
from_colon (b ∷ bs) = if b == 58 then b ∷ bs else from_colon bs

-- a message with this word in the place of what stands before its first colon
abbrev pub with_front : (word message : List ℕ) → List ℕ
with_front word message = word ++ from_colon message
