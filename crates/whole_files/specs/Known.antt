-- What is known of the bytes of readers and writers. Own.
use Rattle.std.specs.Prelude.{◌≡◌, ℕ, List, take, Option, IfSome}
use Rattle.std.specs.Io.KnownBytes.{Appends}

-- known bytes grow by a front of the text
abbrev pub AppendsFront : Option (List ℕ) → Option (List ℕ) → List ℕ → Type 0
AppendsFront old new text = (n : ℕ) × Appends old new (take n text)

-- where a reader's bytes are known, they are the text
abbrev pub Holds : Option (List ℕ) → List ℕ → Type 0
Holds known text = IfSome known (λ bytes. bytes ≡ text)
