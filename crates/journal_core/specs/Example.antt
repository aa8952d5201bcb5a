-- The changes of a list of numbers, on which the journal is tested. Own.
use Rattle.std.specs.Prelude.{◌≡◌, ℕ, List, [], ◌∷◌, ◌++◌}
use Rattle.journal_core.specs.declared.example.Change.{Change}
use Rattle.journal_core.specs.declared.example.Change.TheVariants.{Push, Clear}
use Rattle.journal_core.specs.declared.example.Refusal.{Refusal}
use Rattle.journal_core.specs.declared.example.Refusal.TheVariants.{Seven, Memory}

abbrev pub Leads : List ℕ → Change → List ℕ → Type 0
Leads old (Push n) new = new ≡ old ++ n ∷ []
Leads old Clear new = new ≡ []

-- a seven isn't taken
abbrev pub Refuses : List ℕ → Change → Refusal → Type 0
Refuses old (Push n) Seven = n ≡ 7
Refuses old Clear Seven = ⊥
Refuses old change Memory = Unit {0}
