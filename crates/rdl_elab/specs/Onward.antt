-- The assignments that go on from a level, in a chain for each slot, which the number of an assignment's next instance has.
-- own: how they are found. Which of them pass an instance `behind` says.
use Rattle.std.specs.Prelude.{◌≡◌, ℕ, zero, suc, ◌-◌, ◌%◌, List, [], ◌∷◌, Option, Some, None, length, get_or}
use Rattle.rdl_tree.specs.Address.{number_of}
use Rattle.rdl_elab.specs.Reaches.{Reach, behind}
use Rattle.rdl_elab.specs.declared.walk.reaches.Onward.{Onward}

-- a chain of these assignments, the first of which has the number b among all: so many of them stand before its first, and each has the number of the next of its chain
abbrev pub chain : ℕ → List ℕ → List Reach → ℕ → List Reach
chain b [] rs n = []
chain b (k ∷ ks) [] n = []
chain b (k ∷ ks) (r ∷ rs) zero = r ∷ chain (suc b) ks rs (k - suc b)
chain b (k ∷ ks) (r ∷ rs) (suc n) = chain (suc b) ks rs n

-- the number of the first of these assignments in the chain of the slot of this number
abbrev pub first_in : List ℕ → List Reach → ℕ → ℕ
first_in heads rs k = get_or heads (k % length heads) (length rs)

-- whatever the instance, those of these assignments that pass it stand in the chain of its number, in the same order
abbrev pub AreChained : List ℕ → List ℕ → List Reach → Type 0
AreChained heads links rs = (a : List ℕ) → behind a (chain 0 links rs (first_in heads rs (number_of a))) ≡ behind a rs

abbrev pub first_under : Onward → ℕ → ℕ
first_under onward k = first_in onward.heads.items onward.reaching.now k

-- those that are found under a number
abbrev pub going_to : Onward → ℕ → List Reach
going_to onward k = chain 0 onward.links.items onward.reaching.now (first_under onward k)

-- whatever the instance, those of these assignments that pass it are found under its number, in the same order
abbrev pub IsOnward : Onward → List Reach → Type 0
IsOnward onward reaching = (a : List ℕ) → behind a (going_to onward (number_of a)) ≡ behind a reaching

-- the same of a level that keeps nothing where no assignment reaches it
abbrev pub AreOnward : Option Onward → List Reach → Type 0
AreOnward None reaching = reaching ≡ []
AreOnward (Some onward) reaching = IsOnward onward reaching
