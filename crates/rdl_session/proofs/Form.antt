-- Lines that are read as they are written: addresses of items, numbers of at most 64 bits, and names that stand on one line.
use Rattle.std.specs.Prelude.{◌≡◌, ℕ, ◌^◌, ◌<◌, ◌≤◌, nat_eq, false, List, [], ◌∷◌, length}
use Rattle.std.specs.List.{AllByRecursion}
use Rattle.rdl_session.specs.Text.{PatchLines, SessionLines, insert, delete, shift, shell, value, target, type, name}

abbrev pub IsHeld : ℕ → Type 0
IsHeld n = n < 2 ^ 64

-- none of the bytes is this one
abbrev pub Lacks : ℕ → List ℕ → Type 0
Lacks c [] = Unit {0}
Lacks c (x ∷ xs) = (nat_eq x c ≡ false) × Lacks c xs

-- of one number or more, and of at most so many
pub record IsAddress (most : ℕ) (at : List ℕ) : Type 0 where
  pub some : 0 < length at
  pub short : length at ≤ most
  pub held : AllByRecursion IsHeld at

abbrev pub IsPlace : List ℕ → Type 0
IsPlace at = IsAddress 17 at

abbrev pub IsFormedPatch : PatchLines → Type 0
IsFormedPatch (insert at text) = IsPlace at × IsHeld (length text)
IsFormedPatch (delete at) = IsPlace at
IsFormedPatch (shift at to) = IsPlace at × IsHeld to
IsFormedPatch (shell at text) = IsPlace at × IsHeld (length text)
IsFormedPatch (value at text) = IsPlace at × IsHeld (length text)
IsFormedPatch (target at text) = IsPlace at × IsHeld (length text)
IsFormedPatch (type at new) = IsPlace at × Lacks 10 new
IsFormedPatch (name at new) = IsPlace at × Lacks 10 new

-- so many as a number may count, each of which is formed
pub record AreFormed {A : Type 0} (Formed : A → Type 0) (xs : List A) : Type 0 where
  pub count : IsHeld (length xs)
  pub each : AllByRecursion Formed xs

abbrev pub AreFormedSteps : List (List PatchLines) → Type 0
AreFormedSteps steps = AreFormed (AreFormed IsFormedPatch) steps

pub record IsFormed (s : SessionLines) : Type 0 where
  pub map_len : IsHeld (length s.map)
  pub undo : AreFormedSteps s.undo
  pub redo : AreFormedSteps s.redo
