-- What it means that two maps have the same rows, and how lines turn where the maps change places. Own.
use Rattle.std.specs.Prelude.{◌≡◌, ◌≢◌, ◌⊎◌, true, ℕ, List, [], ◌∷◌, map, Option, Some, None}
use Rattle.rdl_elab.specs.declared.row.Row.{Row}
use Rattle.rdl_diff.specs.Told.{told}
use Rattle.rdl_diff.specs.Choices.{is_always_told}
use Rattle.rdl_diff.specs.DiffText.{Change, Line, renamed, gone, come, changed}
use Rattle.rdl_diff.specs.Paths.{path, row_at}
use Rattle.rdl_diff.specs.declared.choice.Choice.{Choice}
use Rattle.rdl_diff.specs.declared.choice.Severity.TheVariants.{Any}
use Rattle.rdl_diff.specs.declared.what.What.{What}
use Rattle.rdl_diff.specs.declared.what.What.TheVariants as what

-- no two rows have one path
abbrev pub HaveOwnPaths : List Row → Type 0
HaveOwnPaths [] = Unit {0}
HaveOwnPaths (r ∷ rs) = (row_at (path r) rs ≡ None) × HaveOwnPaths rs

-- each part of them is the same
abbrev pub TellTheSame : Row → Row → Type 0
TellTheSame r s = (w : What) → told w r ≡ told w s

-- each part but the bases
abbrev pub TellAlike : Row → Row → Type 0
TellAlike r s = (w : What) → w ≢ what.Base → told w r ≡ told w s

-- each part whose differences are told wherever they are
abbrev pub TellAsAsked : Choice → Row → Row → Type 0
TellAsAsked c r s = (w : What) → is_always_told c.moves c.ignored.items w ≡ true → told w r ≡ told w s

-- all lines are told, and of all properties
abbrev pub TellsAll : Choice → Type 0
TellsAll c = (c.severity ≡ Any) × (c.ignored.items ≡ [])

-- both are there and are so, or neither is there
abbrev pub AreBoth : (Row → Row → Type 0) → Option Row → Option Row → Type 0
AreBoth AreSo None None = Unit {0}
AreBoth AreSo (Some r) (Some s) = AreSo r s
AreBoth AreSo r s = ⊥

-- at each path; a path doesn't name the top
abbrev pub AreAtEachPath : (Row → Row → Type 0) → (old new : List Row) → Type 0
AreAtEachPath AreSo old new = (p : List (List ℕ)) → AreBoth AreSo (row_at p old) (row_at p new)

abbrev pub HaveTheSameRows : (old new : List Row) → Type 0
HaveTheSameRows old new = AreAtEachPath TellTheSame old new

-- but for their bases
abbrev pub HaveRowsAlike : (old new : List Row) → Type 0
HaveRowsAlike old new = AreAtEachPath TellAlike old new

-- ---- Where the two maps change places.

abbrev pub turned_change : Change → Change
turned_change c = record { what = c.what; old = c.new; new = c.old }

abbrev pub turned : Line → Line
turned (renamed old new) = renamed new old
turned (gone r) = come r
turned (come r) = gone r
turned (changed p cs) = changed p (map turned_change cs)

abbrev pub IsAmong : {A : Type 0} → A → List A → Type 0
IsAmong x [] = ⊥
IsAmong x (y ∷ ys) = (x ≡ y) ⊎ IsAmong x ys
