-- What is answered of two maps or sessions before any line is written. Own.
use Rattle.std.specs.Prelude.{◌⊎◌, ℕ, List, [], Option, Some, None}
use Rattle.rdl_elab.specs.declared.row.Row.{Row}
use Rattle.rdl_diff.specs.declared.status.Status.TheVariants.{MapRefused}
use Rattle.rdl_run.specs.Comparing.{Output, Refuses, RefusesNew, RefusesOld, StandsFor}
use Rattle.rdl_run.specs.declared.comparison.Judged.{Judged}
use Rattle.rdl_run.specs.declared.comparison.Judged.TheVariants.{Refused, Accepted}

-- the rows of a map, or none where there is no map
abbrev pub rows_in : Option (List Row) → List Row
rows_in None = []
rows_in (Some rows) = rows

-- it is the message of this map or session, which begins with the word
abbrev pub IsRefusal : (word : List ℕ) → (top : Option (List ℕ)) → (bytes : List ℕ) → Judged → Type 0
IsRefusal word top bytes (Refused message) = Refuses word top bytes message.items
IsRefusal word top bytes (Accepted old new) = ⊥

abbrev pub refusal : (message : List ℕ) → Output
refusal message = record { text = message; status = MapRefused }

-- the message of the first that is refused, or the rows of both
abbrev pub AreJudged : (top : Option (List ℕ)) → (old new : List ℕ) → Judged → Type 0
AreJudged top old new (Refused message) = RefusesOld top old new (refusal message.items) ⊎ RefusesNew top old new (refusal message.items)
AreJudged top old new (Accepted old_rows new_rows) = StandsFor top old (rows_in old_rows) × StandsFor top new (rows_in new_rows)
