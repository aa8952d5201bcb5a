-- What is found of a map, by what is kept of it.
-- own: SystemRDL 2.0 says nothing of how a map is judged. The limits and their order are those of `Faults` of `rdl_elab`.
use Rattle.std.specs.Prelude.{◌≡◌, ℕ, ◌^◌, nat_lt, nat_le, List, [], ◌∷◌, Option, Err, if◌then◌else◌}
use Rattle.rdl_tree.specs.Items.{Items}
use Rattle.rdl_tree.specs.declared.fault.FaultKind.{FaultKind}
use Rattle.rdl_tree.specs.declared.fault.FaultKind.TheVariants.{TooManyLevels, TooManyRows, MapTooLarge}
use Rattle.rdl_scope.specs.ItemFaults.{first_of}
use Rattle.rdl_elab.specs.Faults.{elaborated}
use Rattle.rdl_elab.specs.Known.{HasRows}
use Rattle.rdl_seen.specs.declared.seen.Seen.{Seen}
use Rattle.sound_nodes.specs.declared.found.Found.{Found}
use Rattle.sound_nodes.specs.declared.found.Found.TheVariants.{Clear, Faulty, Untold}
use Rattle.sound_nodes.specs.Rows.{faulty_or}

-- too many levels, or too many rows, by what is seen of the top
abbrev pub count_fault : Seen → Option FaultKind
count_fault s = first_of ((nat_le 16 s.levels, TooManyLevels) ∷ (nat_le 65536 s.rows, TooManyRows) ∷ [])

abbrev pub size_fault : Seen → Option FaultKind
size_fault s = first_of ((nat_lt (2 ^ 40) s.size.regalign, MapTooLarge) ∷ [])

-- a map whose top at this address is seen so, and of whose rows this is found. Which component lacks instances isn't told
abbrev pub map_found : List ℕ → Seen → Found → Found
map_found at s rows =
    faulty_or at (count_fault s) (if s.has_empty then Untold else faulty_or at (size_fault s) rows)

-- this is found of the map with the top that is asked for so
abbrev pub IsJudged : Items → Option (List ℕ) → Found → Type 0
IsJudged d wanted Clear = HasRows d wanted
IsJudged d wanted (Faulty fault) = elaborated d wanted ≡ Err fault
IsJudged d wanted Untold = Unit {0}
