-- Steps of reading as the code takes them. Of a statement's items it keeps nothing once they pass the room.
-- Own.
use Rattle.std.specs.Prelude.{ℕ, ◌+◌, if◌then◌else◌, Bool, true, false, List, ◌∷◌, length, Option, Some, None, Result, Ok, Err}
use Rattle.rdl_text.specs.declared.token.Mark.TheVariants.{Semicolon}
use Rattle.rdl_tree.specs.declared.description.Item.TheVariants.{Define, Instance}
use Rattle.rdl_tree.specs.declared.description.Of.{Of}
use Rattle.rdl_tree.specs.declared.description.Of.TheVariants.{Named, Anonymous}
use Rattle.rdl_tree.specs.declared.shell.Kind.{Kind}
use Rattle.rdl_tree.specs.declared.shell.Outside.{Outside}
use Rattle.rdl_parse.specs.Finds.{Finds, nothing, seen, single, joined, fits, less}
use Rattle.rdl_parse.specs.Reading.{◌>>=◌, Finished, Inner, mark_at, inst_at, late_insts_at, defined_at}
use Rattle.rdl_parse.specs.Spelling.{component}
use Rattle.rdl_parse.specs.Symbol.{Symbol, name, outside}
use Rattle.rdl_parse.specs.declared.fault.Fault.{Fault}
use Rattle.rdl_parse.specs.declared.fault.Fault.TheVariants.{TooLarge}
use Rattle.rdl_parse.specs.declared.found.Spot.{Spot}
use Rattle.rdl_parse.specs.declared.gathered.Gathered.{Gathered}
use Rattle.rdl_parse.specs.declared.room.Room.{Room}

-- ---- What is kept of a statement's items.

abbrev pub finished : Gathered → Finished
finished g = (seen g.found, g.room)

-- a finished statement, behind what was found before it
abbrev pub behind : Finds → Result (Finished × List Symbol) Fault → Result (Finished × List Symbol) Fault
behind before read = read >>= λ x. Ok ((joined before x.0.0, x.0.1), x.1)

-- these, and the room that they leave, if they fit
abbrev pub held : Room → Finds → Option Finished
held room f = if fits room f then Some (f, less room f) else None

-- these, and one more
abbrev pub gather : Option Finished → Finds → Option Finished
gather None x = None
gather (Some k) x = if fits k.1 x then Some (joined k.0 x, less k.1 x) else None

-- an INST, and its instance behind what is kept
unfoldable pub gathered_at : Outside → Of → List Spot → Option Finished → List Symbol → Result (Option Finished × List Symbol) Fault
gathered_at o of inner k ws = do
  i ← inst_at o ws
  Ok (gather k (single (Instance i.0 of) (length ws) inner), i.1)

-- what the next instance is of, if there is one
abbrev pub next_of : (again : Bool) → Of → Option Of
next_of true of = Some of
next_of false of = None

-- the `;` of a statement of which this is kept
abbrev pub ended : Option Finished → List Symbol → Result (Finished × List Symbol) Fault
ended (Some f) rest = Ok (f, rest)
ended None rest = Err (TooLarge (length rest + 1))

unfoldable pub ended_at : Option Finished → List Symbol → Result (Finished × List Symbol) Fault
ended_at k ws = do
  rest ← mark_at Semicolon ws
  ended k rest

-- ---- What may stand at a place.

-- a name, if one stands here
unfoldable pub optional_name_at : List Symbol → Result (Option (List ℕ) × List Symbol) Fault
optional_name_at (name n ∷ ws) = Ok (Some n, ws)
optional_name_at ws = Ok (None, ws)

-- `external` or `internal`
abbrev pub outside_by : Symbol → Option Outside
outside_by (outside o) = Some o
outside_by w = None

-- ---- What stands behind KIND and NAME, and behind KIND alone.

abbrev pub definition_at : Inner → Room → Option Outside → ℕ → Kind → List ℕ → List Symbol → Result (Finished × List Symbol) Fault
definition_at inner room front left k n ws = do
  b ← inner room ws
  defined_at room front (Named n) (single (Define n (component k b.0.items)) left b.0.spots) b.1

abbrev pub anonymous_at : Inner → Room → Option Outside → Kind → List Symbol → Result (Finished × List Symbol) Fault
anonymous_at inner room front k ws = do
  b ← inner room ws
  late_insts_at room front (Anonymous (component k b.0.items)) b.0.spots nothing b.1
