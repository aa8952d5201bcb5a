-- A command as the code holds it, seen as what a line asks for. Own.
use Rattle.std.specs.Prelude.{ℕ, List}
use denote.Ref.{Bor}
use Rattle.rdl_rewrite.specs.declared.place.Place.{Place}
use Rattle.rdl_script.specs.Operands.{Placed}
use Rattle.rdl_script.specs.Commands.{Command, nothing, undo, redo, list, edit, add, refused}
use Rattle.rdl_script.specs.declared.request.Request.{Request}
use Rattle.rdl_script.specs.declared.request.Request.TheVariants as requests

abbrev pub seen : Request → Command
seen requests.Nothing = nothing
seen requests.Undo = undo
seen requests.Redo = redo
seen requests.List = list
seen (requests.Edit e) = edit e
seen (requests.Add path place text) = add path place text.now
seen (requests.Refused fault) = refused fault

-- a place with the text behind it
abbrev pub seen_place : Place × Bor (List ℕ) → Placed
seen_place p = (p.0, p.1.now)
