-- The commands of a script: its lines, and what each asks for. Own.
use Rattle.std.specs.Prelude.{ℕ, Bool, true, not, nat_eq, if◌then◌else◌, List, [], ◌∷◌, Option, None, Some}
use Rattle.std.specs.List.{slice_split}
use Rattle.std.specs.Str.{is_utf8}
use Rattle.rdl_tree.specs.declared.path.Segment.{Segment}
use Rattle.rdl_rewrite.specs.declared.edit.Edit.{Edit}
use Rattle.rdl_rewrite.specs.declared.place.Place.{Place}
use Rattle.rdl_script.specs.Edits.{edit_in}
use Rattle.rdl_script.specs.Operands.{Placed, path_in, place_in}
use Rattle.rdl_script.specs.Verbs.{verb_of}
use Rattle.rdl_script.specs.Words.{trimmed, first_word, behind_word, is_empty}
use Rattle.rdl_script.specs.declared.request.CommandFault.{CommandFault}
use Rattle.rdl_script.specs.declared.request.CommandFault.TheVariants.{Unknown, BadOperands, NotUtf8}
use Rattle.rdl_script.specs.declared.verb.Verb.{Verb}
use Rattle.rdl_script.specs.declared.verb.Verb.TheVariants as verbs

-- ---- Lines: line feeds part them.

abbrev pub lines_of : List ℕ → List (List ℕ)
lines_of bytes = slice_split (λ c. nat_eq c 10) bytes

-- the lines of what is left of a script, if anything is
abbrev pub lines_left : Option (List ℕ) → List (List ℕ)
lines_left None = []
lines_left (Some bytes) = lines_of bytes

-- ---- What a line asks for.

pub data Command : Type 0 where
  nothing : Command
  undo : Command
  redo : Command
  list : Command
  -- every edit but an `add`
  edit : Edit → Command
  add : (path : List Segment) → Place → (text : List ℕ) → Command
  refused : CommandFault → Command

-- a command that has no operands
abbrev pub alone : Command → List ℕ → Command
alone command operands = if is_empty operands then command else refused BadOperands

abbrev pub edit_or_refused : Option Edit → Command
edit_or_refused None = refused BadOperands
edit_or_refused (Some e) = edit e

-- the text is kept as it is, since it is read later
abbrev pub add_to : Option (List Segment) → Option Placed → Command
add_to None place = refused BadOperands
add_to (Some path) None = refused BadOperands
add_to (Some path) (Some place) = if is_empty place.1 then refused BadOperands else add path place.0 place.1

-- `PATH PLACE TEXT`
unfoldable pub added : List ℕ → Command
added operands = add_to (path_in (first_word operands)) (place_in (behind_word operands))

abbrev pub asked : Option Verb → (operands : List ℕ) → Command
asked None operands = refused Unknown
asked (Some verbs.Undo) operands = alone undo operands
asked (Some verbs.Redo) operands = alone redo operands
asked (Some verbs.List) operands = alone list operands
asked (Some verbs.Add) operands = added operands
asked (Some (verbs.Edit verb)) operands = edit_or_refused (edit_in verb operands)

-- a blank line and a line that begins with `#` ask for nothing
abbrev pub is_silent : List ℕ → Bool
is_silent [] = true
is_silent (c ∷ cs) = nat_eq c 35

unfoldable pub command_in : List ℕ → Command
command_in line =
    if is_silent line then nothing
    else if not (is_utf8 line) then refused NotUtf8
    else asked (verb_of (first_word line)) (behind_word line)

abbrev pub command_of : List ℕ → Command
command_of line = command_in (trimmed line)
