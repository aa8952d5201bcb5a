-- The written session of a description and of the steps that lead back from it and on: the texts of the map and of items
-- are those of the written map, without an indent. Own.
use Rattle.std.specs.Prelude.{ℕ, ◌<◌, List, [], length, map}
use Rattle.rdl_tree.specs.Items.{Items}
use Rattle.rdl_session.specs.Text.{PatchLines, SessionLines, insert, delete, shift, shell, value, target, type, name, shell_item, value_item, target_item, session_text, max_session}
use Rattle.rdl_tree.specs.declared.part.Part.TheVariants.{OfShell, OfValue, OfTarget, OfType, OfDefine}
use Rattle.rdl_tree.specs.declared.patch.Patch.{Patch}
use Rattle.rdl_tree.specs.declared.patch.Patch.TheVariants.{Insert, Delete, Shift, Exchange}
use Rattle.rdl_session.specs.declared.fault.SessionWriteFault.{SessionWriteFault}
use Rattle.rdl_session.specs.declared.fault.SessionWriteFault.TheVariants.{TooLong, Memory}
use Rattle.rdl_write.specs.ItemText.{item_text}
use Rattle.rdl_write.specs.MapText.{map_text}

-- a part goes as the item that stands for it
abbrev pub written : Patch → PatchLines
written (Insert at x) = insert at (item_text [] x)
written (Delete at) = delete at
written (Shift at to) = shift at to
written (Exchange at (OfShell s)) = shell at (item_text [] (shell_item s))
written (Exchange at (OfValue v)) = value at (item_text [] (value_item v))
written (Exchange at (OfTarget t)) = target at (item_text [] (target_item t))
written (Exchange at (OfType n)) = type at n
written (Exchange at (OfDefine n)) = name at n

abbrev pub session_lines : Items → (undo redo : List (List Patch)) → SessionLines
session_lines d undo redo = record { map = map_text d; undo = map (map written) undo; redo = map (map written) redo }

-- its text
abbrev pub written_session : Items → (undo redo : List (List Patch)) → List ℕ
written_session d undo redo = session_text (session_lines d undo redo)

-- why a text isn't written: it is too long, or memory is wanted
abbrev pub Stops : SessionWriteFault → List ℕ → Type 0
Stops TooLong text = max_session < length text
Stops Memory text = Unit {0}
