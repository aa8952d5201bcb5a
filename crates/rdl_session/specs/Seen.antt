-- What a contract sees of the lines that are read.
-- Own.
use Rattle.std.specs.Prelude.{◌≡◌, List, map, Result, MatchResult}
use Rattle.rdl_tree.specs.Items.{Items}
use Rattle.rdl_session.specs.Text.{PatchLines, SessionLines, insert, delete, shift, shell, value, target, type, name}
use Rattle.rdl_tree.specs.declared.patch.Patch.{Patch}
use Rattle.rdl_session.specs.Meaning.{Session as Meant}
use Rattle.rdl_session.specs.Written.{written_session, Stops}
use Rattle.rdl_session.specs.declared.fault.SessionReadFault.{SessionReadFault}
use Rattle.rdl_session.specs.declared.fault.SessionReadFault.TheVariants.{Memory}
use Rattle.rdl_session.specs.declared.fault.SessionWriteFault.{SessionWriteFault}
use Rattle.rdl_session.specs.declared.parse.Session.{Session}
use Rattle.rdl_session.specs.declared.lines.PatchLine.{PatchLine}
use Rattle.rdl_session.specs.declared.lines.PatchLine.TheVariants.{Insert, Delete, Shift, Shell, Value, Target, OfType, OfDefine}
use Rattle.rdl_session.specs.declared.lines.Lines.{Lines}

abbrev pub seen : PatchLine → PatchLines
seen (Insert at text) = insert at text.now
seen (Delete at) = delete at
seen (Shift at to) = shift at to
seen (Shell at text) = shell at text.now
seen (Value at text) = value at text.now
seen (Target at text) = target at text.now
seen (OfType at new) = type at new.now
seen (OfDefine at new) = name at new.now

abbrev pub seen_lines : Lines → SessionLines
seen_lines l = record { map = l.map.now; undo = map (λ step. map seen step.items) l.undo.items; redo = map (λ step. map seen step.items) l.redo.items }

abbrev pub seen_session : Session → Meant
seen_session s = (s.map.items, map (λ step. step.items) s.undo.items, map (λ step. step.items) s.redo.items)

-- it is this map with these steps back and on
abbrev pub IsSession : Session → (d : Items) → (undo redo : List (List Patch)) → Type 0
IsSession s d undo redo = (s.map.items ≡ d) × (map (λ step. step.items) s.undo.items ≡ undo) × (map (λ step. step.items) s.redo.items ≡ redo)

-- what was read is this session, or memory is wanted
abbrev pub IsReadAs : Result Session SessionReadFault → (d : Items) → (undo redo : List (List Patch)) → Type 0
IsReadAs read d undo redo = MatchResult read (λ s. IsSession s d undo redo) (λ f. f ≡ Memory)

-- the session was written and read as itself, or it is too long, or memory is wanted
abbrev pub IsReadAgain : Result (Result Session SessionReadFault) SessionWriteFault → (d : Items) → (undo redo : List (List Patch)) → Type 0
IsReadAgain result d undo redo = MatchResult result (λ read. IsReadAs read d undo redo) (λ f. Stops f (written_session d undo redo))
