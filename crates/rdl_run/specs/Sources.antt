-- The source text that a session may keep, and the map or session itself. Own.
use Rattle.std.specs.Prelude.{ℕ, Bool, ◌&&◌, ◌||◌, List, Option, None, Some, is_some, if◌then◌else◌}
use Rattle.std.specs.Option.{option_map_or}
use Rattle.rdl_session.specs.Reading.{source_in}
use Rattle.rdl_run.specs.Sessions.{is_session}

-- the map or session, without the source text that it keeps
abbrev pub without_source : List ℕ → List ℕ
without_source bytes = option_map_or (λ p. p.1) (source_in bytes) bytes

-- the text of the first map: what a session keeps, or a map itself
abbrev pub source_of : List ℕ → Option (List ℕ)
source_of bytes = option_map_or (λ p. Some p.0) (source_in bytes) (if is_session bytes then None else Some bytes)

-- the source text that a session that is saved is to keep: where an edited text is asked for, or one was kept before
abbrev pub kept_source : (saved edited : Bool) → List ℕ → Option (List ℕ)
kept_source saved edited bytes = if saved && (edited || is_some (source_in bytes)) then source_of bytes else None
