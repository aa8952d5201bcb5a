-- The session of a run as it goes out. Own.
use Rattle.std.specs.Prelude.{◌≡◌, ◌<◌, ℕ, List, length, Option, Some, None, IsUtf8, string_bytes}
use Rattle.rdl_session.specs.Text.{max_session, with_source}
use Rattle.rdl_run.specs.declared.saved.Saved.{Saved}
use Rattle.rdl_run.specs.declared.saved.Saved.TheVariants.{Plain, WithSource, WithoutSource}

-- a session that is to keep this source text, if any, goes out so
abbrev pub IsKept : (source : Option (List ℕ)) → (session : List ℕ) → Saved → Type 0
IsKept None session saved = saved ≡ Plain
IsKept (Some source) session Plain = ⊥
IsKept (Some source) session (WithSource text) = string_bytes text ≡ with_source source session
IsKept (Some source) session WithoutSource = IsUtf8 source → max_session < length (with_source source session)
