-- What a woven text keeps of the source.
-- own: SystemRDL 2.0 has no edits.
use Rattle.std.specs.Prelude.{◌≡◌, ℕ, Bool, true, false, ◌&&◌, not, List, take, drop, Option, Some, None, is_some, IsTrue}
use Rattle.std.specs.List.{All}
use Rattle.rdl_origin.specs.Traces.{Traces, no_traces, trace}
use Rattle.rdl_origin.specs.View.{list_of}
use Rattle.rdl_origin.specs.declared.origin.Origin.{Origin}
pub use Rattle.rdl_source.specs.Alone.{core}
use Rattle.rdl_source.specs.Laid.{Bare, Laid, ended, bare, braced}
use Rattle.rdl_source.specs.declared.statement.Inner.{Inner}
use Rattle.rdl_weave.specs.Standing.{Stands}
use Rattle.rdl_weave.specs.Untouched.{is_untouched}

abbrev pub is_empty : Traces → Bool
is_empty no_traces = true
is_empty (trace now is_touched is_moved inside rest) = false

-- the item is still there, and had items inside
abbrev pub holds_items : Origin → Bool
holds_items o = is_some o.now && not (is_empty o.inside)

-- Of a statement, with so many of its body's items, and what holds inside if an edit touched it: what floats before it stands in the text,
-- and so does the statement with its lead and its trail, if no edit touched it.
abbrev pub KeepsOne : (source : List ℕ) → (sizes : List ℕ) → (text : List ℕ) → Bare → List Origin → (inside : Type 0) → Type 0
KeepsOne source sizes text b os inside =
    Stands source b.float text
    × (IsTrue (is_untouched sizes b.items os) → Stands source (core b) text)
    × (is_untouched sizes b.items os ≡ false → inside)

-- What floats in a body stands in the text, and so does each statement that no edit touched, with its lead and its trail. Of any other
-- statement with a body the same holds inside, for each of its items that is still there and had items inside.
abbrev pub Keeps : (source : List ℕ) → (sizes : List ℕ) → (text : List ℕ) → Laid → List Origin → Type 0
Keeps source sizes text (ended last) os = Stands source last text
Keeps source sizes text (bare b rest) os =
    KeepsOne source sizes text b (take b.items os) (Unit {0}) × Keeps source sizes text rest (drop b.items os)
Keeps source sizes text (braced b br body rest) os =
    KeepsOne source sizes text b (take b.items os) (All (λ o. IsTrue (holds_items o) → Keeps source sizes text body (list_of o.inside)) (take b.items os))
    × Keeps source sizes text rest (drop b.items os)

-- the same of what stands between a statement's braces, if it has any
abbrev pub KeepsInside : (source : List ℕ) → (sizes : List ℕ) → (text : List ℕ) → Option Inner → List Origin → Type 0
KeepsInside source sizes text None os = Unit {0}
KeepsInside source sizes text (Some inner) os = All (λ o. IsTrue (holds_items o) → Keeps source sizes text inner.body (list_of o.inside)) os
