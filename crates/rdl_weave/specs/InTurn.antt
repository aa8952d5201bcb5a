-- In which order what no edit touched stands in a woven text.
-- own: SystemRDL 2.0 has no edits.
use Rattle.std.specs.Prelude.{◌≡◌, ℕ, Bool, false, ◌&&◌, not, if◌then◌else◌, List, [], ◌∷◌, ◌++◌, take, drop, Option, Some, None, IsTrue, slice_range}
use Rattle.std.specs.List.{All, list_all}
use Rattle.rdl_origin.specs.View.{list_of}
use Rattle.rdl_origin.specs.declared.origin.Origin.{Origin}
use Rattle.rdl_source.specs.Laid.{Bare, Laid, ended, bare, braced}
use Rattle.rdl_source.specs.declared.span.Span.{Span}
use Rattle.rdl_source.specs.declared.statement.Inner.{Inner}
use Rattle.rdl_weave.specs.Keeping.{core, holds_items}
use Rattle.rdl_weave.specs.Standing.{Comes, Trims}
use Rattle.rdl_weave.specs.Untouched.{is_untouched}

-- no edit touched the statement of so many items, which these are, and none of them was moved
abbrev pub is_still : (sizes : List ℕ) → (items : ℕ) → List Origin → Bool
is_still sizes items os = is_untouched sizes items os && list_all (λ o. not o.is_moved) os

abbrev pub still_one : (sizes : List ℕ) → Bare → List Origin → List Span
still_one sizes b os = if is_still sizes b.items os then core b ∷ [] else []

-- those of a body's statements for which this is so, each with its lead and its trail
abbrev pub still : (sizes : List ℕ) → Laid → List Origin → List Span
still sizes (ended last) os = []
still sizes (bare b rest) os = still_one sizes b (take b.items os) ++ still sizes rest (drop b.items os)
still sizes (braced b br body rest) os = still_one sizes b (take b.items os) ++ still sizes rest (drop b.items os)

-- what the source has in the span stands in the text, but for blanks in front and at the end, and behind it is the rest
pub record StandsBefore (source : List ℕ) (s : Span) (text rest : List ℕ) : Type 0 where
  pub core : List ℕ
  pub trims : Trims (slice_range source s.from s.to) core
  pub there : Comes core text rest

-- what it has in these spans stands there one behind another, each at a place of its own
abbrev pub InTurn : (source : List ℕ) → List Span → (text : List ℕ) → Type 0
InTurn source [] text = Unit {0}
InTurn source (s ∷ ss) text = (rest : List ℕ) × StandsBefore source s text rest × InTurn source ss rest

-- So do the statements of each body inside these that no edit touched or moved, once for each item that is still there and had items
-- inside.
abbrev pub InTurnInside : (source sizes text : List ℕ) → Laid → List Origin → Type 0
InTurnInside source sizes text (ended last) os = Unit {0}
InTurnInside source sizes text (bare b rest) os = InTurnInside source sizes text rest (drop b.items os)
InTurnInside source sizes text (braced b br body rest) os =
    (is_untouched sizes b.items (take b.items os) ≡ false → All (λ o. IsTrue (holds_items o)
    → InTurn source (still sizes body (list_of o.inside)) text × InTurnInside source sizes text body (list_of o.inside)) (take b.items os))
    × InTurnInside source sizes text rest (drop b.items os)

-- At every depth the statements of a body that no edit touched or moved stand in the text in the order of the source, each at a place of
-- its own.
abbrev pub KeepsOrder : (source sizes text : List ℕ) → Laid → List Origin → Type 0
KeepsOrder source sizes text l os = InTurn source (still sizes l os) text × InTurnInside source sizes text l os

-- the same inside a statement of so many items, if it has braces and an edit touched it
abbrev pub InTurnOf : (source sizes text : List ℕ) → (items : ℕ) → Option Inner → List Origin → Type 0
InTurnOf source sizes text items None os = Unit {0}
InTurnOf source sizes text items (Some i) os = is_untouched sizes items os ≡ false → All (λ o. IsTrue (holds_items o) → KeepsOrder source sizes text i.body (list_of o.inside)) os
