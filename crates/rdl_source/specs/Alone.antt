-- Each statement of a text spells its items by itself.
-- own: SystemRDL 2.0 says nothing of statements that stand alone.
use Rattle.std.specs.Prelude.{◌≤◌, ℕ, List, [], ◌∷◌, take, drop, Option, Some, None}
use Rattle.std.specs.Str.{IsUtf8}
use Rattle.rdl_text.specs.Word.{Word}
use Rattle.rdl_tree.specs.Depth as tree
use Rattle.rdl_tree.specs.Items.{Items}
use Rattle.rdl_tree.specs.View.{list_of, own_body}
use Rattle.rdl_tree.specs.declared.description.Item.{Item}
use Rattle.rdl_parse.specs.Parsing.{HasWords, SpellsText, SpellsItemText}
use Rattle.rdl_parse.specs.Places.{Located}
use Rattle.rdl_source.specs.Laid.{Bare, Laid, ended, bare, braced, depth}
use Rattle.rdl_source.specs.LaidOut.{IsLaidOut}
use Rattle.rdl_source.specs.LaidText.{part}
use Rattle.rdl_source.specs.View.{bare_of, statement_of}
use Rattle.rdl_source.specs.declared.span.Span.{Span}
use Rattle.rdl_source.specs.declared.statement.Statement.{Statement}

-- a statement's lead, words and trail
abbrev pub core : Bare → Span
core b = record { from = b.lead.from; to = b.trail.to }

-- the statement with its lead and its trail is a text, and spells these items
pub record IsAlone (source : List ℕ) (s : Statement) (xs : List Item) : Type 0 where
  pub is_text : IsUtf8 (part source (core (bare_of s)))
  pub spelled : SpellsItemText (part source (core (bare_of s))) xs

-- what holds of the body, if there is one
abbrev pub InBody : (Items → Type 0) → Option Items → Type 0
InBody P None = Unit {0}
InBody P (Some t) = P t

-- of the body of each of these items that has one
abbrev pub InBodies : (Items → Type 0) → List Item → Type 0
InBodies P [] = Unit {0}
InBodies P (x ∷ xs) = InBody P (own_body x) × InBodies P xs

-- Each of these statements, with its lead and its trail, spells by itself those of the items that are its own; and so do the statements
-- between its braces those of each body of its items.
abbrev pub StandAlone : (source : List ℕ) → Laid → List Item → Type 0
StandAlone source (ended last) xs = Unit {0}
StandAlone source (bare b rest) xs = IsAlone source (statement_of b None) (take b.items xs) × StandAlone source rest (drop b.items xs)
StandAlone source (braced b br body rest) xs =
    IsAlone source (statement_of b None) (take b.items xs)
    × InBodies (λ t. StandAlone source body (list_of t)) (take b.items xs)
    × StandAlone source rest (drop b.items xs)

-- so do the statements of any text that spells a map
abbrev pub StatementsStandAlone : Type 0
StatementsStandAlone =
    (source : List ℕ) (ws : List Word) (d : Items) (p : Located) (laid : Laid) → IsUtf8 source → HasWords source ws → SpellsText source d p → IsLaidOut source ws p.places laid
    → StandAlone source laid (list_of d)

-- and they nest at most as deep as the map's items
abbrev pub StatementsAreShallow : Type 0
StatementsAreShallow =
    (source : List ℕ) (ws : List Word) (d : Items) (p : Located) (laid : Laid) → IsUtf8 source → HasWords source ws → SpellsText source d p → IsLaidOut source ws p.places laid
    → depth laid ≤ tree.depth d
