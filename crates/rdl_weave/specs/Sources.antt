-- What is read of a source: its map, and its statements.
-- own: SystemRDL 2.0 says nothing of how a text is read.
use Rattle.std.specs.Prelude.{◌≡◌, ◌≤◌, ℕ, List, IfSome, MatchOption}
use Rattle.rdl_parse.specs.Places.{Located}
use Rattle.rdl_source.specs.Laid.{Laid, depth}
use Rattle.rdl_tree.specs.Limits.{IsWithinLimits}
use Rattle.rdl_weave.specs.Spelled.{IsRead}
use Rattle.rdl_weave.specs.Weaving.{AreStatements}
use Rattle.rdl_weave.specs.declared.source.Source.{Source}

-- this was read of the text: the map that it spells, and its statements, which are the only ones
pub record IsSource (text : List ℕ) (s : Source) : Type 0 where
  pub places : Located
  pub read : IsRead text s.map.items places
  pub laid : IfSome s.statements (AreStatements text)
  pub only : (laid : Laid) (q : AreStatements text laid) → IsWithinLimits q.map → depth laid ≤ 16 → MatchOption s.statements ⊥ (λ x. x ≡ laid)
