-- There are more statements, and ends of bodies, than in each body inside them, so that a tree ends.
-- own: no part of what statements mean.
use Rattle.std.specs.Prelude.{◌≤◌, max, List, [], ◌∷◌, Option, Some, None}
use Rattle.std.proofs.Common.{arith}
use denote.Param.Weighed.{most}
use Rattle.rdl_source.specs.declared.span.Span.{Span}
use Rattle.rdl_source.specs.Laid.{Bare, Laid, count, ended}
use Rattle.rdl_source.specs.View.{bare_of, add, add_to, put, statement_of}
use Rattle.rdl_source.specs.declared.statement.Statement.{Statement}
use Rattle.rdl_source.specs.declared.statement.Inner.{Inner}
use Rattle.rdl_source.specs.declared.statement.Statements.TheDeep.{deep-Statement}

deep_le-count-of : (b : Bare) (inside : Option Inner) (rest : Laid) → max (deep-Statement (statement_of b inside)) (count rest) ≤ count (add_to b inside rest)
deep_le-count-of b None rest = omega arith
deep_le-count-of b (Some i) rest = omega arith

deep_le-count-add : (s : Statement) (rest : Laid) → max (deep-Statement s) (count rest) ≤ count (add s rest)
deep_le-count-add s rest = deep_le-count-of (bare_of s) s.inside rest

pub deep_le-count : (ss : List Statement) (last : Span) → max (most deep-Statement ss) 0 ≤ count (put ss (ended last))
deep_le-count [] last = omega arith
deep_le-count (s ∷ ss) last = omega (arith, deep_le-count-add s (put ss (ended last)), deep_le-count ss last)
