-- What a contract sees of the statements of a text.
-- own: SystemRDL 2.0 says nothing of what stands around statements.
use Rattle.std.specs.Prelude.{ℕ, ◌+◌, max}
use Rattle.rdl_source.specs.declared.span.Span.{Span}

-- a statement without what stands between its braces: what floats before it, its lead, its words, its trail, and how many items of its body it spells
pub record Bare : Type 0 where
  pub float : Span
  pub lead : Span
  pub words : Span
  pub trail : Span
  pub items : ℕ

-- where the statements between two braces begin, and the byte of the brace that closes
pub record Braces : Type 0 where
  pub begin : ℕ
  pub close : ℕ

-- the statements of a body, in order, and what stands behind the last of them
pub data Laid : Type 0 where
  ended : (last : Span) → Laid
  bare : Bare → (rest : Laid) → Laid
  braced : Bare → Braces → (body : Laid) → (rest : Laid) → Laid

-- how many statements there are, and ends of bodies
abbrev pub count : Laid → ℕ
count (ended last) = 1
count (bare b rest) = count rest + 1
count (braced b br body rest) = count body + 1 + count rest

-- how deep bodies nest
abbrev pub depth : Laid → ℕ
depth (ended last) = 0
depth (bare b rest) = depth rest
depth (braced b br body rest) = max (depth body + 1) (depth rest)
