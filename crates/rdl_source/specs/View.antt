-- One level of statements as their list, where what stands between the braces of each is already seen as its statements.
-- own: SystemRDL 2.0 says nothing of what stands around statements.
use Rattle.std.specs.Prelude.{List, [], ◌∷◌, Option, Some, None}
use Rattle.rdl_source.specs.Laid.{Bare, Laid, ended, bare, braced}
use Rattle.rdl_source.specs.declared.span.Span.{Span}
use Rattle.rdl_source.specs.declared.statement.Inner.{Inner}
use Rattle.rdl_source.specs.declared.statement.Statement.{Statement}

abbrev pub bare_of : Statement → Bare
bare_of s = record { float = s.float; lead = s.lead; words = s.words; trail = s.trail; items = s.items }

abbrev pub add_to : Bare → Option Inner → Laid → Laid
add_to b None rest = bare b rest
add_to b (Some i) rest = braced b (record { begin = i.open; close = i.close }) i.body rest

-- the statement, and then these
abbrev pub add : Statement → Laid → Laid
add s rest = add_to (bare_of s) s.inside rest

-- these statements, and then those
abbrev pub put : List Statement → Laid → Laid
put [] rest = rest
put (s ∷ ss) rest = add s (put ss rest)

abbrev pub laid_of : List Statement → Span → Laid
laid_of ss last = put ss (ended last)

abbrev pub statement_of : Bare → Option Inner → Statement
statement_of b inside = record { float = b.float; lead = b.lead; words = b.words; trail = b.trail; items = b.items; inside = inside }

abbrev pub list_of : Laid → List Statement
list_of (ended last) = []
list_of (bare b rest) = statement_of b None ∷ list_of rest
list_of (braced b br body rest) = statement_of b (Some (record { «open» = br.begin; close = br.close; body = body })) ∷ list_of rest

abbrev pub last_of : Laid → Span
last_of (ended last) = last
last_of (bare b rest) = last_of rest
last_of (braced b br body rest) = last_of rest
