-- Statements and their list are one another's images.
use Rattle.std.proofs.Common.{◌≡◌, List, [], ◌∷◌, ◌++◌, Some, None, refl, ap, ◌∙◌}
use Rattle.std.specs.Prelude.{Option}
use Rattle.rdl_source.specs.declared.span.Span.{Span}
use Rattle.rdl_source.specs.declared.statement.Inner.{Inner}
use Rattle.rdl_source.specs.declared.statement.Statement.{Statement}
use Rattle.rdl_source.specs.Laid.{Bare, Laid, ended}
use Rattle.rdl_source.specs.View.{bare_of, add_to, add, put, laid_of, statement_of, list_of, last_of}

list_of-add_to : (b : Bare) (inside : Option Inner) (rest : Laid) → list_of (add_to b inside rest) ≡ statement_of b inside ∷ list_of rest
list_of-add_to b None rest = refl
list_of-add_to b (Some i) rest = refl

pub list_of-laid_of : (ss : List Statement) (last : Span) → list_of (laid_of ss last) ≡ ss
list_of-laid_of [] last = refl
list_of-laid_of (s ∷ ss) last = list_of-add_to (bare_of s) s.inside (put ss (ended last)) ∙ ap (λ rest. s ∷ rest) (list_of-laid_of ss last)

last_of-add_to : (b : Bare) (inside : Option Inner) (rest : Laid) → last_of (add_to b inside rest) ≡ last_of rest
last_of-add_to b None rest = refl
last_of-add_to b (Some i) rest = refl

pub last_of-laid_of : (ss : List Statement) (last : Span) → last_of (laid_of ss last) ≡ last
last_of-laid_of [] last = refl
last_of-laid_of (s ∷ ss) last = last_of-add_to (bare_of s) s.inside (put ss (ended last)) ∙ last_of-laid_of ss last

pub ruleset views = (list_of-laid_of, last_of-laid_of)

-- one more behind all
pub put-more : (ss : List Statement) (s : Statement) (rest : Laid) → put (ss ++ (s ∷ [])) rest ≡ put ss (add s rest)
put-more [] s rest = refl
put-more (t ∷ ss) s rest = ap (add t) (put-more ss s rest)
