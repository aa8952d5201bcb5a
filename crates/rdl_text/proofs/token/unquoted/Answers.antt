-- A text may be cut behind a quote.
use Rattle.std.proofs.Common.{◌≡◌, ℕ, ◌<◌, List, length, get_or, refl, arith}
use Rattle.std.proofs.lemmas.Str.{IsCharBoundary-after_ascii}
use Rattle.rdl_text.specs.Spelling.{IsQuoted}
use Rattle.rdl_text.proofs.token.unquoted.Goals as goal

quote_first : (s r : List ℕ) → IsQuoted s r → get_or s 0 0 ≡ 34
quote_first s r q = rw q.quoted refl

quote_some : (s r : List ℕ) → IsQuoted s r → 0 < length s
quote_some s r q = rw q.quoted (omega arith)

pub range-requires-clause-start_boundary : goal.range-requires-clause-start_boundary
range-requires-clause-start_boundary c =
    let s = c.args.source.now in
    let r = c.requires.0 in
    let first = quote_first s r c.requires.1 in
    λ h. IsCharBoundary-after_ascii s 0 c.utf8.source (quote_some s r c.requires.1) (omega (arith, first))
