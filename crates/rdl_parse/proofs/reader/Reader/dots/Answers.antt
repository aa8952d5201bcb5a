use Rattle.std.proofs.lemmas.Result.{err_from_is_err_and}
use Rattle.std.proofs.Common.{◌≡◌, sym, ◌∙◌, true, false}
use Rattle.rdl_text.specs.declared.token.Mark.TheVariants.{Dot}
use Rattle.rdl_parse.specs.Reading.{begins, dot_at}
use Rattle.rdl_parse.specs.Symbol.{symbols}
use Rattle.rdl_parse.proofs.WordAgain.{dot-shortens}
use Rattle.rdl_parse.proofs.Rounds.{takes, repeated-fails, repeated-goes, repeated-ends}
use Rattle.rdl_parse.proofs.reader.Reader.dots.Goals as goal

pub dots-smaller : goal.dots-smaller
dots-smaller c = takes (begins Dot) dot_at dot-shortens _ _ _ _ c.in_ok-dot.ensures

pub returns-in_err-dot : goal.returns-in_err-dot
returns-in_err-dot c =
    let p = err_from_is_err_and c.from_residual.result c.from_residual.ensures.1 in
    let goes_on : begins Dot (symbols c.dots.self.rest) ≡ true = sym c.begins.ensures ∙ c.dots-test.true in
    rw (p.1, p.2) (repeated-fails (begins Dot) dot_at dot-shortens _ _ (symbols c.dots.self.rest) _ goes_on c.in_err-dot.ensures c.dots.invariant)

pub dots-preserved : goal.dots-preserved
dots-preserved c =
    let goes_on : begins Dot (symbols c.dots.self.rest) ≡ true = sym c.begins.ensures ∙ c.dots-test.true in
    repeated-goes (begins Dot) dot_at dot-shortens _ (symbols c.dots.self.rest) _ _ goes_on c.in_ok-dot.ensures c.dots.invariant

pub returns : goal.returns
returns c =
    let ended : begins Dot (symbols c.dots.self.rest) ≡ false = sym c.begins.ensures ∙ c.dots-test.false in
    repeated-ends (begins Dot) dot_at dot-shortens _ (symbols c.dots.self.rest) _ ended c.dots.invariant
