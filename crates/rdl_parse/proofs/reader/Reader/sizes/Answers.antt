use Rattle.std.proofs.lemmas.Result.{err_from_is_err_and}
use Rattle.std.proofs.Common.{◌≡◌, sym, ◌∙◌, true, false}
use Rattle.rdl_text.specs.declared.token.Mark.TheVariants.{OpenBracket}
use Rattle.rdl_parse.specs.Reading.{begins, size_at}
use Rattle.rdl_parse.specs.Symbol.{symbols}
use Rattle.rdl_parse.proofs.WordAgain.{size-shortens}
use Rattle.rdl_parse.proofs.Rounds.{takes, repeated-fails, repeated-goes, repeated-ends}
use Rattle.rdl_parse.proofs.reader.Reader.sizes.Goals as goal

pub sizes-smaller : goal.sizes-smaller
sizes-smaller c = takes (begins OpenBracket) size_at size-shortens _ _ _ _ c.in_ok-size.ensures

pub returns-in_err-size : goal.returns-in_err-size
returns-in_err-size c =
    let p = err_from_is_err_and c.from_residual.result c.from_residual.ensures.1 in
    let goes_on : begins OpenBracket (symbols c.sizes.self.rest) ≡ true = sym c.begins.ensures ∙ c.sizes-test.true in
    rw (p.1, p.2) (repeated-fails (begins OpenBracket) size_at size-shortens _ _ (symbols c.sizes.self.rest) _ goes_on c.in_err-size.ensures c.sizes.invariant)

pub sizes-preserved : goal.sizes-preserved
sizes-preserved c =
    let goes_on : begins OpenBracket (symbols c.sizes.self.rest) ≡ true = sym c.begins.ensures ∙ c.sizes-test.true in
    repeated-goes (begins OpenBracket) size_at size-shortens _ (symbols c.sizes.self.rest) _ _ goes_on c.in_ok-size.ensures c.sizes.invariant

pub returns : goal.returns
returns c =
    let ended : begins OpenBracket (symbols c.sizes.self.rest) ≡ false = sym c.begins.ensures ∙ c.sizes-test.false in
    repeated-ends (begins OpenBracket) size_at size-shortens _ (symbols c.sizes.self.rest) _ ended c.sizes.invariant
