-- The quote that closes a string is found behind its first byte.
use Rattle.std.proofs.Common.{refl, sym, false, ◌∙◌, ap}
use Rattle.rdl_text.specs.Rows.{closing}
use Rattle.rdl_text.proofs.Cutting.{tail}
use Rattle.rdl_text.proofs.Fronts.{quote_span, quoted_span}
use Rattle.rdl_text.proofs.cut.string_span.Goals as goal

pub returns-in-Some : goal.returns-in-Some
returns-in-Some c =
    let s = c.args.bytes.now in
    let found = c.closing.ensures.place ∙ ap (closing false) (tail s s 1 refl) in
    sym (quote_span s c.requires ∙ ap quoted_span (sym found ∙ c.in-Some.is))

pub returns-in-None : goal.returns-in-None
returns-in-None c =
    let s = c.args.bytes.now in
    let found = c.closing.ensures.place ∙ ap (closing false) (tail s s 1 refl) in
    sym (quote_span s c.requires ∙ ap quoted_span (sym found ∙ c.in-None.is))
