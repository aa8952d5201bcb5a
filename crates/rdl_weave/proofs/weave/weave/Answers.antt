use Rattle.std.proofs.Common.{rules, ◌≡◌, ◌<◌, length, None, sym, subst}
use Rattle.rdl_parse.specs.Faults.{max_text}
use Rattle.rdl_weave.specs.Coarse.{text_of, coarse}
use Rattle.rdl_weave.specs.Sound.{Fits}
use Rattle.rdl_weave.specs.Sources.{IsSource}
use Rattle.rdl_weave.specs.Untouched.{sizes_of}
use Rattle.rdl_weave.specs.Weaving.{AreStatements}
use Rattle.rdl_weave.proofs.Sounding.{coarse_long, laid_fits, not_found, only_there, spells_if, spells_not}
use Rattle.rdl_weave.proofs.weave.weave.Goals as goal

pub returns-then-branch-clause-reads : goal.returns-then-branch-clause-reads
returns-then-branch-clause-reads c =
    let is : IsSource c.args.source.now c.in-Some.read = search rules in
    spells_if c.args.canonical.now c.args.source.now _ c.is_canonical.result c.in_ok-is_canonical.field-0 (search rules) (search rules) (c.is_canonical.ensures c.args.source.now is.places is.read) (search rules)

pub returns-in_default-statements-clause-refused : goal.returns-in_default-statements-clause-refused
returns-in_default-statements-clause-refused c = λ e s.
    let is : IsSource c.args.source.now c.in-Some.read = search rules in
    let none : c.in-Some.read.statements ≡ None = search rules in
    not_found c.in-Some.read.statements _ none (is.only s.laid s.laid_out s.within s.shallow)

pub returns-clause-refused : goal.returns-clause-refused
returns-clause-refused c = λ e s.
    let is : IsSource c.args.source.now c.in-Some.read = search rules in
    let laid = c.in-Some-statements.statements in
    let fits = laid_fits c.args.source.now c.args.canonical.now c.args.origins.now c.args.last.now.items laid (only_there c.args.source.now c.in-Some.read laid c.in-Some-statements.is is) s in
    c.in_ok-text-3.ensures.sound (subst (λ b. Fits b laid c.args.origins.now c.args.last.now.items c.args.canonical.now) (sym c.as_bytes.ensures.value) fits) c.in-None.is

pub returns-in_err-text-3-clause-long : goal.returns-in_err-text-3-clause-long
returns-in_err-text-3-clause-long c = λ e.
    let bytes = c.as_bytes.result.now in
    let sizes = c.as_slice-sizes.result.now in
    let laid = c.in-Some-statements.statements in
    let last = c.args.last.now.items in
    let is : IsSource c.args.source.now c.in-Some.read = search rules in
    let statements : AreStatements c.args.source.now laid = search rules in
    let counted : sizes ≡ sizes_of last = search rules in
    let long : max_text < length (text_of bytes (coarse bytes sizes laid c.args.origins.now last)) = search rules in
    coarse_long c.args.source.now c.args.canonical.now bytes sizes laid c.args.origins.now last statements c.as_bytes.ensures.value counted long

pub returns-in_err-text-3-clause-same : goal.returns-in_err-text-3-clause-same
returns-in_err-text-3-clause-same c = λ s.
    let is : IsSource c.args.source.now c.in-Some.read = search rules in
    absurd (spells_not c.args.canonical.now c.args.source.now c.is_canonical.result c.in_ok-is_canonical.field-0 (search rules) (search rules) (c.is_canonical.ensures c.args.source.now is.places is.read) s)

pub returns-clause-same : goal.returns-clause-same
returns-clause-same c = λ s.
    let is : IsSource c.args.source.now c.in-Some.read = search rules in
    absurd (spells_not c.args.canonical.now c.args.source.now c.is_canonical.result c.in_ok-is_canonical.field-0 (search rules) (search rules) (c.is_canonical.ensures c.args.source.now is.places is.read) s)
