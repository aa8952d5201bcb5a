use Rattle.std.proofs.lemmas.Result.{err_from_is_err_and}
use Rattle.std.proofs.Common.{◌≡◌, ap, sym, subst, ◌∙◌, true, false, option_map}
use Rattle.rdl_text.specs.declared.token.Mark.TheVariants.{Comma}
use Rattle.rdl_tree.specs.declared.description.Of.{Of}
use Rattle.rdl_parse.specs.Finds.{seen}
use Rattle.rdl_parse.specs.Gathering.{finished, gathered_at, next_of}
use Rattle.rdl_parse.specs.Reading.{Fails, begins}
use Rattle.rdl_parse.specs.Symbol.{symbols}
use Rattle.rdl_parse.proofs.Gathering.{gathers-first, first-fails, comma-fails, next-fails, next-again, next-same, next-over, gathers-smaller, gathers-next, gathers-ends}
use Rattle.rdl_parse.proofs.reader.Reader.insts.Goals as goal

pub returns-in_err-kept : goal.returns-in_err-kept
returns-in_err-kept c =
    let p = err_from_is_err_and c.from_residual.result c.from_residual.ensures.1 in
    rw (p.1, p.2) (first-fails c.in_err-kept.field-0.0 c.args.room c.args.outside c.args.of c.args.inner.now (seen c.args.found) (option_map finished c.new.result) (symbols c.args.self.now.rest) c.in_err-kept.ensures.kept)

pub commas-init : goal.commas-init
commas-init c = record {
  gathers = gathers-first c.args.room c.args.outside c.args.of c.args.inner.now (seen c.args.found) (symbols c.args.self.now.rest) (option_map finished c.new.result) _ _ c.new.ensures c.in_ok-kept.ensures.kept;
  next = c.in_ok-kept.ensures.next;
}

pub returns-in_err-mark : goal.returns-in_err-mark
returns-in_err-mark c =
    let p = err_from_is_err_and c.from_residual-in_err-mark.result c.from_residual-in_err-mark.ensures.1 in
    let goes_on : begins Comma (symbols c.commas.self.rest) ≡ true = next-again c.args.of c.in-Some.of c.commas.next _ c.commas.invariant.next c.in-Some.is in
    rw (p.1, p.2) (comma-fails c.in_err-mark.field-0.0 c.args.room c.args.outside c.args.of c.args.inner.now _ (symbols c.commas.self.rest) _ goes_on c.in_err-mark.ensures c.commas.invariant.gathers)

pub returns-in_err-more : goal.returns-in_err-more
returns-in_err-more c =
    let p = err_from_is_err_and c.from_residual-in_err-more.result c.from_residual-in_err-more.ensures.1 in
    let goes_on : begins Comma (symbols c.commas.self.rest) ≡ true = next-again c.args.of c.in-Some.of c.commas.next _ c.commas.invariant.next c.in-Some.is in
    let same : c.args.of ≡ c.in-Some.of = next-same c.args.of c.in-Some.of c.commas.next _ c.commas.invariant.next c.in-Some.is in
    let fails : Fails c.in_err-more.field-0.0 (gathered_at c.args.outside c.args.of c.args.inner.now (option_map finished c.commas.kept) (symbols c.mark.new.self.rest)) =
    subst (λ (o : Of). Fails c.in_err-more.field-0.0 (gathered_at c.args.outside o c.args.inner.now (option_map finished c.commas.kept) (symbols c.mark.new.self.rest))) (sym same) c.in_err-more.ensures.kept in
    rw (p.1, p.2) (next-fails c.in_err-more.field-0.0 c.args.room c.args.outside c.args.of c.args.inner.now _ (symbols c.commas.self.rest) (symbols c.mark.new.self.rest) _ goes_on c.in_ok-mark.ensures fails c.commas.invariant.gathers)

pub commas-smaller : goal.commas-smaller
commas-smaller c =
    gathers-smaller c.args.outside c.in-Some.of c.args.inner.now (option_map finished c.commas.kept) _ c.commas.self.rest c.mark.new.self.rest c.more-in-Some.new.self.rest c.in_ok-mark.ensures c.in_ok-more.ensures.kept

pub commas-preserved : goal.commas-preserved
commas-preserved c =
    let goes_on : begins Comma (symbols c.commas.self.rest) ≡ true = next-again c.args.of c.in-Some.of c.commas.next _ c.commas.invariant.next c.in-Some.is in
    let same : c.args.of ≡ c.in-Some.of = next-same c.args.of c.in-Some.of c.commas.next _ c.commas.invariant.next c.in-Some.is in
    record {
      gathers = gathers-next c.args.room c.args.outside c.args.of c.args.inner.now (option_map finished c.commas.kept) _ (symbols c.commas.self.rest) (symbols c.mark.new.self.rest) _ _ goes_on c.in_ok-mark.ensures
          (ap (λ (o : Of). gathered_at c.args.outside o c.args.inner.now (option_map finished c.commas.kept) (symbols c.mark.new.self.rest)) same ∙ c.in_ok-more.ensures.kept) c.commas.invariant.gathers;
      next = c.in_ok-more.ensures.next ∙ ap (next_of (begins Comma (symbols c.more-in-Some.new.self.rest))) (sym same);
    }

pub returns : goal.returns
returns c =
    let over : begins Comma (symbols c.commas.self.rest) ≡ false = next-over c.args.of c.commas.next _ c.commas.invariant.next c.in_default.is in
    rw (gathers-ends c.args.room c.args.outside c.args.of c.args.inner.now (option_map finished c.commas.kept) (symbols c.commas.self.rest) _ over c.commas.invariant.gathers) c.end_statement.ensures
