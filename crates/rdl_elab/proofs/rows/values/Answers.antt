use Rattle.std.proofs.Common.{◌≡◌, [], sym, ap, ◌∙◌}
use Rattle.std.proofs.lemmas.Result.{IfOk-weaker}
use Rattle.rdl_elab.specs.FinishedRows.{finished_values}
use Rattle.rdl_elab.specs.Reaches.{values_along}
use Rattle.rdl_elab.proofs.KeptValues.{kept-passing}
use Rattle.rdl_elab.proofs.rows.values.Goals as goal

pub returns-then-is_alone : goal.returns-then-is_alone
returns-then-is_alone c = c.of.ensures ∙ c.in_ok-own.ensures ∙ c.is_alone.ensures.alone c.if-is_alone.true c.args.kind c.args.own.now

pub returns : goal.returns
returns c =
    IfOk-weaker c.with_reset.result
    (λ values. values ≡ values_along c.args.kind c.args.reset [] c.in_ok-own.own)
    (λ values. values ≡ finished_values c.args.kind c.args.reset c.args.reaching.now c.args.own.now)
    (λ values e.
    e
    ∙ ap (values_along c.args.kind c.args.reset []) c.in_ok-own.ensures
    ∙ sym (kept-passing c.args.reaching.now (sym c.has_come.ensures ∙ c.if-has_come.false) c.args.kind c.args.reset c.args.own.now)
    ∙ c.is_alone.ensures.reached c.if-is_alone.false c.args.kind c.args.own.now)
    c.with_reset.ensures
