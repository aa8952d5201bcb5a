use Rattle.std.proofs.Common.{◌≡◌, OnOk, Result, Ok, Err, refl, sym, ◌∙◌}
use Rattle.std.proofs.lemmas.Result.{IfOk-weaker, IfOk-from_err}
use Rattle.rdl_scope.specs.Closed.{Head}
use Rattle.rdl_elab.specs.Shown.{shown_values}
use Rattle.rdl_elab.proofs.BareHeads.{shown-bare}
use Rattle.rdl_elab.proofs.Unstated.{shown-unassigned}
use Rattle.rdl_elab.proofs.walk.values.shown_values.Goals as goal

pub returns-in-Some-clause-values : goal.returns-in-Some-clause-values
returns-in-Some-clause-values c =
    let k = c.args.kind in
    let body = c.args.own.now in
    let ds = c.args.defaults.now in
    let none = c.is_empty.ensures c.if-not-is_empty.false in
    IfOk-weaker c.share.result
    (λ values. values ≡ c.in-Some.values.now)
    (λ values. (h : Head) → h.kind ≡ k → h.body ≡ body → h.defaults ≡ ds → values ≡ shown_values h)
    (λ values e h same_kind same_body same_defaults. e ∙ c.in-Some.ensures ∙ sym (shown-unassigned k body ds none) ∙ shown-bare h k body ds same_kind same_body same_defaults)
    c.share.ensures

pub keep-requires : goal.keep-requires
keep-requires c =
    let none = c.is_empty.ensures c.if-not-is_empty.false in
    c.in_ok-share.ensures ∙ c.in_ok-values.ensures ∙ shown-unassigned c.args.kind c.args.own.now c.args.defaults.now none

pub returns-in_err-share-clause-values : goal.returns-in_err-share-clause-values
returns-in_err-share-clause-values c = IfOk-from_err c.from_residual-in_err-share.result _ c.from_residual-in_err-share.ensures.0

pub returns-in_err-share-clause-stays : goal.returns-in_err-share-clause-stays
returns-in_err-share-clause-stays c = either c.from_residual-in_err-share.result refl
  where
    either : {X E P : Type 0} (r : Result X E) → P → OnOk r P
    either (Ok x) p = p
    either (Err e) p = tt
