use Rattle.std.proofs.Common.{◌≡◌, ◌∷◌, ◌++◌, [], Some, false, ap, sym, ◌∙◌, option_copied}
use Rattle.std.specs.Prelude.{option_and_then}
use Rattle.rdl_tree.specs.ItemAt.{item_at}
use Rattle.rdl_tree.specs.Address.{holder_of}
use Rattle.rdl_scope.specs.Target.{passes}
use Rattle.rdl_rewrite.specs.Addresses.{same, passes_by}
use Rattle.rdl_rewrite.specs.Firsts.{first_under}
use Rattle.rdl_rewrite.specs.Passed.{may_pass, passes_from}
use Rattle.rdl_rewrite.proofs.FirstInstances.{first_some}
use Rattle.rdl_rewrite.proofs.Found.{unpassed_from, passes-first, none_passed}
use Rattle.rdl_rewrite.proofs.passed.passed.Goals as goal

pub returns-then-not-may_pass : goal.returns-then-not-may_pass
returns-then-not-may_pass c =
    let sweep = c.args.sweep.now in
    let d = sweep.whole.now.items in
    let way = sweep.way.now in
    let place = holder_of way in
    let b = c.args.at.now in
    let n = c.args.number in
    let name = c.in-Some.name.now in
    let rest = c.in-Some.rest.now in
    let k = c.in-Some-get.first in
    let inside = c.in-Some-get.is_inside in
    let got : first_under c.args.firsts.now name ≡ Some (k, inside) = ap (first_under c.args.firsts.now) (sym c.as_str.ensures) ∙ sym c.get.ensures ∙ c.in-Some-get.is in
    let first = first_some d place b n c.args.firsts.now name k inside c.requires.firsts got in
    let apart : same (b ++ k ∷ []) way ≡ false = sym c.ends_at.ensures ∙ c.if-not-ends_at.true in
    let may : may_pass (item_at way d) (item_at place d) inside rest ≡ false =
    ap (λ o. may_pass o (item_at place d) inside rest) (sym c.requires.known.taken) ∙ ap (λ o. may_pass (option_copied sweep.taken) o inside rest) (sym c.requires.known.holder)
    ∙ sym c.may_pass.ensures ∙ c.if-not-may_pass.true in
    let path : passes d b n c.args.names.now ≡ passes_from d (b ++ k ∷ []) rest =
    ap (passes d b n) c.in-Some.ensures.cases.0 ∙ passes-first d b n name rest ∙ ap (option_and_then (λ a. passes_from d a rest)) first.0 in
    none_passed way (passes d b n c.args.names.now) (ap (passes_by way) path ∙ unpassed_from d way (b ++ k ∷ []) inside rest apart first.1 may)
