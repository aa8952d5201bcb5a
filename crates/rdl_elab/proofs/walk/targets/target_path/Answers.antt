use Rattle.std.proofs.Common.{◌≡◌, ap, sym, subst, ◌∙◌, rules, true, option_copied}
use Rattle.std.specs.Prelude.{nat_lt}
use Rattle.std.specs.Result.{IfOk}
use Rattle.rdl_tree.specs.Address.{number_of}
use Rattle.rdl_elab.specs.KeptTargets.{kept_from, kept_target}
use Rattle.rdl_elab.proofs.KeptPassing.{target-path, one-name}
use Rattle.rdl_elab.proofs.walk.targets.target_path.Goals as goal

pub returns-in_default-rest-clause-path : goal.returns-in_default-rest-clause-path
returns-in_default-rest-clause-path c =
    let fs = c.args.components.now in
    let ps = c.args.parts.now.items in
    let p = c.in-Some-named_again.part.now in
    let before : nat_lt (number_of p.at) c.args.n ≡ true = search rules in
    let same =
    sym (target-path fs ps c.args.n c.in-Some.name.now c.in-Some.rest.now p (sym c.named_again.ensures.found ∙ ap option_copied c.in-Some-named_again.is) before)
    ∙ ap (kept_target fs ps c.args.n) (sym c.in-Some.ensures.cases.0) in
    subst (λ k. IfOk c.path_of_all.result (λ path. path ≡ k)) same c.path_of_all.ensures

pub returns-in-len1-clause-path : goal.returns-in-len1-clause-path
returns-in-len1-clause-path c =
    let fs = c.args.components.now in
    let ps = c.args.parts.now.items in
    let p = c.in-Some-named_again.part.now in
    let before : nat_lt (number_of p.at) c.args.n ≡ true = search rules in
    let same =
    ap (kept_from fs p) (one-name c.in-Some.rest.now c.name-item.result c.in-len1.len_at_least c.in-len1.len_below c.name-item.is)
    ∙ sym (target-path fs ps c.args.n c.in-Some.name.now c.in-Some.rest.now p (sym c.named_again.ensures.found ∙ ap option_copied c.in-Some-named_again.is) before)
    ∙ ap (kept_target fs ps c.args.n) (sym c.in-Some.ensures.cases.0) in
    subst (λ k. IfOk c.path_of_two.result (λ path. path ≡ k)) same c.path_of_two.ensures
