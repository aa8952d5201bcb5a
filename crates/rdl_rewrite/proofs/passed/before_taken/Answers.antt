use Rattle.std.proofs.Common.{◌≡◌, ◌++◌, ◌∷◌, [], false, Some, ap, sym, ◌∙◌}
use Rattle.rdl_rewrite.specs.Addresses.{same}
use Rattle.rdl_rewrite.specs.Firsts.{first_under}
use Rattle.rdl_rewrite.proofs.Before.{is_before, two-names}
use Rattle.rdl_rewrite.proofs.passed.before_taken.Goals as goal

pub returns-then-not-ends_at : goal.returns-then-not-ends_at
returns-then-not-ends_at c = λ n are.
    let sweep = c.args.sweep.now in
    let b = c.args.at.now in
    let first = c.first-item.result in
    let second = c.second-item.result in
    let k = c.in_ok-number-in-len2.number in
    let inside = c.in_ok-number-in-len2.is_inside in
    let got : first_under c.args.firsts.now first ≡ Some (k, inside) = ap (first_under c.args.firsts.now) (sym c.as_str.ensures) ∙ sym c.get.ensures ∙ c.in_ok-number-in-len2.was in
    let other : same (b ++ k ∷ []) sweep.way.now ≡ false = sym c.ends_at.ensures ∙ c.if-not-ends_at.true in
    let two = two-names c.args.names.now first second c.in-len2.len_at_least c.in-len2.len_below c.first-item.is c.second-item.is in
    is_before sweep.whole.now.items sweep.way.now b n k c.args.firsts.now inside first second c.args.names.now are got c.if-is_inside.true other (c.is_first.ensures c.if-is_first.true) two
