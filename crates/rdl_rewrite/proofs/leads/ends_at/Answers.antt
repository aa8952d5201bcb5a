use Rattle.std.proofs.Common.{◌≡◌, ◌++◌, ◌∷◌, ◌&&◌, ◌-◌, [], false, ap, sym, ◌∙◌, length, take, get_or, nat_eq, eq-eqb}
use Rattle.std.specs.Prelude.{bytes_eq}
use Rattle.std.proofs.lemmas.Bool.{ne_eqb}
use Rattle.rdl_rewrite.proofs.Before.{ends, split}
use Rattle.rdl_rewrite.proofs.leads.ends_at.Goals as goal

pub returns-then-last-number : goal.returns-then-last-number
returns-then-last-number c =
    let xs = c.as_slice.result.now in
    let b = c.args.at.now in
    let n = c.args.number in
    let last = get_or xs (length xs - 1) 0 in
    let body = take (length xs - 1) xs in
    let parts : c.args.way.now ≡ body ++ last ∷ [] = sym c.as_slice.ensures.value ∙ split xs c.in-len1-up.len_at_least in
    c.eq.ensures
    ∙ ap (bytes_eq body) c.as_slice-then-last-number.ensures.value
    ∙ sym (ap (λ t. t && bytes_eq body b) (eq-eqb last n c.if-last-number.true))
    ∙ ends b body c.args.way.now n last parts

pub returns-else-last-number : goal.returns-else-last-number
returns-else-last-number c =
    let xs = c.as_slice.result.now in
    let b = c.args.at.now in
    let n = c.args.number in
    let last = get_or xs (length xs - 1) 0 in
    let body = take (length xs - 1) xs in
    let parts : c.args.way.now ≡ body ++ last ∷ [] = sym c.as_slice.ensures.value ∙ split xs c.in-len1-up.len_at_least in
    let other : nat_eq last n ≡ false = ne_eqb last n c.if-last-number.false in
    other ∙ sym (ap (λ t. t && bytes_eq body b) other) ∙ ends b body c.args.way.now n last parts
