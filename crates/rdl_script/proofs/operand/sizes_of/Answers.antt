use Rattle.std.proofs.Common.{◌≡◌, ◌<◌, ◌∙◌, sym, ap, length, false, nat_eq, arith}
use Rattle.std.proofs.lemmas.Bool.Decides.{nat_tests}
use Rattle.rdl_script.proofs.Sizes.{no_sizes}
use Rattle.rdl_script.proofs.Splits.{ahead}
use Rattle.rdl_script.proofs.operand.sizes_of.Goals as goal

pub returns-else-is_empty : goal.returns-else-is_empty
returns-else-is_empty c =
    let test : nat_eq (length c.sizes.rest.now) 0 ≡ false = sym c.is_empty.ensures ∙ c.if-is_empty.false in
    let some : 0 < length c.sizes.rest.now = grind (arith, nat_tests) in
    sym (ap (ahead c.sizes.sizes.items) (no_sizes c.sizes.rest.now some c.in_default.len_below)) ∙ c.sizes.invariant
