use Rattle.std.proofs.Common.{◌≡◌, ◌≤◌, true, sym, ◌∙◌, arith}
use Rattle.std.specs.Prelude.{nat_le}
use Rattle.std.proofs.lemmas.Bool.Decides.{nat_tests}
use Rattle.rdl_nodes.proofs.FromBehind.{overlaps_none}
use Rattle.rdl_nodes.proofs.apart.is_apart_from.Goals as goal

pub returns-then-end-least : goal.returns-then-end-least
returns-then-end-least c =
    let less : c.args.span.end ≤ c.args.least = omega (arith, c.end.ensures, c.if-end-least.true) in
    let test : nat_le c.end.result c.args.least ≡ true = grind (arith, nat_tests, c.if-end-least.true) in
    test ∙ sym (overlaps_none c.args.span c.args.least c.args.others.now less c.requires)
