use Rattle.std.proofs.Common.{◌≡◌, ◌≤◌, ◌+◌, drop, true, sym, ◌∙◌, arith}
use Rattle.std.specs.Prelude.{map, nat_le}
use Rattle.std.proofs.lemmas.Bool.Decides.{nat_tests}
use Rattle.rdl_nodes.specs.Apart.{first_clashes_none}
use Rattle.rdl_nodes.specs.Part.{access_of}
use Rattle.rdl_nodes.proofs.Bodies.{drop_at}
use Rattle.rdl_nodes.proofs.FromBehind.{clashes_with_none}
use Rattle.rdl_nodes.proofs.apart.clashes_none_behind.Goals as goal

pub returns-then-end-least : goal.returns-then-end-least
returns-then-end-least c =
    let ss = c.args.spans.now in
    let ps = c.args.parts.now in
    let k = c.args.number in
    let s = c.index-spans-number.result in
    let p = c.in-Some.part.now in
    let spans = drop_at ss k s c.requires.within c.index-spans-number.is in
    let parts = drop_at ps k p c.in-Some.ensures.lookup.3.0 c.in-Some.ensures.lookup.1 in
    let less : s.end ≤ c.args.least = omega (arith, c.end.ensures, c.if-end-least.true) in
    let test : nat_le c.end.result c.args.least ≡ true = grind (arith, nat_tests, c.if-end-least.true) in
    test ∙ sym ((λ i. first_clashes_none (spans i) (map access_of (parts i))) ∙ clashes_with_none s p.access c.args.least (drop (k + 1) ss) (map access_of (drop (k + 1) ps)) less c.requires.order)
