use Rattle.std.proofs.Common.{◌≡◌, ◌+◌, ◌-◌, ◌<◌, suc, length, drop, min, true, ap, sym, ◌∙◌, arith}
use Rattle.std.specs.Prelude.{map}
use Rattle.rdl_seen.specs.Fields.{clash_none}
use Rattle.rdl_nodes.specs.Apart.{begin_from, first_clashes_none}
use Rattle.rdl_nodes.specs.Part.{access_of}
use Rattle.rdl_nodes.proofs.FromBehind.{clash_none_first, some_clash, map_behind, order_at}
use Rattle.rdl_nodes.proofs.apart.clash_none.Goals as goal

pub returns-then-not-clashes_none_behind : goal.returns-then-not-clashes_none_behind
returns-then-not-clashes_none_behind c =
    let ss = c.args.spans.now in
    let ps = c.args.parts.now in
    let k = c.loop-i.i - 1 in
    let some = ap (first_clashes_none (drop k ss)) (sym (map_behind access_of ps k)) ∙ sym c.clashes_none_behind.ensures ∙ c.if-not-clashes_none_behind.true in
    sym (some_clash ss (map access_of ps) k some)

pub loop-i-preserved : goal.loop-i-preserved
loop-i-preserved c =
    let ss = c.args.spans.now in
    let ps = c.args.parts.now in
    let k = c.loop-i.i - 1 in
    let s = c.index-spans-i.result in
    let within : k < length ss = omega (arith, c.loop-i.auto.i, c.loop-i-test.true) in
    let next : c.loop-i.i ≡ k + 1 = omega (arith, c.loop-i-test.true) in
    let same : suc k ≡ c.loop-i.i = omega (arith, c.loop-i-test.true) in
    let none = ap (first_clashes_none (drop k ss)) (sym (map_behind access_of ps k)) ∙ sym c.clashes_none_behind.ensures ∙ c.if-not-clashes_none_behind.false in
    let rest = (λ i. clash_none (drop (same i) ss) (drop (same i) (map access_of ps))) ∙ ap (clash_none (drop c.loop-i.i ss)) (sym (map_behind access_of ps c.loop-i.i)) ∙ c.loop-i.invariant.apart in
    let order : begin_from c.loop-i.least (drop (k + 1) ss) ≡ true = ap (λ n. begin_from c.loop-i.least (drop n ss)) (sym next) ∙ c.loop-i.invariant.order in
    let least = c.min-least.ensures ∙ (λ i. min c.loop-i.least (c.start.ensures i)) in
    record {
      apart = ap (clash_none (drop k ss)) (map_behind access_of ps k) ∙ clash_none_first ss (map access_of ps) k none rest;
      order = ap (λ n. begin_from n (drop k ss)) least ∙ order_at c.loop-i.least ss k s within c.index-spans-i.is order;
    }
