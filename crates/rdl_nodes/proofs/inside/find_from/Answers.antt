use Rattle.std.proofs.Common.{◌≡◌, ◌<◌, ◌-◌, suc, length, true, false, sym, ◌∙◌, arith}
use Rattle.std.specs.Prelude.{bytes_eq}
use Rattle.rdl_nodes.proofs.Instances.{found_here, not_here}
use Rattle.rdl_nodes.proofs.inside.find_from.Goals as goal

pub returns-then-is_same : goal.returns-then-is_same
returns-then-is_same c =
    let xs = c.args.instances.now in
    let q = c.args.name.now in
    let k = c.loop-i.i - 1 in
    let x = c.index-instances-i.result in
    let within : k < length xs = omega (arith, c.loop-i.auto.i, c.loop-i-test.true) in
    let next : c.loop-i.i ≡ suc k = omega (arith, c.loop-i-test.true) in
    let same : bytes_eq x.name.now q ≡ true = (λ i. bytes_eq (sym c.as_str.ensures i) (sym c.as_str-in-loop-i.ensures i)) ∙ sym c.is_same.ensures ∙ c.if-is_same.true in
    sym (c.loop-i.invariant.found ∙ found_here q xs k c.loop-i.i x next within c.index-instances-i.is same)

pub loop-i-preserved : goal.loop-i-preserved
loop-i-preserved c =
    let xs = c.args.instances.now in
    let q = c.args.name.now in
    let k = c.loop-i.i - 1 in
    let x = c.index-instances-i.result in
    let within : k < length xs = omega (arith, c.loop-i.auto.i, c.loop-i-test.true) in
    let next : c.loop-i.i ≡ suc k = omega (arith, c.loop-i-test.true) in
    let other : bytes_eq x.name.now q ≡ false = (λ i. bytes_eq (sym c.as_str.ensures i) (sym c.as_str-in-loop-i.ensures i)) ∙ sym c.is_same.ensures ∙ c.if-is_same.false in
    record {
      found = c.loop-i.invariant.found ∙ not_here q xs k c.loop-i.i x next within c.index-instances-i.is other;
      from = omega (arith, c.loop-i-test.true);
    }
