use Rattle.std.proofs.Common.{◌≡◌, ◌-◌, ◌+◌, drop, ap, ◌∙◌, arith}
use Rattle.std.proofs.lemmas.List.{drop-drop}
use Rattle.rdl_elab.proofs.walk.types.Types.truncate.Goals as goal

pub loop-preserved : goal.loop-preserved
loop-preserved c =
    let one : c.pop.new.self ≡ drop 1 c.loop.self = c.in_ok-pop.ensures in
    let more : c.loop.counter - c.args.len + 1 ≡ c.loop.counter + 1 - c.args.len = omega (arith, c.loop.auto.counter) in
    one ∙ ap (drop 1) c.loop.invariant ∙ drop-drop 1 (c.loop.counter - c.args.len) c.args.self.now ∙ ap (λ n. drop n c.args.self.now) more
