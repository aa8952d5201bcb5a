use Rattle.std.proofs.Common.{subst, sym}
use Rattle.std.proofs.lemmas.Result.{on_ok_weaker}
use Rattle.rdl_elab.specs.BarePlaces.{IsPlacedSo}
use Rattle.rdl_elab.specs.Placing.{with_behind}
use Rattle.rdl_elab.proofs.PlacedParts.{next-bare}
use Rattle.rdl_elab.proofs.walk.instances.put_next.Goals as goal

pub returns-in-Some-clause-one : goal.returns-in-Some-clause-one
returns-in-Some-clause-one c =
    let m = c.args.mode in
    let around = c.args.placing.now.alignment in
    let place = c.in-Some.place in
    on_ok_weaker c.put_bare.result
    (λ one rest. next-bare m c.args.components.now c.args.part.now rest (λ xs. with_behind c.args.placing.now xs) (λ xs. with_behind c.put_bare.new.self xs) around place c.in-Some.ensures.bare c.in-Some.ensures.place
    (λ item behind so. one item behind (subst (λ n. IsPlacedSo around n item place) (sym c.requires.mode) so)))
    c.put_bare.ensures.one
