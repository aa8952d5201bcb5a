use Rattle.std.proofs.Common.{◌≡◌, ◌+◌, ◌-◌, ◌<◌, [], ◌∷◌, if◌then◌else◌, length, refl, arith}
use Rattle.std.proofs.lemmas.Option.{slice_get_read}
use Rattle.rdl_marks.specs.View.{new_item}
use Rattle.rdl_marks.proofs.Cuts.{traces_grown}
use Rattle.rdl_marks.proofs.pieces.grow_last.Goals as goal

pub returns : goal.returns
returns c =
    let ps = c.args.front.now.items in
    let k = c.len-count.result - 1 in
    let last : k + 1 ≡ length ps = omega (arith, c.len-count.ensures, c.if-count-eq0.false) in
    let within : k < length ps = omega (arith, last) in
    traces_grown ps k c.index_mut.result.now c.grow.new.piece (if c.grow.result then new_item ∷ [] else [])
    (slice_get_read ps (length ps) k c.index_mut.result.now refl within c.index_mut.ensures.value) last c.grow.ensures
