use Rattle.std.proofs.Common.{length, refl}
use Rattle.std.proofs.lemmas.Option.{slice_get_read}
use Rattle.rdl_renew.proofs.InPlace.{adds_at}
use Rattle.rdl_renew.proofs.done.adds_same_at.Goals as goal

pub returns-in-Some-get : goal.returns-in-Some-get
returns-in-Some-get c = λ yes.
    let xs = c.args.before.now in
    let ys = c.args.now.now in
    let i = c.args.number in
    let x = c.in-Some.before.now in
    let y = c.in-Some-get.now.now in
    adds_at xs ys i x y (slice_get_read xs (length xs) i x refl c.in-Some.ensures.lookup.3.0 c.in-Some.ensures.lookup.1)
    (slice_get_read ys (length ys) i y refl c.in-Some-get.ensures.lookup.3.0 c.in-Some-get.ensures.lookup.1) (c.adds_same.ensures yes)
