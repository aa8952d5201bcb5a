use Rattle.std.proofs.Common.{◌<◌, arith}
use Rattle.rdl_header.proofs.SharedPlaces.{apart_if_found_are}
use Rattle.rdl_header.proofs.places.doubtful.Goals as goal

pub returns : goal.returns
returns c =
    let some : 0 < c.max-places.result = omega arith in
    λ apart. apart_if_found_are c.max-places.result c.in_ok-counts.counts.items c.args.marks.now c.in_ok-doubtful.doubtful.items c.as_slice.result.now some c.in_ok-counts.ensures.places c.in_ok-counts.ensures.counts c.as_slice.ensures.value c.in_ok-doubtful.ensures apart
