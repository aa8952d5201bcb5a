use Rattle.std.proofs.Common.{◌≡◌, ◌+◌, ◌-◌, ◌<◌, length, refl, arith}
use Rattle.std.proofs.lemmas.Option.{slice_get_read}
use Rattle.rdl_marks.proofs.Cuts.{last_fits, cut_counted, cut_same}
use Rattle.rdl_marks.proofs.marks.Pieces.cut_back.Goals as goal

pub overflow_sub-start : goal.overflow_sub-start
overflow_sub-start c =
    let ps = c.args.self.now.front.items in
    let k = c.len-count.result - 1 in
    let last : k + 1 ≡ length ps = omega (arith, c.len-count.ensures, c.if-count-eq0.false) in
    let within : k < length ps = omega (arith, last) in
    last_fits ps k c.index.result.now c.args.self.now.before c.len.result (slice_get_read ps (length ps) k c.index.result.now refl within c.index.ensures) last c.requires.counted c.len.ensures

pub returns-in_err-push-clause-counted : goal.returns-in_err-push-clause-counted
returns-in_err-push-clause-counted c =
    let ps = c.args.self.now.front.items in
    let k = c.len-count.result - 1 in
    let last : k + 1 ≡ length ps = omega (arith, c.len-count.ensures, c.if-count-eq0.false) in
    let within : k < length ps = omega (arith, last) in
    let far : c.args.self.now.before - c.len.result < c.args.number = omega (arith, c.if-number-start.false) in
    cut_counted ps k c.index.result.now c.split-rest.new.piece c.args.self.now.before c.len.result c.args.number (slice_get_read ps (length ps) k c.index.result.now refl within c.index.ensures) last c.requires.counted c.len.ensures far
    c.split-rest.ensures.here

pub returns-clause-counted : goal.returns-clause-counted
returns-clause-counted c =
    let ps = c.args.self.now.front.items in
    let k = c.len-count.result - 1 in
    let last : k + 1 ≡ length ps = omega (arith, c.len-count.ensures, c.if-count-eq0.false) in
    let within : k < length ps = omega (arith, last) in
    let far : c.args.self.now.before - c.len.result < c.args.number = omega (arith, c.if-number-start.false) in
    cut_counted ps k c.index.result.now c.split-rest.new.piece c.args.self.now.before c.len.result c.args.number (slice_get_read ps (length ps) k c.index.result.now refl within c.index.ensures) last c.requires.counted c.len.ensures far
    c.split-rest.ensures.here

pub returns-clause-same : goal.returns-clause-same
returns-clause-same c =
    let ps = c.args.self.now.front.items in
    let k = c.len-count.result - 1 in
    let last : k + 1 ≡ length ps = omega (arith, c.len-count.ensures, c.if-count-eq0.false) in
    let within : k < length ps = omega (arith, last) in
    cut_same ps k c.index_mut.result.now c.split-rest.new.piece c.split-rest.result c.args.self.now.back.items c.push.new.self.items (slice_get_read ps (length ps) k c.index_mut.result.now refl within c.index_mut.ensures.value) last
    c.split-rest.ensures.same c.in_ok-push.ensures.items
