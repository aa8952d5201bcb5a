use Rattle.std.proofs.Common.{◌≡◌, ◌-◌, ◌<◌, suc, length, true, false, refl, sym, ap, subst, ◌∙◌, arith, rules}
use Rattle.std.specs.Prelude.{slice_get}
use Rattle.std.proofs.lemmas.Option.{slice_get_read}
use Rattle.rdl_tree.specs.View.{list_of}
use Rattle.rdl_places.specs.Lasting.{slot_of, last_in}
use Rattle.rdl_places.specs.LastNumbers.{is_sought}
use Rattle.rdl_places.proofs.LastOnes.{IsAlong, some_is, few_in, first_along, next_along, none_sought, last_is}
use Rattle.rdl_places.proofs.lasts.Lasts.last_sought.Goals.{else-number-count-via-then-number-count+else-is_sought, else-number-count-via-else-number-count}
use Rattle.rdl_places.proofs.lasts.Lasts.last_sought.Goals as goal

pub loop-next-init : goal.loop-next-init
loop-next-init c =
    let l = c.args.self.now in
    let name = c.args.name.now in
    let t = c.args.body.now in
    let w = length l.slots.items in
    let many : c.len.result ≡ w = search rules in
    let slot : c.slot_of.result ≡ slot_of w name = c.slot_of.ensures.slot ∙ ap (λ k. slot_of k name) many in
    let few = c.slot_of.ensures.few in
    let less : slot_of w name < w = omega (arith, slot, few, many) in
    let there = slice_get_read l.slots.items w c.slot_of.result c.index-next.result.now refl (omega (arith, few, many)) c.index-next.ensures in
    let same = sym there ∙ (ap (slice_get l.slots.items) slot ∙ c.requires.are.slots-last (slot_of w name) less) in
    first_along c.args.sought name t w (length l.links.items) c.args.count c.index-next.result.now c.requires.known
    (some_is c.index-next.result.now (last_in w (slot_of w name) (length l.links.items) t) same)

pub returns-then-is_sought : goal.returns-then-is_sought
returns-then-is_sought c =
    let n = c.loop-next.next in
    let more = c.loop-next-test.true in
    let next : n ≡ suc (n - 1) = omega (arith, more) in
    let is : is_sought c.args.sought c.args.name.now (slice_get (list_of c.args.body.now) (n - 1)) ≡ true = search rules in
    sym (last_is c.args.sought c.args.name.now c.args.body.now c.args.count (n - 1) c.if-number-count.true is (λ i from less. c.loop-next.invariant.none i (omega (arith, next, from)) less))

pub loop-next-smaller : goal.loop-next-smaller
loop-next-smaller c =
    let l = c.args.self.now in
    let more = c.loop-next-test.true in
    let n = c.loop-next.next in
    let next : n ≡ suc (n - 1) = omega (arith, more) in
    let few = c.loop-next.invariant.few in
    let there = slice_get_read l.links.items (length l.links.items) (n - 1) c.index.result.now refl (omega (arith, few, next)) c.index.ensures in
    let w = length l.slots.items in
    let slot = slot_of w c.args.name.now in
    let is = c.requires.are.next (n - 1) c.index.result.now slot there (c.loop-next.invariant.has (n - 1) next) in
    let at = few_in w slot (n - 1) c.args.body.now in
    omega (arith, is, at, next)

pub loop-next-preserved : goal.loop-next-preserved
loop-next-preserved c =
    let l = c.args.self.now in
    let s = c.args.sought in
    let name = c.args.name.now in
    let t = c.args.body.now in
    let more = c.loop-next-test.true in
    let n = c.loop-next.next in
    let next : n ≡ suc (n - 1) = omega (arith, more) in
    let few = c.loop-next.invariant.few in
    let there = slice_get_read l.links.items (length l.links.items) (n - 1) c.index.result.now refl (omega (arith, few, next)) c.index.ensures in
    let w = length l.slots.items in
    let is = c.requires.are.next (n - 1) c.index.result.now (slot_of w name) there (c.loop-next.invariant.has (n - 1) next) in
    let other : n - 1 < c.args.count → is_sought s name (slice_get (list_of t) (n - 1)) ≡ false =
    elim c.else-number-count.branch [
      | else-number-count-via-then-number-count+else-is_sought v ↦ λ less. search rules
      | else-number-count-via-else-number-count v ↦ λ less. absurd (let past = v.if-number-count.false in omega (arith, less, past))
    ] in
    next_along s name t w (length l.links.items) c.args.count (n - 1) c.index.result.now.next
    (subst (λ k. IsAlong s name t w (length l.links.items) c.args.count k) next c.loop-next.invariant) other is

pub returns : goal.returns
returns c =
    let past = c.loop-next-test.false in
    sym (none_sought c.args.sought c.args.name.now c.args.body.now c.args.count (λ i from less. c.loop-next.invariant.none i (omega (arith, past)) less))
