use Rattle.std.proofs.Common.{◌≡◌, ◌-◌, ◌<◌, suc, length, true, false, refl, sym, ap, subst, ◌∙◌, arith, rules}
use Rattle.std.specs.Prelude.{bytes_eq, slice_get}
use Rattle.std.proofs.lemmas.Option.{slice_get_read}
use Rattle.rdl_nodes.specs.Lasting.{slot_of, last_in, first_of}
use Rattle.rdl_nodes.proofs.Instances.{found_here}
use Rattle.rdl_nodes.proofs.LastOnes.{IsAlong, some_is, last_few, first_along, next_along, link_read}
use Rattle.rdl_nodes.proofs.lasts.Lasts.find.Goals as goal

pub loop-next-init : goal.loop-next-init
loop-next-init c =
    let l = c.args.self.now in
    let q = c.args.name.now in
    let xs = c.args.instances.now in
    let w = length l.slots.items in
    let many : c.len.result ≡ w = search rules in
    let slot : c.slot_of.result ≡ slot_of w q = c.slot_of.ensures.slot ∙ ap (λ k. slot_of k q) many in
    let few = c.slot_of.ensures.few in
    let less : slot_of w q < w = omega (arith, slot, few, many) in
    let there = slice_get_read l.slots.items w c.slot_of.result c.index-next.result.now refl (omega (arith, few, many)) c.index-next.ensures in
    let same = sym there ∙ (ap (slice_get l.slots.items) slot ∙ c.requires.last (slot_of w q) less) in
    first_along q xs w (length l.links.items) c.index-next.result.now c.requires.few
    (some_is c.index-next.result.now (last_in w (slot_of w q) (first_of (length l.links.items) xs)) same)

pub returns-then-is_same : goal.returns-then-is_same
returns-then-is_same c =
    let xs = c.args.instances.now in
    let q = c.args.name.now in
    let n = c.loop-next.next in
    let x = c.index-instances-number.result in
    let more = c.loop-next-test.true in
    let next : n ≡ suc (n - 1) = omega (arith, more) in
    let few = c.loop-next.invariant.few in
    let all = c.requires.few in
    let within : n - 1 < length xs = omega (arith, next, few, all) in
    let same : bytes_eq x.name.now q ≡ true = (λ i. bytes_eq (sym c.as_str.ensures i) (sym c.as_str-in-loop-next.ensures i)) ∙ sym c.is_same.ensures ∙ c.if-is_same.true in
    sym (c.loop-next.invariant.found ∙ found_here q xs (n - 1) n x next within c.index-instances-number.is same)

pub loop-next-smaller : goal.loop-next-smaller
loop-next-smaller c =
    let l = c.args.self.now in
    let xs = c.args.instances.now in
    let n = c.loop-next.next in
    let x = c.index-instances-number.result in
    let more = c.loop-next-test.true in
    let next : n ≡ suc (n - 1) = omega (arith, more) in
    let few = c.loop-next.invariant.few in
    let all = c.requires.few in
    let w = length l.slots.items in
    let there = slice_get_read l.links.items (length l.links.items) (n - 1) c.index-next-in-loop-next.result.now refl (omega (arith, few, next)) c.index-next-in-loop-next.ensures in
    let is = link_read xs w l.slots.items l.links.items (n - 1) c.index-next-in-loop-next.result.now x c.requires (omega (arith, few, next)) c.index-instances-number.is there in
    let at = last_few w (slot_of w x.name.now) xs (n - 1) (omega (arith, few, all, next)) in
    omega (arith, is, at, next)

pub loop-next-preserved : goal.loop-next-preserved
loop-next-preserved c =
    let l = c.args.self.now in
    let q = c.args.name.now in
    let xs = c.args.instances.now in
    let n = c.loop-next.next in
    let x = c.index-instances-number.result in
    let more = c.loop-next-test.true in
    let next : n ≡ suc (n - 1) = omega (arith, more) in
    let few = c.loop-next.invariant.few in
    let w = length l.slots.items in
    let there = slice_get_read l.links.items (length l.links.items) (n - 1) c.index-next-in-loop-next.result.now refl (omega (arith, few, next)) c.index-next-in-loop-next.ensures in
    let is = link_read xs w l.slots.items l.links.items (n - 1) c.index-next-in-loop-next.result.now x c.requires (omega (arith, few, next)) c.index-instances-number.is there in
    let other : bytes_eq x.name.now q ≡ false = (λ i. bytes_eq (sym c.as_str.ensures i) (sym c.as_str-in-loop-next.ensures i)) ∙ sym c.is_same.ensures ∙ c.if-is_same.false in
    next_along q xs w (length l.links.items) (n - 1) c.index-next-in-loop-next.result.now x c.requires.few
    (subst (λ k. IsAlong q xs w (length l.links.items) k) next c.loop-next.invariant) c.index-instances-number.is other is
