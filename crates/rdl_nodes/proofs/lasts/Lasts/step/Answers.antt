use Rattle.std.proofs.Common.{◌≡◌, length, refl, sym, ap, ◌∙◌, arith, rules}
use Rattle.std.specs.Prelude.{slice_get}
use Rattle.std.proofs.lemmas.Option.{slice_get_read}
use Rattle.rdl_nodes.specs.Lasting.{slot_of}
use Rattle.rdl_nodes.proofs.LastOnes.{step_made}
use Rattle.rdl_nodes.proofs.lasts.Lasts.step.Goals as goal

pub returns-clause-are : goal.returns-clause-are
returns-clause-are c =
    let l = c.args.self.now in
    let xs = c.args.instances.now in
    let x = c.in-Some.instance.now in
    let w = length l.slots.items in
    let many : c.len.result ≡ length l.links.items = search rules in
    let slots : c.len-2.result ≡ w = search rules in
    let there = slice_get_read xs (length xs) c.len.result x refl c.in-Some.ensures.lookup.3.0 c.in-Some.ensures.lookup.1 in
    let few = c.slot_of-slot.ensures.few in
    let slot : c.slot_of-slot.result ≡ slot_of w x.name.now = c.slot_of-slot.ensures.slot ∙ ap (λ k. slot_of k x.name.now) slots in
    let read = slice_get_read l.slots.items w c.slot_of-slot.result c.index-next.result.now refl (omega (arith, slots, few)) c.index-next.ensures in
    let last : c.len-3.result ≡ length c.push.new.self.items = search rules in
    step_made xs l c.push.new.self.items c.slot_of-slot.result c.len-3.result c.index-next.result.now x c.requires.are slot (omega (arith, slots, few))
    (ap (slice_get xs) (sym many) ∙ there) read c.in_ok-push.ensures.items last
