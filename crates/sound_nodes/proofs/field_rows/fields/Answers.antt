use Rattle.std.proofs.lemmas.Option.{slice_get_read}
use Rattle.std.proofs.Common.{rules, refl, ◌+◌, ◌++◌, ◌∷◌, [], ◌≡◌, take, drop, length, sym, ap, ◌∙◌, Some, None, slice_get, true, false, if◌then◌else◌}
use Rattle.rdl_seen.specs.Inside.{has_room}
use Rattle.sound_nodes.specs.Rows.{faulty_or, field_fault, wide_reset, reset_or, fields}
use Rattle.sound_nodes.proofs.Steps.{fields-short, fields-no-part, fields-step, take-length}
use Rattle.sound_nodes.proofs.field_rows.fields.Goals as goal

pub returns-in_default : goal.returns-in_default
returns-in_default c =
    let ss = c.args.spans.now in
    let xs = c.args.instances.now in
    let i = c.loop-i.i in
    let s = c.index-spans-i.result in
    let span : slice_get ss i ≡ Some s = slice_get_read ss (length ss) i s refl c.loop-i-test.true c.index-spans-i.is in
    let none : slice_get xs i ≡ None = search rules in
    sym (c.loop-i.invariant ∙ fields-short c.args.assigned c.args.at.now c.args.bits ss xs c.args.parts.now i s span none)

pub returns-in_default-part_at : goal.returns-in_default-part_at
returns-in_default-part_at c =
    let ss = c.args.spans.now in
    let xs = c.args.instances.now in
    let ps = c.args.parts.now in
    let i = c.loop-i.i in
    let s = c.index-spans-i.result in
    let x = c.in-Some.instance.now in
    let span : slice_get ss i ≡ Some s = slice_get_read ss (length ss) i s refl c.loop-i-test.true c.index-spans-i.is in
    let there : slice_get xs i ≡ Some x = search rules in
    let none : slice_get ps i ≡ None = search rules in
    sym (c.loop-i.invariant ∙ fields-no-part c.args.assigned c.args.at.now c.args.bits ss xs ps i s x span there none)

pub slice_bounds-field_fault-end-in-loop-i : goal.slice_bounds-field_fault-end-in-loop-i
slice_bounds-field_fault-end-in-loop-i c =
    let part : slice_get c.args.parts.now c.loop-i.i ≡ Some c.in-Some-part_at.part.now = search rules in
    take-length c.args.parts.now c.loop-i.i c.in-Some-part_at.part.now part

pub returns-in-Some-field_fault : goal.returns-in-Some-field_fault
returns-in-Some-field_fault c =
    let ss = c.args.spans.now in
    let xs = c.args.instances.now in
    let ps = c.args.parts.now in
    let i = c.loop-i.i in
    let s = c.index-spans-i.result in
    let x = c.in-Some.instance.now in
    let p = c.in-Some-part_at.part.now in
    let span : slice_get ss i ≡ Some s = slice_get_read ss (length ss) i s refl c.loop-i-test.true c.index-spans-i.is in
    let there : slice_get xs i ≡ Some x = search rules in
    let part : slice_get ps i ≡ Some p = search rules in
    let fault : field_fault c.args.bits (take i ss) (take i ps) s p ≡ Some c.in-Some-field_fault.kind = sym c.field_fault.ensures ∙ c.in-Some-field_fault.is in
    let more = fields c.args.assigned c.args.at.now c.args.bits (take (i + 1) ss) (take (i + 1) ps) (drop (i + 1) ss) (drop (i + 1) xs) (drop (i + 1) ps) in
    let next = reset_or c.args.assigned (c.args.at.now ++ x.number ∷ []) s p more in
    c.faulty.ensures next
    ∙ (λ k. faulty_or (c.args.at.now ++ c.number.ensures k ∷ []) (sym fault k) next)
    ∙ sym (c.loop-i.invariant ∙ fields-step c.args.assigned c.args.at.now c.args.bits ss xs ps i s x p span there part)

pub returns-then-not-has_room : goal.returns-then-not-has_room
returns-then-not-has_room c =
    let ss = c.args.spans.now in
    let xs = c.args.instances.now in
    let ps = c.args.parts.now in
    let i = c.loop-i.i in
    let s = c.index-spans-i.result in
    let x = c.in-Some.instance.now in
    let p = c.in-Some-part_at.part.now in
    let a = c.args.at.now ++ x.number ∷ [] in
    let span : slice_get ss i ≡ Some s = slice_get_read ss (length ss) i s refl c.loop-i-test.true c.index-spans-i.is in
    let there : slice_get xs i ≡ Some x = search rules in
    let part : slice_get ps i ≡ Some p = search rules in
    let fault : field_fault c.args.bits (take i ss) (take i ps) s p ≡ None = search rules in
    let room : has_room p.reset s ≡ false = search rules in
    let more = fields c.args.assigned c.args.at.now c.args.bits (take (i + 1) ss) (take (i + 1) ps) (drop (i + 1) ss) (drop (i + 1) xs) (drop (i + 1) ps) in
    c.wide_reset.ensures ∙ ap (λ k. wide_reset c.args.assigned (c.args.at.now ++ k ∷ [])) c.number-then-not-has_room.ensures
    ∙ sym
    (c.loop-i.invariant ∙ fields-step c.args.assigned c.args.at.now c.args.bits ss xs ps i s x p span there part
    ∙ ap (λ k. faulty_or a k (reset_or c.args.assigned a s p more)) fault ∙ ap (λ b. if b then more else wide_reset c.args.assigned a) room)

pub loop-i-preserved : goal.loop-i-preserved
loop-i-preserved c =
    let ss = c.args.spans.now in
    let xs = c.args.instances.now in
    let ps = c.args.parts.now in
    let i = c.loop-i.i in
    let s = c.index-spans-i.result in
    let x = c.in-Some.instance.now in
    let p = c.in-Some-part_at.part.now in
    let span : slice_get ss i ≡ Some s = slice_get_read ss (length ss) i s refl c.loop-i-test.true c.index-spans-i.is in
    let there : slice_get xs i ≡ Some x = search rules in
    let part : slice_get ps i ≡ Some p = search rules in
    let fault : field_fault c.args.bits (take i ss) (take i ps) s p ≡ None = search rules in
    let room : has_room p.reset s ≡ true = search rules in
    let more = fields c.args.assigned c.args.at.now c.args.bits (take (i + 1) ss) (take (i + 1) ps) (drop (i + 1) ss) (drop (i + 1) xs) (drop (i + 1) ps) in
    c.loop-i.invariant ∙ fields-step c.args.assigned c.args.at.now c.args.bits ss xs ps i s x p span there part
    ∙ ap (λ k. faulty_or (c.args.at.now ++ x.number ∷ []) k (reset_or c.args.assigned (c.args.at.now ++ x.number ∷ []) s p more)) fault
    ∙ ap (λ b. if b then more else wide_reset c.args.assigned (c.args.at.now ++ x.number ∷ [])) room
