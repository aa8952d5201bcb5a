use Rattle.std.proofs.Common.{rules, ◌≡◌, ◌+◌, false, Some, None, sym, ap, ◌∙◌, if◌then◌else◌}
use Rattle.rdl_seen.specs.declared.mode.Mode.TheVariants.{Regalign}
use Rattle.sound_nodes.specs.declared.found.Found.TheVariants.{Untold}
use Rattle.sound_nodes.specs.Maps.{count_fault, size_fault}
use Rattle.sound_nodes.specs.Rows.{faulty_or, searched}
use Rattle.sound_nodes.proofs.tops.found_below.Goals as goal

pub returns-in-Some : goal.returns-in-Some
returns-in-Some c =
    let a = c.args.at.now in
    let s = c.args.seen.now in
    let rows = searched (s.levels + 1) c.args.description.now.items c.args.tree.now false Regalign a in
    let more = if s.has_empty then Untold else faulty_or a (size_fault s) rows in
    c.fault_there.ensures more ∙ ap (λ k. faulty_or a k more) (sym (sym c.count_fault.ensures ∙ c.in-Some.is))

pub returns-in-Some-size_fault : goal.returns-in-Some-size_fault
returns-in-Some-size_fault c =
    let a = c.args.at.now in
    let s = c.args.seen.now in
    let rows = searched (s.levels + 1) c.args.description.now.items c.args.tree.now false Regalign a in
    let none : count_fault s ≡ None = search rules in
    let filled : s.has_empty ≡ false = search rules in
    let size : size_fault s ≡ Some c.in-Some-size_fault.kind = sym c.size_fault.ensures ∙ c.in-Some-size_fault.is in
    c.fault_there-in-Some-size_fault.ensures rows
    ∙ ap (λ k. faulty_or a k rows) (sym size)
    ∙ ap (λ b. if b then Untold else faulty_or a (size_fault s) rows) (sym filled)
    ∙ ap (λ k. faulty_or a k (if s.has_empty then Untold else faulty_or a (size_fault s) rows)) (sym none)
