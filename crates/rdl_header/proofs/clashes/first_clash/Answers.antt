use Rattle.std.proofs.Common.{◌∙◌, sym, [], take}
use Rattle.rdl_header.specs.Lines.{named}
use Rattle.rdl_header.proofs.FirstClash.{named_inside, named_there, stood_before, holds_more, up_to, clash_here, clash_later}
use Rattle.rdl_header.proofs.clashes.first_clash.Goals as goal

pub returns-then-is_some : goal.returns-then-is_some
returns-then-is_some c =
    let ms = named c.args.text.now c.args.names.now in
    let i = c.names.stretch-index in
    let name = c.part-name.result in
    let inside = named_inside c.args.text.now name.now c.args.names.now i (record { start = 0; end = 0 }) c.names-test.true in
    let there = named_there c.args.text.now name.now c.args.names.now i (record { start = 0; end = 0 }) c.names-test.true c.part-name.ensures in
    let stood = stood_before c.names.known (take i ms) name c.in_ok-before.before c.names.invariant.known c.in_ok-before.ensures.old in
    clash_here ms i (record { name = name.now; value = [] }) inside there c.names.invariant.rest (stood ∙ sym c.is_some.ensures ∙ c.if-is_some.true)

pub names-preserved : goal.names-preserved
names-preserved c =
    let ms = named c.args.text.now c.args.names.now in
    let i = c.names.stretch-index in
    let name = c.part-name.result in
    let inside = named_inside c.args.text.now name.now c.args.names.now i (record { start = 0; end = 0 }) c.names-test.true in
    let there = named_there c.args.text.now name.now c.args.names.now i (record { start = 0; end = 0 }) c.names-test.true c.part-name.ensures in
    let stood = stood_before c.names.known (take i ms) name c.in_ok-before.before c.names.invariant.known c.in_ok-before.ensures.old in
    let new = sym c.is_some.ensures ∙ c.if-is_some.false in
    record {
      known =
          holds_more c.names.known (take i ms) name c.in_ok-before.before c.names.invariant.known c.in_ok-before.ensures.old new c.insert.new.self.entries c.in_ok-before.ensures.entries
          ∙ up_to ms i (record { name = name.now; value = [] }) inside there;
      rest = clash_later ms i (record { name = name.now; value = [] }) inside there c.names.invariant.rest (stood ∙ new);
    }
