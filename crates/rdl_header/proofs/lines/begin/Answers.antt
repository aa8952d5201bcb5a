use Rattle.std.proofs.Common.{◌+◌, ap, length, string_bytes, arith}
use Rattle.rdl_header.proofs.AddedLines.{line_begun, name_noted}
use Rattle.rdl_header.proofs.lines.begin.Goals as goal

pub overflow_add-start : goal.overflow_add-start
overflow_add-start c =
    omega (arith, c.len-line.ensures, ap length c.as_str.ensures, c.in_ok-push_str.ensures.len, c.in_ok-push_str-2.ensures.len, c.len-behind.ensures, c.len-behind.type_inv)

pub returns-clause-text : goal.returns-clause-text
returns-clause-text c =
    line_begun (string_bytes c.args.text.now) (string_bytes c.push_str.new.self) (string_bytes c.push_str-2.new.self) c.as_str.result.now c.args.head.now c.args.ending.now c.as_str.ensures c.in_ok-push_str.ensures.bytes c.in_ok-push_str-2.ensures.bytes

pub returns-clause-name : goal.returns-clause-name
returns-clause-name c =
    name_noted c.args.are_noted (string_bytes c.args.text.now) c.args.head.now c.args.ending.now (c.len-line.result + 8) c.len-behind.result _ _
    (omega (arith, c.len-line.ensures))
    (omega (arith, c.len-behind.ensures, ap length c.as_str.ensures, c.in_ok-push_str.ensures.len, c.in_ok-push_str-2.ensures.len)) c.in_ok-note.ensures
