use Rattle.rdl_header.proofs.AddedLines.{guard_made}
use Rattle.rdl_header.proofs.lines.Lines.guarded.Goals as goal

pub returns : goal.returns
returns c = guard_made c.args.are_noted c.args.path.now _ _ _ _ _ _ _ _ c.in_ok-text.ensures.bytes c.in_ok-push_str.ensures.bytes c.in_ok-push_name.ensures.text c.in_ok-push_str-2.ensures.bytes c.in_ok-push_str-3.ensures.bytes c.in_ok-push_str-4.ensures.bytes c.new-names.ensures.items c.in_ok-push_name.ensures.name
