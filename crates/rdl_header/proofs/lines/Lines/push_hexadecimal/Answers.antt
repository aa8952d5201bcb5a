use Rattle.rdl_header.specs.HeaderText.{hexadecimal_macro}
use Rattle.rdl_header.proofs.AddedLines.{line_added}
use Rattle.rdl_header.proofs.lines.Lines.push_hexadecimal.Goals as goal

pub returns : goal.returns
returns c = rw (← c.self.view_is) (line_added _ (hexadecimal_macro c.args.head.now c.args.ending.now c.args.number) _ _ _ c.in_ok-begin.ensures.text c.in_ok-push_hexadecimal_end.ensures c.in_ok-begin.ensures.name)
