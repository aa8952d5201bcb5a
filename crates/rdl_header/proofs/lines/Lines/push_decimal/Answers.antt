use Rattle.rdl_header.specs.HeaderText.{decimal_macro}
use Rattle.rdl_header.proofs.AddedLines.{line_added}
use Rattle.rdl_header.proofs.lines.Lines.push_decimal.Goals as goal

pub returns : goal.returns
returns c = rw (← c.self.view_is) (line_added _ (decimal_macro c.args.head.now c.args.ending.now c.args.number) _ _ _ c.in_ok-begin.ensures.text c.in_ok-push_decimal_end.ensures c.in_ok-begin.ensures.name)
