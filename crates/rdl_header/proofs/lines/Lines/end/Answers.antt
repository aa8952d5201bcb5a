use Rattle.rdl_header.proofs.AddedLines.{end_made}
use Rattle.rdl_header.proofs.lines.Lines.end.Goals as goal

pub returns : goal.returns
returns c = rw (← c.self.view_is) (end_made _ _ c.in_ok-push_str.ensures.bytes)
