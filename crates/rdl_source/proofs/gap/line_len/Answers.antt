-- A search for the line feed gives the definition's length.
use Rattle.std.proofs.Common.{sym, ◌∙◌}
use Rattle.rdl_text.proofs.Lines.{line-whole, line-up_to}
use Rattle.rdl_source.proofs.NoWord.{line_same}
use Rattle.rdl_source.proofs.gap.line_len.Goals as goal

pub returns-in-Some-clause-len : goal.returns-in-Some-clause-len
returns-in-Some-clause-len c =
    let s = c.args.bytes.now in
    sym (line_same s ∙ line-up_to s c.in-Some.len c.in-Some.ensures.0 c.in-Some.ensures.1)

pub returns-in-None-clause-len : goal.returns-in-None-clause-len
returns-in-None-clause-len c =
    let s = c.args.bytes.now in
    sym (line_same s ∙ line-whole s c.in-None.ensures)
