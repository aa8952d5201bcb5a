use Rattle.rdl_run.proofs.ScriptLines.{cut-more, cut-last}
use Rattle.rdl_run.proofs.serve.split_line.Goals as goal

pub returns-then-end-bytes-clause-lines : goal.returns-then-end-bytes-clause-lines
returns-then-end-bytes-clause-lines c = cut-more c.args.bytes.now c.line_len-end.result c.line_len-end.ensures.count c.if-end-bytes.true

pub returns-else-end-bytes-clause-lines : goal.returns-else-end-bytes-clause-lines
returns-else-end-bytes-clause-lines c = cut-last c.args.bytes.now c.line_len-end.result c.line_len-end.ensures.count c.if-end-bytes.false
