use Rattle.std.proofs.Common.{◌∙◌}
use Rattle.journal_core.proofs.Examples.{copies_fit, copies_resumed}
use Rattle.journal_core.proofs.example.between.Goals as goal

pub resume-requires-clause-undo_fits : goal.resume-requires-clause-undo_fits
resume-requires-clause-undo_fits c = copies_fit c.args.now.items.items c.args.behind.items

pub resume-requires-clause-redo_fits : goal.resume-requires-clause-redo_fits
resume-requires-clause-redo_fits c = copies_fit c.args.now.items.items c.args.ahead.items

pub returns-clause-history : goal.returns-clause-history
returns-clause-history c = c.resume.ensures.history ∙ copies_resumed c.args.limit c.args.now.items.items c.args.behind.items c.args.ahead.items
