use Rattle.std.specs.Option.{option_copied}
use Rattle.rdl_run.proofs.Opened.{refused_named, resumed-kept}
use Rattle.rdl_run.proofs.open.open_session.Goals as goal

pub returns-in-Ok-clause-kept : goal.returns-in-Ok-clause-kept
returns-in-Ok-clause-kept c =
    resumed-kept (option_copied c.args.name) c.args.limit c.args.bytes.now c.in-Ok.field-0 c.resume.result c.requires c.in-Ok.ensures.resumed c.resume.ensures.history c.resume.ensures.undo c.resume.ensures.redo

pub returns-in-Err-clause-refused : goal.returns-in-Err-clause-refused
returns-in-Err-clause-refused c = refused_named (option_copied c.args.name) c.args.bytes.now c.in-Err.fault c.requires c.in-Err.ensures.refused
