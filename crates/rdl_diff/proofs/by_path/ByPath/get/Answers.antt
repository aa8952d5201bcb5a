use Rattle.std.proofs.Common.{Some, None}
use Rattle.rdl_diff.proofs.Lookups.{got}
use Rattle.rdl_diff.proofs.by_path.ByPath.get.Goals as goal

pub returns-in-Some : goal.returns-in-Some
returns-in-Some c = got c.args.self.now c.args.names.now (Some c.in-Some.row.now) c.in-Some.ensures.value

pub returns-in-None : goal.returns-in-None
returns-in-None c = got c.args.self.now c.args.names.now None c.in-None.ensures.value
