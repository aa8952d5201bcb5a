use Rattle.std.proofs.Common.{◌≡◌, ◌-◌, drop}
use Rattle.rdl_elab.proofs.walk.types.Types.truncate.Given as goal

abbrev pub invariant-loop : goal.invariant-loop
invariant-loop l = l.self ≡ drop (l.counter - l.fn.len) l.fn.self
