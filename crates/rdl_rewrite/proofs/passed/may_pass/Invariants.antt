use Rattle.std.proofs.Common.{◌≡◌, drop, option_copied}
use Rattle.rdl_rewrite.specs.Passed.{may_pass}
use Rattle.rdl_rewrite.proofs.passed.may_pass.Given as goal

abbrev pub invariant-names : goal.invariant-names
invariant-names l = may_pass (option_copied l.taken) (option_copied l.holder) l.is_inside (drop l.name-index l.names) ≡ may_pass (option_copied l.taken) (option_copied l.holder) l.initial.is_inside l.names
