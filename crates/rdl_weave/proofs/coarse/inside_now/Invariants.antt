use Rattle.std.proofs.Common.{◌≡◌, drop}
use Rattle.rdl_weave.specs.Coarse.{inside_now}
use Rattle.rdl_weave.proofs.coarse.inside_now.Given as goal

abbrev pub invariant-items : goal.invariant-items
invariant-items l = inside_now l.number l.own ≡ inside_now l.number (drop l.origin-index l.own)
