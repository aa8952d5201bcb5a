use Rattle.std.proofs.Common.{◌∙◌}
use Rattle.rdl_weave.proofs.Canonical.{spelled_iff}
use Rattle.rdl_weave.proofs.spelled.is_canonical.Goals as goal

pub returns : goal.returns
returns c = λ text places read.
    spelled_iff c.args.canonical.now text _ c.args.map.now.items places c.has_bytes.result (read.spelled, read.within) (c.as_bytes.ensures.value ∙ c.in_ok-text.ensures) c.has_bytes.ensures read.only
