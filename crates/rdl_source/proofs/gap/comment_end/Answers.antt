-- Each turn goes to the next slash, and behind it where no star stands before it.
use Rattle.std.proofs.Common.{◌≡◌, ◌+◌, ◌-◌, ◌<◌, false, nat_eq, get_or, refl, arith}
use Rattle.std.proofs.lemmas.Bool.{ne_eqb}
use Rattle.rdl_text.proofs.Cutting.{tail}
use Rattle.rdl_source.proofs.Slashes.{unended, ended, passed}
use Rattle.rdl_source.proofs.gap.comment_end.Goals as goal
use Rattle.rdl_source.proofs.gap.comment_end.Goals.{else-len-gt0-via-then-len-gt0+else-bytes-slash-eq42, else-len-gt0-via-else-len-gt0}

pub returns-in_default-clause-place : goal.returns-in_default-clause-place
returns-in_default-clause-place c =
    let s = c.args.bytes.now in
    unended s _ c.slashes.at (tail s s c.slashes.at refl) c.in_default.ensures c.slashes.invariant

pub returns-then-bytes-slash-eq42-clause-place : goal.returns-then-bytes-slash-eq42-clause-place
returns-then-bytes-slash-eq42-clause-place c =
    let s = c.args.bytes.now in
    ended s _ c.slashes.at c.in-Some.len (tail s s c.slashes.at refl) c.in-Some.ensures.0 c.in-Some.ensures.1 c.if-len-gt0.true c.if-bytes-slash-eq42.true c.slashes.invariant

pub slashes-preserved : goal.slashes-preserved
slashes-preserved c =
    let s = c.args.bytes.now in
    let star : 0 < c.in-Some.len → nat_eq (get_or s (c.slashes.at + c.in-Some.len - 1) 0) 42 ≡ false =
    elim c.else-len-gt0.branch [
      | else-len-gt0-via-then-len-gt0+else-bytes-slash-eq42 w ↦ λ _. ne_eqb _ _ w.if-bytes-slash-eq42.false
      | else-len-gt0-via-else-len-gt0 w ↦ λ some. absurd (omega (arith, some, w.if-len-gt0.false))
    ] in
    passed s _ c.slashes.at c.in-Some.len (tail s s c.slashes.at refl) c.in-Some.ensures.0 c.in-Some.ensures.1 star c.slashes.invariant
