use Rattle.std.proofs.Common.{ap, ◌∙◌, arith, rules}
use Rattle.std.proofs.lemmas.List.{take_all}
use Rattle.rdl_diff.specs.ByPlace.{all_standing}
use Rattle.rdl_diff.specs.Renames.{lone_at}
use Rattle.rdl_diff.proofs.Places.{places-more}
use Rattle.rdl_diff.proofs.by_place.ByPlace.of.Goals as goal

pub rows-preserved : goal.rows-preserved
rows-preserved c = λ t.
    places-more t c.rows.by_place.entries c.insert.new.self.entries c.in_ok-place.place _ c.args.rows.now c.rows.lone-index (omega (arith, c.rows-test.true)) c.in_ok-insert.ensures.entries (search rules) c.in_ok-place.ensures (c.rows.invariant t)

pub returns : goal.returns
returns c = λ t. c.rows.invariant t ∙ ap (λ xs. lone_at t (all_standing xs)) (take_all c.rows.lone-index c.args.rows.now (omega (arith, c.rows-test.false)))
