use Rattle.std.proofs.Common.{ap, ◌∙◌, arith, flat_map}
use Rattle.std.proofs.lemmas.List.{take_all}
use Rattle.rdl_diff.specs.ByPlace.{all_standing, lone_under}
use Rattle.rdl_diff.specs.Renames.{place, renamed_if}
use Rattle.rdl_diff.proofs.rename.renames_of.Goals as goal

pub returns : goal.returns
returns c =
    let gone = c.args.gone.now in
    let of_gone = c.in_ok-gone_places.ensures in
    let of_come = c.in_ok-come_places.ensures in
    c.rows.invariant
    ∙ ap (λ xs. flat_map (λ x. renamed_if x (lone_under c.in_ok-gone_places.gone_places (place x.0)) (lone_under c.in_ok-come_places.come_places (place x.0))) (all_standing xs)) (take_all c.rows.old-index gone (omega (arith, c.rows-test.false)))
    ∙ (λ i. flat_map (λ x. renamed_if x (of_gone (place x.0) i) (of_come (place x.0) i)) (all_standing gone))
