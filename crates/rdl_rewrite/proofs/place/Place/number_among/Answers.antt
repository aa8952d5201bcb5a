use Rattle.std.proofs.Common.{◌≡◌, ◌+◌, ◌-◌, length, Some, ap, sym, ◌∙◌, arith, option_map}
use Rattle.std.specs.List.{position, remove}
use Rattle.std.proofs.lemmas.List.Edits.{length-remove}
use Rattle.rdl_tree.specs.Find.{is_named}
use Rattle.rdl_tree.specs.Edit.{remove_item}
use Rattle.rdl_tree.specs.View.{list_of}
use Rattle.rdl_tree.proofs.Rounds.{list_of-items_of}
use Rattle.rdl_rewrite.specs.Place.{place_number}
use Rattle.rdl_rewrite.proofs.place.Place.number_among.Goals as goal

pub returns-in_err-position_among-in-After : goal.returns-in_err-position_among-in-After
returns-in_err-position_among-in-After c =
    let xs = list_of c.args.body.now in
    let among = ap (λ ys. position (is_named c.in-After.sibling) (remove ys c.args.number)) c.as_slice-items.ensures in
    let others = ap (position (is_named c.in-After.sibling)) (sym (list_of-items_of (remove xs c.args.number))) in
    c.from_residual.ensures ∙ ap (option_map (λ i. i + 1)) (sym c.in_err-position_among-in-After.was ∙ c.position_among-in-After.ensures ∙ among ∙ others)
    ∙ ap (λ p. place_number p (list_of (remove_item c.args.number c.args.body.now))) (sym c.in-After.is)

pub returns-in-Last : goal.returns-in-Last
returns-in-Last c =
    let xs = list_of c.args.body.now in
    let e : length c.as_slice-items.result.now - 1 ≡ length (remove xs c.args.number) = omega (arith, ap length c.as_slice-items.ensures, length-remove xs c.args.number c.requires) in
    ap Some (e ∙ ap length (sym (list_of-items_of (remove xs c.args.number))))
    ∙ ap (λ p. place_number p (list_of (remove_item c.args.number c.args.body.now))) (sym c.in-Last.is)

pub returns-in-Before : goal.returns-in-Before
returns-in-Before c =
    let xs = list_of c.args.body.now in
    let among = ap (λ ys. position (is_named c.in-Before.sibling) (remove ys c.args.number)) c.as_slice-items.ensures in
    let others = ap (position (is_named c.in-Before.sibling)) (sym (list_of-items_of (remove xs c.args.number))) in
    c.position_among.ensures ∙ among ∙ others
    ∙ ap (λ p. place_number p (list_of (remove_item c.args.number c.args.body.now))) (sym c.in-Before.is)

pub returns-in_ok-position_among-in-After : goal.returns-in_ok-position_among-in-After
returns-in_ok-position_among-in-After c =
    let xs = list_of c.args.body.now in
    let among = ap (λ ys. position (is_named c.in-After.sibling) (remove ys c.args.number)) c.as_slice-items.ensures in
    let others = ap (position (is_named c.in-After.sibling)) (sym (list_of-items_of (remove xs c.args.number))) in
    ap (option_map (λ i. i + 1)) (sym c.in_ok-position_among-in-After.was ∙ c.position_among-in-After.ensures ∙ among ∙ others)
    ∙ ap (λ p. place_number p (list_of (remove_item c.args.number c.args.body.now))) (sym c.in-After.is)
