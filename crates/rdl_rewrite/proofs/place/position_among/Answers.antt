use Rattle.std.proofs.Common.{◌≤◌, ◌+◌, ◌-◌, length, drop, take_all, ap, sym, ◌∙◌, arith, option_map, length-drop}
use Rattle.std.specs.List.{position}
use Rattle.rdl_tree.specs.Find.{is_named}
use Rattle.rdl_rewrite.proofs.Places.{before_it, behind_it}
use Rattle.rdl_rewrite.proofs.place.position_among.Goals as goal

pub returns-in_err-position-in-None : goal.returns-in_err-position-in-None
returns-in_err-position-in-None c =
    let n = c.args.number in
    let xs = c.args.items.now in
    let to_end : length (drop (n + 1) xs) ≤ length xs - (n + 1) = omega (arith, length-drop (n + 1) xs) in
    let rest = ap (position (is_named c.args.segment.now)) (take_all (length xs - (n + 1)) (drop (n + 1) xs) to_end) in
    c.from_residual.ensures ∙ ap (option_map (λ k. n + k)) (sym c.in_err-position-in-None.was)
    ∙ behind_it (is_named c.args.segment.now) xs n c.position.result c.position-in-None.result c.requires c.position.ensures c.in-None.is (c.position-in-None.ensures ∙ rest)

pub returns-in-Some : goal.returns-in-Some
returns-in-Some c = before_it (is_named c.args.segment.now) c.args.items.now c.args.number c.position.result c.in-Some.before c.requires c.position.ensures c.in-Some.is

pub returns-in_ok-position-in-None : goal.returns-in_ok-position-in-None
returns-in_ok-position-in-None c =
    let n = c.args.number in
    let xs = c.args.items.now in
    let to_end : length (drop (n + 1) xs) ≤ length xs - (n + 1) = omega (arith, length-drop (n + 1) xs) in
    let rest = ap (position (is_named c.args.segment.now)) (take_all (length xs - (n + 1)) (drop (n + 1) xs) to_end) in
    ap (option_map (λ k. n + k)) (sym c.in_ok-position-in-None.was)
    ∙ behind_it (is_named c.args.segment.now) xs n c.position.result c.position-in-None.result c.requires c.position.ensures c.in-None.is (c.position-in-None.ensures ∙ rest)
