use Rattle.std.proofs.Common.{◌≡◌, ◌≤◌, length, ap, ◌∙◌, refl, arith, rules}
use Rattle.std.proofs.lemmas.Grind.{common_steps}
use Rattle.std.proofs.lemmas.Bool.Decides.{nat_tests}
use Rattle.std.proofs.lemmas.Result.{IfOk-weaker}
use Rattle.rdl_diff.specs.ByPath.{pairs, row_under}
use Rattle.rdl_diff.specs.ByPlace.{all_standing}
use Rattle.rdl_diff.specs.Paths.{path}
use Rattle.rdl_diff.specs.Renames.{lone, renames, renames_of}
use Rattle.rdl_diff.proofs.Matches.{found_renames, none_renamed, some_renamed}
use Rattle.rdl_diff.proofs.matched.match_rows.Goals as goal

pub returns-then-not-is_empty : goal.returns-then-not-is_empty
returns-then-not-is_empty c =
    let old = c.args.old.now in
    let new = c.args.new.now in
    let in_old = row_under c.in_ok-old_by_path.old_by_path in
    let in_new = row_under c.in_ok-new_by_path.new_by_path in
    let xs = c.in_ok-renames.renames.items in
    let made = c.in_ok-renames.ensures ∙ ap (λ alone. renames_of (all_standing alone) (lone path in_old new)) c.as_slice.ensures.value in
    let is : pairs xs ≡ renames old new = found_renames old new (all_standing c.in_ok-gone.gone.items) (pairs xs) in_old in_new c.in_ok-old_by_path.ensures c.in_ok-new_by_path.ensures c.in_ok-gone.ensures made in
    let some : 1 ≤ length xs = first_of (search rules, grind (arith, nat_tests), grind (arith, common_steps)) in
    IfOk-weaker c.match_beside.result _ _ (λ m h. some_renamed old new m xs in_new is some c.in_ok-new_by_path.ensures h) c.match_beside.ensures

pub returns : goal.returns
returns c =
    let old = c.args.old.now in
    let new = c.args.new.now in
    let in_old = row_under c.in_ok-old_by_path.old_by_path in
    let in_new = row_under c.in_ok-new_by_path.new_by_path in
    let xs = c.in_ok-renames.renames.items in
    let made = c.in_ok-renames.ensures ∙ ap (λ alone. renames_of (all_standing alone) (lone path in_old new)) c.as_slice.ensures.value in
    let is : pairs xs ≡ renames old new = found_renames old new (all_standing c.in_ok-gone.gone.items) (pairs xs) in_old in_new c.in_ok-old_by_path.ensures c.in_ok-new_by_path.ensures c.in_ok-gone.ensures made in
    let none : length xs ≡ 0 = first_of (search rules, grind (arith, nat_tests), grind (arith, common_steps)) in
    none_renamed old new
    (record { renames = c.in_ok-renames.renames; gone = c.in_ok-gone.gone; old_by_path = c.in_ok-old_by_path.old_by_path }) xs in_new is none refl c.in_ok-new_by_path.ensures c.in_ok-gone.ensures c.in_ok-old_by_path.ensures
