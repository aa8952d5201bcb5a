-- The lines of rows that are matched.
use Rattle.std.proofs.Common.{◌≡◌, ◌≤◌, length, arith, ℕ, List, [], ◌∷◌, ◌++◌, map, flat_map, Option, Some, None, refl, sym, ap, ◌∙◌}
use Rattle.std.specs.List.{filter}
use Rattle.std.proofs.lemmas.List.Elements.{filter-append}
use Rattle.rdl_elab.specs.declared.row.Row.{Row}
use Rattle.rdl_diff.specs.ByPath.{pair, pairs, path_in, row_under}
use Rattle.rdl_diff.specs.ByPlace.{all_standing, standing}
use Rattle.rdl_diff.specs.DiffText.{Line, renamed, gone, gone_line, new_line, is_kept, lines}
use Rattle.rdl_diff.specs.Matched.{IsMatched, MatchesBeside}
use Rattle.rdl_diff.specs.Paths.{path, last_by, row_at}
use Rattle.rdl_diff.specs.Renames.{lone, lone_if, new_path, renamed_to, renames, renames_of, row_from, walked}
use Rattle.rdl_diff.specs.declared.by_path.ByPath.{ByPath}
use Rattle.rdl_diff.specs.declared.by_path.Lone.{Lone}
use Rattle.rdl_diff.specs.declared.by_path.Paths.TheVariants.{New}
use Rattle.rdl_diff.specs.declared.choice.Choice.{Choice}
use Rattle.rdl_diff.specs.declared.choice.Severity.{Severity}
use Rattle.rdl_diff.specs.declared.choice.Severity.TheVariants.{Any, Breaking}
use Rattle.rdl_diff.specs.declared.matched.Matched.{Matched}
use Rattle.rdl_diff.specs.declared.rename.Rename.{Rename}

-- ---- What was renamed.

-- by what is found under paths
pub found_renames : (old new : List Row) (alone : List (Row × List Row)) (xs : List (Row × Row)) (in_old in_new : List (List ℕ) → Option Row) → ((p : List (List ℕ)) → in_old p ≡ row_at p old) → ((p : List (List ℕ)) → in_new p ≡ row_at p new)
    → alone ≡ lone path in_new old → xs ≡ renames_of alone (lone path in_old new) → xs ≡ renames old new
found_renames old new alone xs in_old in_new of_old of_new is made =
    made
    ∙ (λ i. renames_of ((is ∙ (λ j. lone path (λ p. of_new p j) old)) i) (lone path (λ p. of_old p i) new))

-- ---- Matched rows.

-- beside some that were renamed
pub matches_beside : (xs : List Rename) (old : List Row) (found : List (List ℕ) → Option Row) (renamed_rows : ByPath) (m : Matched) → ((p : List (List ℕ)) → row_under renamed_rows p ≡ renamed_to (pairs xs) p) → m.renames.items ≡ xs
    → all_standing m.gone.items ≡ lone (path_in (New renamed_rows)) found old → ((p : List (List ℕ)) → row_under m.old_by_path p ≡ last_by (path_in (New renamed_rows)) (λ r. r) p old) → MatchesBeside xs old found m
matches_beside xs old found renamed_rows m h is lone_rows under = record {
  held = is;
  gone = lone_rows ∙ (λ i. lone (λ r. walked (λ p. h p i) [] (path r)) found old);
  under = λ p. under p ∙ (λ i. last_by (λ r. walked (λ q. h q i) [] (path r)) (λ r. r) p old);
}

-- where none was
pub none_renamed : (old new : List Row) (m : Matched) (xs : List Rename) (in_new : List (List ℕ) → Option Row) → pairs xs ≡ renames old new → length xs ≡ 0 → m.renames.items ≡ xs → ((p : List (List ℕ)) → in_new p ≡ row_at p new)
    → all_standing m.gone.items ≡ lone path in_new old → ((p : List (List ℕ)) → row_under m.old_by_path p ≡ row_at p old) → IsMatched old new m
none_renamed old new m (x ∷ xs) in_new is none held_rows of_new lone_rows under = absurd (omega arith)
none_renamed old new m [] in_new is none held_rows of_new lone_rows under =
    let empty : [] ≡ renames old new = is in
    record {
      held = ap pairs held_rows ∙ is;
      gone = lone_rows ∙ (λ i. lone (new_path (empty i)) (λ p. of_new p i) old);
      under = λ p. under p ∙ ap (λ (ys : List (Row × Row)). row_from ys p old) empty;
    }

-- where some were
pub some_renamed : (old new : List Row) (m : Matched) (xs : List Rename) (in_new : List (List ℕ) → Option Row) → pairs xs ≡ renames old new → 1 ≤ length xs → ((p : List (List ℕ)) → in_new p ≡ row_at p new) → MatchesBeside xs old in_new m → IsMatched old new m
some_renamed old new m [] in_new is some of_new h = absurd (omega arith)
some_renamed old new m (x ∷ xs) in_new is some of_new h = record {
  held = ap pairs h.held ∙ is;
  gone = h.gone ∙ (λ i. lone (new_path (is i)) (λ p. of_new p i) old);
  under = λ p. h.under p ∙ ap (λ (ys : List (Row × Row)). row_from ys p old) is;
}

-- ---- And their lines.

-- a line that breaks software is always kept
kept-renamed : (s : Severity) (xs : List (Row × Row)) → filter (is_kept s) (map (λ x. renamed x.0 x.1) xs) ≡ map (λ x. renamed x.0 x.1) xs
kept-renamed s [] = refl
kept-renamed Any (x ∷ xs) = ap (λ ls. renamed x.0 x.1 ∷ ls) (kept-renamed Any xs)
kept-renamed Breaking (x ∷ xs) = ap (λ ls. renamed x.0 x.1 ∷ ls) (kept-renamed Breaking xs)

kept-gone : (s : Severity) (xs : List (Row × List Row)) → filter (is_kept s) (map (λ x. gone x.0) xs) ≡ map (λ x. gone x.0) xs
kept-gone s [] = refl
kept-gone Any (x ∷ xs) = ap (λ ls. gone x.0 ∷ ls) (kept-gone Any xs)
kept-gone Breaking (x ∷ xs) = ap (λ ls. gone x.0 ∷ ls) (kept-gone Breaking xs)

pub kept-new : (s : Severity) (of : Row → List Line) (rows : List Row) → filter (is_kept s) (flat_map of rows) ≡ flat_map (λ r. filter (is_kept s) (of r)) rows
kept-new s of [] = refl
kept-new s of (r ∷ rs) = filter-append (is_kept s) (of r) (flat_map of rs) ∙ ap (λ ls. filter (is_kept s) (of r) ++ ls) (kept-new s of rs)

gone-lines : (at : Row → List (List ℕ)) (found : List (List ℕ) → Option Row) (rows : List Row) → map (λ x. gone x.0) (lone at found rows) ≡ flat_map (λ r. gone_line (found (at r)) r) rows
gone-lines at found [] = refl
gone-lines at found (r ∷ rs) = by (found (at r)) (gone-lines at found rs)
  where
    by : (q : Option Row) → map (λ x. gone x.0) (lone at found rs) ≡ flat_map (λ r. gone_line (found (at r)) r) rs → map (λ x. gone x.0) (lone_if q r rs ++ lone at found rs) ≡ gone_line q r ++ flat_map (λ r. gone_line (found (at r)) r) rs
    by None h = ap (λ ls. gone r ∷ ls) h
    by (Some s) h = h

-- those of what is renamed, of what is gone, and of the rows of the second map
pub all_lines : (c : Choice) (old new : List Row) (m : Matched) (ls : List Line) → IsMatched old new m
    → ls ≡ (map (λ x. renamed x.0 x.1) (pairs m.renames.items) ++ map (λ x. gone x.0) (all_standing m.gone.items)) ++ flat_map (λ r. filter (is_kept c.severity) (new_line c (row_under m.old_by_path (path r)) r)) new
    → ls ≡ lines c old new
all_lines c old new m ls is made =
    let rs = renames old new in
    let kept = filter (is_kept c.severity) in
    let first = map (λ x. renamed x.0 x.1) rs in
    let second = flat_map (λ r. gone_line (row_at (new_path rs r) new) r) old in
    let third = flat_map (λ r. new_line c (row_from rs (path r) old) r) new in
    let gone_part : map (λ x. gone x.0) (all_standing m.gone.items) ≡ second = ap (map (λ x. gone x.0)) is.gone ∙ gone-lines (new_path rs) (λ p. row_at p new) old in
    let kept_second : kept second ≡ second =
    ap kept (sym (gone-lines (new_path rs) (λ p. row_at p new) old)) ∙ kept-gone c.severity (lone (new_path rs) (λ p. row_at p new) old) ∙ gone-lines (new_path rs) (λ p. row_at p new) old in
    let new_part : flat_map (λ r. kept (new_line c (row_under m.old_by_path (path r)) r)) new ≡ kept third =
    (λ i. flat_map (λ r. kept (new_line c (is.under (path r) i) r)) new) ∙ sym (kept-new c.severity (λ r. new_line c (row_from rs (path r) old) r) new) in
    let whole : kept ((first ++ second) ++ third) ≡ (first ++ second) ++ kept third =
    filter-append (is_kept c.severity) (first ++ second) third ∙ (λ i. filter-append (is_kept c.severity) first second i ++ kept third) ∙ (λ i. (kept-renamed c.severity rs i ++ kept_second i) ++ kept third) in
    made
    ∙ (λ i. (map (λ x. renamed x.0 x.1) (is.held i) ++ gone_part i) ++ new_part i)
    ∙ sym whole

renamed-seen : (xs : List Rename) → map (λ x. renamed (pair x).0 (pair x).1) xs ≡ map (λ x. renamed x.0 x.1) (pairs xs)
renamed-seen [] = refl
renamed-seen (x ∷ xs) = ap (λ ls. renamed x.old.now x.new.now ∷ ls) (renamed-seen xs)

gone-seen : (xs : List Lone) → map (λ x. gone (standing x).0) xs ≡ map (λ x. gone x.0) (all_standing xs)
gone-seen [] = refl
gone-seen (x ∷ xs) = ap (λ ls. gone x.row.now ∷ ls) (gone-seen xs)

-- one after another
pub lines_made : (c : Choice) (old new : List Row) (m : Matched) (none first second third : List Line) (xs : List Rename) (gs : List Lone) → IsMatched old new m → xs ≡ m.renames.items → gs ≡ m.gone.items → none ≡ []
    → first ≡ none ++ map (λ x. renamed (pair x).0 (pair x).1) xs → second ≡ first ++ map (λ x. gone (standing x).0) gs
    → third ≡ second ++ flat_map (λ r. filter (is_kept c.severity) (new_line c (row_under m.old_by_path (path r)) r)) new → third ≡ lines c old new
lines_made c old new m none first second third xs gs is of_xs of_gs empty e f g =
    let renames_part = renamed-seen xs ∙ ap (λ ys. map (λ x. renamed x.0 x.1) (pairs ys)) of_xs in
    let gone_part = gone-seen gs ∙ ap (λ ys. map (λ x. gone x.0) (all_standing ys)) of_gs in
    let added = flat_map (λ r. filter (is_kept c.severity) (new_line c (row_under m.old_by_path (path r)) r)) new in
    all_lines c old new m third is
    (g ∙ ap (λ ls. ls ++ added) (f ∙ (λ i. (e ∙ ap (λ ls. ls ++ map (λ x. renamed (pair x).0 (pair x).1) xs) empty ∙ renames_part) i ++ gone_part i)))
