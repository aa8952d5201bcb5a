-- Rows of the same paths in the same order are matched one by one.
use Rattle.std.proofs.Common.{◌≡◌, inl, inr, Bool, true, false, List, [], ◌∷◌, ◌++◌, flat_map, Some, refl, sym, ap, ◌∙◌, append_assoc}
use Rattle.std.specs.Prelude.{◌&&◌}
use Rattle.std.specs.List.{filter}
use Rattle.rdl_elab.specs.declared.row.Row.{Row}
use Rattle.rdl_diff.specs.DiffText.{Line, changed_line, changes, gone_line, is_kept, lines, lines_beside, new_line}
use Rattle.rdl_diff.specs.Paired.{have_same_paths, paired_lines}
use Rattle.rdl_diff.specs.Paths.{path, row_at, same_path}
use Rattle.rdl_diff.specs.Renames.{lone, lone_if, renames, renames_of}
use Rattle.rdl_diff.specs.SameRows.{HaveOwnPaths, IsAmong}
use Rattle.rdl_diff.specs.declared.choice.Choice.{Choice}
use Rattle.rdl_diff.proofs.Lookups.{same_path-Decides}
use Rattle.rdl_diff.proofs.Matches.{kept-new}
use Rattle.rdl_diff.proofs.Members.{none-flat}
use Rattle.rdl_diff.proofs.OwnPaths.{Found, among-at, found-own}

both-true : (a b : Bool) → a && b ≡ true → (a ≡ true) × (b ≡ true)
both-true true b e = (refl, e)
both-true false b e = cc

-- the pairs have one path each
first-same : (o n : Row) (old new : List Row) → have_same_paths (o ∷ old) (n ∷ new) ≡ true → path o ≡ path n
first-same o n old new e = (same_path-Decides (path o) (path n)).0 (both-true (same_path (path o) (path n)) (have_same_paths old new) e).0

others-same : (o n : Row) (old new : List Row) → have_same_paths (o ∷ old) (n ∷ new) ≡ true → have_same_paths old new ≡ true
others-same o n old new e = (both-true (same_path (path o) (path n)) (have_same_paths old new) e).1

-- a row of the first map has one of the second beside it
record Beside (r : Row) (new : List Row) : Type 0 where
  row : Row
  among : IsAmong row new
  same : path r ≡ path row

beside : (old new : List Row) (r : Row) → have_same_paths old new ≡ true → IsAmong r old → Beside r new
beside [] new r e h = absurd h
beside (o ∷ old) [] r e h = cc
beside (o ∷ old) (n ∷ new) r e (inl is) = record { row = n; among = inl refl; same = ap path is ∙ first-same o n old new e }
beside (o ∷ old) (n ∷ new) r e (inr h) =
    let b = beside old new r (others-same o n old new e) h in
    record { row = b.row; among = inr b.among; same = b.same }

module _ (old new : List Row) (same : have_same_paths old new ≡ true) where
  there : (r : Row) → IsAmong r old → Found (path r) new
  there r h =
      let b = beside old new r same h in
      let f = among-at new b.row b.among in
      record { row = f.row; at = ap (λ p. row_at p new) b.same ∙ f.at }

  alone : (rows : List Row) → ((r : Row) → IsAmong r rows → IsAmong r old) → lone path (λ p. row_at p new) rows ≡ []
  alone [] h = refl
  alone (r ∷ rs) h = λ i. lone_if ((there r (h r (inl refl))).at i) r rs ++ alone rs (λ s k. h s (inr k)) i

  no-renames : renames old new ≡ []
  no-renames = ap (λ xs. renames_of xs (lone path (λ p. row_at p old) new)) (alone old (λ r h. h))

  gone-part : flat_map (λ r. gone_line (row_at (path r) new) r) old ≡ []
  gone-part = none-flat (λ r. gone_line (row_at (path r) new) r) old (λ r h. ap (λ o. gone_line o r) (there r h).at)

  module _ (c : Choice) (own : HaveOwnPaths old) where
    new-part : (os ns : List Row) → have_same_paths os ns ≡ true → ((r : Row) → IsAmong r os → IsAmong r old)
        → flat_map (λ r. filter (is_kept c.severity) (new_line c (row_at (path r) old) r)) ns ≡ paired_lines c os ns
    new-part [] [] e h = refl
    new-part [] (n ∷ ns) e h = cc
    new-part (o ∷ os) [] e h = cc
    new-part (o ∷ os) (n ∷ ns) e h =
        let at : row_at (path n) old ≡ Some o = ap (λ p. row_at p old) (sym (first-same o n os ns e)) ∙ found-own old o own (h o (inl refl)) in
        λ i. filter (is_kept c.severity) (new_line c (at i) n) ++ new-part os ns (others-same o n os ns e) (λ r k. h r (inr k)) i

    pub paired : paired_lines c old new ≡ lines c old new
    paired =
        let kept = filter (is_kept c.severity) in
        sym (new-part old new same (λ r h. h))
        ∙ sym (kept-new c.severity (λ r. new_line c (row_at (path r) old) r) new)
        ∙ ap (λ ls. kept (ls ++ flat_map (λ r. new_line c (row_at (path r) old) r) new)) (sym gone-part)
        ∙ ap (λ xs. kept (lines_beside xs c old new)) (sym no-renames)

-- ---- One pair after another.

pub one_pair : (old old_behind new new_behind : List Row) (o n : Row) (all : Bool) → old ≡ o ∷ old_behind → new ≡ n ∷ new_behind → same_path (path o) (path n) ≡ true → have_same_paths old new ≡ all → have_same_paths old_behind new_behind ≡ all
one_pair old old_behind new new_behind o n all e f same h =
    ap (λ b. b && have_same_paths old_behind new_behind) (sym same) ∙ (λ i. have_same_paths (sym e i) (sym f i)) ∙ h

pub one_apart : (old old_behind new new_behind : List Row) (o n : Row) (all : Bool) → old ≡ o ∷ old_behind → new ≡ n ∷ new_behind → same_path (path o) (path n) ≡ false → have_same_paths old new ≡ all → all ≡ false
one_apart old old_behind new new_behind o n all e f apart h =
    sym h ∙ (λ i. have_same_paths (e i) (f i)) ∙ ap (λ b. b && have_same_paths old_behind new_behind) apart

pub one_told : (c : Choice) (old old_behind new new_behind : List Row) (o n : Row) (told after all : List Line) → old ≡ o ∷ old_behind → new ≡ n ∷ new_behind
    → after ≡ told ++ filter (is_kept c.severity) (changed_line (path n) (changes c o n)) → told ++ paired_lines c old new ≡ all → after ++ paired_lines c old_behind new_behind ≡ all
one_told c old old_behind new new_behind o n told after all e f g h =
    ap (λ ls. ls ++ paired_lines c old_behind new_behind) g
    ∙ append_assoc told (filter (is_kept c.severity) (changed_line (path n) (changes c o n))) (paired_lines c old_behind new_behind)
    ∙ (λ i. told ++ paired_lines c (sym e i) (sym f i))
    ∙ h
