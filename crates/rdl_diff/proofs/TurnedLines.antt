-- Where two maps change places, their lines turn round.
use Rattle.std.proofs.Common.{◌≡◌, ◌⊎◌, inl, inr, ℕ, Bool, true, false, List, [], ◌∷◌, ◌++◌, map, flat_map, Option, Some, None, refl, sym, ap, ◌∙◌, subst, if◌then◌else◌}
use Rattle.rdl_elab.specs.declared.row.Row.{Row}
use Rattle.rdl_diff.specs.Choices.{is_told}
use Rattle.rdl_diff.specs.DiffText.{Change, change, base_change, told_change, changes, Line, gone_line, changed_line, new_line, lines_beside}
use Rattle.rdl_diff.specs.declared.choice.Choice.{Choice}
use Rattle.rdl_tree.specs.declared.property.Property.{Property}
use Rattle.rdl_diff.specs.Paths.{path, row_at}
use Rattle.rdl_diff.specs.SameRows.{HaveOwnPaths, IsAmong, turned_change, turned}
use Rattle.rdl_diff.specs.Told.{told, same, whats}
use Rattle.rdl_diff.specs.declared.moves.Moves.{Moves}
use Rattle.rdl_diff.specs.declared.moves.Moves.TheVariants.{Own, Each}
use Rattle.rdl_diff.specs.declared.what.What.{What}
use Rattle.rdl_diff.specs.declared.what.What.TheVariants as what
use Rattle.rdl_diff.proofs.Alike.{turned-round}
use Rattle.rdl_diff.proofs.Members.{among-front, among-behind, among-split, among-flat, from-flat, map-append, map-flat_map}
use Rattle.rdl_diff.proofs.OwnPaths.{found-own, at-among}

turned-if : (b : Bool) (c : Change) → (if b then [] else turned_change c ∷ []) ≡ map turned_change (if b then [] else c ∷ [])
turned-if true c = refl
turned-if false c = refl

module _ (o n : Row) where
  change-turned : (w : What) → change n o w ≡ map turned_change (change o n w)
  change-turned w =
      let c : Change = record { what = w; old = told w o; new = told w n } in
      ap (λ b. if b then [] else turned_change c ∷ []) (turned-round (told w n) (told w o)) ∙ turned-if (same (told w o) (told w n)) c

  base-turned : (m : Moves) → base_change m n o ≡ map turned_change (base_change m o n)
  base-turned Each = change-turned what.Base
  base-turned Own = by (same (told what.Offset n) (told what.Offset o)) (same (told what.Offset o) (told what.Offset n)) (turned-round (told what.Offset n) (told what.Offset o))
    where
      by : (a b : Bool) → a ≡ b → (if a then [] else change n o what.Base) ≡ map turned_change (if b then [] else change o n what.Base)
      by true true e = refl
      by false false e = change-turned what.Base
      by true false e = cc
      by false true e = cc

  told-turned : (ps : List Property) (w : What) → told_change ps n o w ≡ map turned_change (told_change ps o n w)
  told-turned ps w = by (is_told ps w)
    where
      by : (b : Bool) → (if b then change n o w else []) ≡ map turned_change (if b then change o n w else [])
      by true = change-turned w
      by false = refl

  changes-turned : (c : Choice) → changes c n o ≡ map turned_change (changes c o n)
  changes-turned c =
      (λ i. change-turned what.Kind i ++ base-turned c.moves i ++ flat_map (λ w. told-turned c.ignored.items w i) whats)
      ∙ (λ i. map turned_change (change o n what.Kind) ++ map turned_change (base_change c.moves o n) ++ sym (map-flat_map turned_change (told_change c.ignored.items o n) whats) i)
      ∙ ap (λ cs. cs ++ map turned_change (flat_map (told_change c.ignored.items o n) whats)) (sym (map-append turned_change (change o n what.Kind) (base_change c.moves o n)))
      ∙ sym (map-append turned_change (change o n what.Kind ++ base_change c.moves o n) (flat_map (told_change c.ignored.items o n) whats))

line-turned : (p : List (List ℕ)) (cs : List Change) (l : Line) → IsAmong l (changed_line p cs) → IsAmong (turned l) (changed_line p (map turned_change cs))
line-turned p [] l h = absurd h
line-turned p (c ∷ cs) l (inl e) = inl (ap turned e)
line-turned p (c ∷ cs) l (inr h) = absurd h

module _ (c : Choice) (old new : List Row) (own : HaveOwnPaths new) where
  abbrev Comes : Line → Type 0
  Comes l = IsAmong (turned l) (lines_beside [] c new old)

  -- as a line of a row of the first map, or of the second
  of-first : (l : Line) (r : Row) → IsAmong r new → IsAmong (turned l) (gone_line (row_at (path r) old) r) → Comes l
  of-first l r h k =
      among-front (turned l) (flat_map (λ r. gone_line (row_at (path r) old) r) new) (flat_map (λ r. new_line c (row_at (path r) new) r) old)
      (among-flat (λ r. gone_line (row_at (path r) old) r) new r (turned l) h k)

  of-second : (l : Line) (r : Row) → IsAmong r old → IsAmong (turned l) (new_line c (row_at (path r) new) r) → Comes l
  of-second l r h k =
      among-behind (turned l) (flat_map (λ r. gone_line (row_at (path r) old) r) new) (flat_map (λ r. new_line c (row_at (path r) new) r) old)
      (among-flat (λ r. new_line c (row_at (path r) new) r) old r (turned l) h k)

  was-gone : (l : Line) (r : Row) → IsAmong r old → (q : Option Row) → row_at (path r) new ≡ q → IsAmong l (gone_line q r) → Comes l
  was-gone l r h (Some n) e k = absurd k
  was-gone l r h None e (inr k) = absurd k
  was-gone l r h None e (inl f) = of-second l r h (subst (λ q. IsAmong (turned l) (new_line c q r)) (sym e) (inl (ap turned f)))

  was-new : (l : Line) (r : Row) → IsAmong r new → (q : Option Row) → row_at (path r) old ≡ q → IsAmong l (new_line c q r) → Comes l
  was-new l r h None e (inr k) = absurd k
  was-new l r h None e (inl f) = of-first l r h (subst (λ q. IsAmong (turned l) (gone_line q r)) (sym e) (inl (ap turned f)))
  was-new l r h (Some o) e k =
      let there = at-among (path r) old o e in
      let back : row_at (path o) new ≡ Some r = ap (λ p. row_at p new) (sym there.1) ∙ found-own new r own h in
      let line : changed_line (path r) (map turned_change (changes c o r)) ≡ new_line c (row_at (path o) new) o =
      (λ i. changed_line (there.1 i) (sym (changes-turned o r c) i)) ∙ ap (λ q. new_line c q o) (sym back) in
      of-second l o there.0 (subst (IsAmong (turned l)) line (line-turned (path r) (changes c o r) l k))

  pub turned-lines : (l : Line) → IsAmong l (lines_beside [] c old new) → Comes l
  turned-lines l h = by (among-split l (flat_map (λ r. gone_line (row_at (path r) new) r) old) (flat_map (λ r. new_line c (row_at (path r) old) r) new) h)
    where
      by : IsAmong l (flat_map (λ r. gone_line (row_at (path r) new) r) old) ⊎ IsAmong l (flat_map (λ r. new_line c (row_at (path r) old) r) new) → Comes l
      by (inl k) = let f = from-flat (λ r. gone_line (row_at (path r) new) r) old l k in was-gone l f.item f.among (row_at (path f.item) new) refl f.in_piece
      by (inr k) = let f = from-flat (λ r. new_line c (row_at (path r) old) r) new l k in was-new l f.item f.among (row_at (path f.item) old) refl f.in_piece
