-- A base is the sum of the offsets along the path, so rows that are alike but for their bases have the same bases.
use Rattle.std.proofs.Common.{◌≡◌, ◌⊎◌, inl, inr, ℕ, zero, suc, ◌+◌, ◌<◌, List, [], ◌∷◌, ◌++◌, map, drop, length, Option, Some, None, Ok, refl, sym, ap, ◌∙◌, subst, arith}
use Rattle.std.specs.Prelude.{unwrap_or}
use Rattle.rdl_tree.specs.Items.{Items}
use Rattle.rdl_tree.specs.declared.fault.Fault.{Fault}
use Rattle.rdl_tree.specs.declared.shell.Kind.{Kind}
use Rattle.rdl_tree.specs.declared.shell.Kind.TheVariants.{Addrmap, Regfile, Reg, Field}
use Rattle.rdl_tree.specs.declared.shell.Shell.{Shell}
use Rattle.rdl_tree.specs.declared.value.Value.{Value}
use Rattle.rdl_scope.specs.Closed.{Parts, no_parts, part, Made, component}
use Rattle.rdl_scope.specs.ItemFaults.{fault_of}
use Rattle.rdl_elab.specs.Faults.{elaborated, unless_fault, with_top, under_top, rows_or, fault_of_top, top_from}
use Rattle.rdl_elab.specs.Layouts.{layout_of}
use Rattle.rdl_elab.specs.Rows.{Around, Judged, judged_row, inside, base_of, location_of, rows_in, rows_of, around_top, top_layout, top_row}
use Rattle.rdl_elab.specs.declared.layout.Span.{Span}
use Rattle.rdl_elab.specs.declared.row.Row.{Row}
use Rattle.rdl_diff.specs.Paths.{path, row_at}
use Rattle.rdl_diff.specs.SameRows.{HaveOwnPaths, AreBoth, HaveTheSameRows, HaveRowsAlike, TellAlike, TellTheSame, IsAmong}
use Rattle.rdl_diff.specs.Told.{Told, number, offset_at}
use Rattle.rdl_diff.specs.declared.what.What.TheVariants as what
use Rattle.rdl_diff.proofs.Members.{among-front, among-behind}
use Rattle.rdl_diff.proofs.OwnPaths.{found-own, at-among}
use Rattle.rdl_diff.proofs.RowPaths.{own-paths}

-- ---- What a row stands in.

-- a row of these has its path but for the last name, and its base but for the offset
record Holder (rows : List Row) (r : Row) : Type 0 where
  row : Row
  among : IsAmong row rows
  name : List ℕ
  path_is : path r ≡ path row ++ name ∷ []
  base_is : r.base ≡ row.base + unwrap_or (offset_at r.location) 0

-- or it is the top
abbrev IsHeld : List Row → Row → Type 0
IsHeld rows r = ((path r ≡ []) × (r.base ≡ 0)) ⊎ Holder rows r

place-is : (k : Kind) (s : Shell) (span : Span) (size base : ℕ) → base_of k base span ≡ base + unwrap_or (offset_at (location_of k s span size)) 0
place-is Field s span size base = omega arith
place-is Addrmap s span size base = refl
place-is Regfile s span size base = refl
place-is Reg s span size base = refl

abbrev of : List Judged → List Row
of js = map (λ (j : Judged). j.row) js

of-append : (xs ys : List Judged) → of (xs ++ ys) ≡ of xs ++ of ys
of-append [] ys = refl
of-append (x ∷ xs) ys = ap (λ zs. x.row ∷ zs) (of-append xs ys)

-- whatever holds of the rows of both parts holds of those of the whole
of-both : (P : Row → Type 0) (xs ys : List Judged) → ((r : Row) → IsAmong r (of xs) → P r) → ((r : Row) → IsAmong r (of ys) → P r) → (r : Row) → IsAmong r (of (xs ++ ys)) → P r
of-both P [] ys f g r h = g r h
of-both P (x ∷ xs) ys f g r (inl e) = f r (inl e)
of-both P (x ∷ xs) ys f g r (inr h) = of-both P xs ys (λ z k. f z (inr k)) g r h

module _ (d : Items) (top : List ℕ) (rows : List Row) where
  held : (ps : Parts) (o : Around) (pre : List (List ℕ)) (before : List (Span × Option Value)) (spans : List Span) (up : Row) → IsAmong up rows → path up ≡ pre → up.base ≡ o.base → o.names ≡ top ∷ pre
      → ((r : Row) → IsAmong r (of (rows_in d o before spans ps)) → IsAmong r rows) → (r : Row) → IsAmong r (of (rows_in d o before spans ps)) → Holder rows r
  held no_parts o pre before spans up is_up e f g all r h = absurd h
  held (part at s h within rest) o pre before [] up is_up e f g all r k = absurd k
  held (part at s h within rest) o pre before (span ∷ spans) up is_up e f g all r (inl is) =
      let l = layout_of o.mode h within in
      let this : Row = (judged_row d o before span at s h l).row in
      let named : path this ≡ path up ++ s.name ∷ [] = ap (λ ns. drop 1 (ns ++ s.name ∷ [])) g ∙ ap (λ p. p ++ s.name ∷ []) (sym e) in
      let based : this.base ≡ up.base + unwrap_or (offset_at this.location) 0 = place-is h.kind s span l.size o.base ∙ ap (λ b. b + unwrap_or (offset_at this.location) 0) (sym f) in
      record { row = up; among = is_up; name = s.name; path_is = ap path is ∙ named; base_is = subst (λ (x : Row). x.base ≡ up.base + unwrap_or (offset_at x.location) 0) (sym is) based }
  held (part at s h within rest) o pre before (span ∷ spans) up is_up e f g all r (inr k) =
      let l = layout_of o.mode h within in
      let j : Judged = judged_row d o before span at s h l in
      let xs = rows_in d (inside j) [] l.spans within in
      let ys = rows_in d o (before ++ (span, j.access) ∷ []) spans rest in
      let both : of (xs ++ ys) ≡ of xs ++ of ys = of-append xs ys in
      let here : path j.row ≡ pre ++ s.name ∷ [] = ap (λ ns. drop 1 (ns ++ s.name ∷ [])) g in
      let deeper : (inside j).names ≡ top ∷ pre ++ s.name ∷ [] = ap (λ ns. ns ++ s.name ∷ []) g in
      of-both (Holder rows) xs ys
      (held within (inside j) (pre ++ s.name ∷ []) [] l.spans j.row (all j.row (inl refl)) here refl deeper (λ z i. all z (inr (subst (IsAmong z) (sym both) (among-front z (of xs) (of ys) i)))))
      (held rest o pre (before ++ (span, j.access) ∷ []) spans up is_up e f g (λ z i. all z (inr (subst (IsAmong z) (sym both) (among-behind z (of xs) (of ys) i)))))
      r k

held-map : (d : Items) (name : List ℕ) (c : Made) (r : Row) → IsAmong r (rows_of d name c) → IsHeld (rows_of d name c) r
held-map d name c r (inl e) = inl (ap path e, ap (λ (x : Row). x.base) e)
held-map d name c r (inr h) = inr (held d name (rows_of d name c) c.parts (around_top name c) [] [] (top_layout c).spans (top_row d name c) (inl refl) refl refl refl (λ z k. inr k) r h)

all-held : (d : Items) (wanted : Option (List ℕ)) (rows : List Row) → elaborated d wanted ≡ Ok rows → (r : Row) → IsAmong r rows → IsHeld rows r
all-held d wanted rows e = by (fault_of d) (top_from wanted 0 d) refl e
  where
    whole : (name : List ℕ) (c : Made) (f : Option Fault) → rows_or (rows_of d name c) f ≡ Ok rows → (r : Row) → IsAmong r rows → IsHeld rows r
    whole name c None e = let same : rows_of d name c ≡ rows = cc in subst (λ (rs : List Row). (r : Row) → IsAmong r rs → IsHeld rs r) same (held-map d name c)
    whole name c (Some fault) e = cc

    under : (at name : List ℕ) (m : Option Made) → under_top d at name m ≡ Ok rows → (r : Row) → IsAmong r rows → IsHeld rows r
    under at name None e = cc
    under at name (Some c) e = whole name c (fault_of_top d at name c) e

    by : (f : Option Fault) (t : Option (ℕ × List ℕ)) → top_from wanted 0 d ≡ t → unless_fault d wanted f ≡ Ok rows → (r : Row) → IsAmong r rows → IsHeld rows r
    by (Some fault) t g e = cc
    by None None g e = let none : with_top d None ≡ Ok rows = ap (with_top d) (sym g) ∙ e in cc
    by None (Some top) g e = under (top.0 ∷ []) top.1 (component d (top.0 ∷ [])) (ap (with_top d) (sym g) ∙ e)

-- ---- Rows at one path.

-- a path but for its last name
front : List (List ℕ) → List (List ℕ)
front [] = []
front (x ∷ []) = []
front (x ∷ y ∷ ys) = x ∷ front (y ∷ ys)

front-of : (p : List (List ℕ)) (name : List ℕ) → front (p ++ name ∷ []) ≡ p
unfolding front
front-of [] name = refl
front-of (x ∷ []) name = refl
front-of (x ∷ y ∷ p) name = ap (λ q. x ∷ q) (front-of (y ∷ p) name)

not-empty : (p : List (List ℕ)) (name : List ℕ) → p ++ name ∷ [] ≡ [] → ⊥
not-empty [] name e = cc
not-empty (x ∷ p) name e = cc

longer : (p : List (List ℕ)) (name : List ℕ) (n : ℕ) → length (p ++ name ∷ []) < suc n → length p < n
longer [] name n l = omega arith
longer (x ∷ p) name n l = by n l (longer p name)
  where
    by : (n : ℕ) → length (x ∷ p ++ name ∷ []) < suc n → ((m : ℕ) → length (p ++ name ∷ []) < suc m → length p < m) → length (x ∷ p) < n
    by zero l rest = absurd (omega arith)
    by (suc m) l rest = let below : length p < m = rest m (omega arith) in omega arith

number-in : Told → Option ℕ
number-in (number n) = n
number-in t = None

module _ (old new : List Row) (old_held : (r : Row) → IsAmong r old → IsHeld old r) (new_held : (r : Row) → IsAmong r new → IsHeld new r)
    (old_own : HaveOwnPaths old) (new_own : HaveOwnPaths new) (alike : HaveRowsAlike old new) where
  same-offset : (o n : Row) → TellAlike o n → offset_at o.location ≡ offset_at n.location
  unfolding number-in
  same-offset o n t = ap number-in (t what.Offset (λ e. cc))

  alike-at : (o n : Row) → IsAmong o old → IsAmong n new → path o ≡ path n → TellAlike o n
  alike-at o n i k e =
      subst (λ q. AreBoth TellAlike (Some o) q) (ap (λ p. row_at p new) e ∙ found-own new n new_own k)
      (subst (λ q. AreBoth TellAlike q (row_at (path o) new)) (found-own old o old_own i) (alike (path o)))

  same-base : (depth : ℕ) (o n : Row) → IsAmong o old → IsAmong n new → path o ≡ path n → length (path o) < depth → o.base ≡ n.base
  same-base zero o n i k e l = absurd (omega arith)
  same-base (suc depth) o n i k e l = by (old_held o i) (new_held n k) (same-base depth)
    where
      by : IsHeld old o → IsHeld new n → ((a b : Row) → IsAmong a old → IsAmong b new → path a ≡ path b → length (path a) < depth → a.base ≡ b.base) → o.base ≡ n.base
      by (inl a) (inl b) rest = a.1 ∙ sym b.1
      by (inl a) (inr b) rest = absurd (not-empty (path b.row) b.name (sym b.path_is ∙ sym e ∙ a.0))
      by (inr a) (inl b) rest = absurd (not-empty (path a.row) a.name (sym a.path_is ∙ e ∙ b.0))
      by (inr a) (inr b) rest =
          let paths : path a.row ≡ path b.row = sym (front-of (path a.row) a.name) ∙ ap front (sym a.path_is ∙ e ∙ b.path_is) ∙ front-of (path b.row) b.name in
          let less : length (path a.row) < depth = longer (path a.row) a.name depth (subst (λ p. length p < suc depth) a.path_is l) in
          let around : a.row.base ≡ b.row.base = rest a.row b.row a.among b.among paths less in
          let offsets : offset_at o.location ≡ offset_at n.location = same-offset o n (alike-at o n i k e) in
          a.base_is ∙ (λ j. around j + unwrap_or (offsets j) 0) ∙ sym b.base_is

  all-same : (o n : Row) → o.base ≡ n.base → TellAlike o n → TellTheSame o n
  all-same o n e t what.Base = ap (λ b. number (Some b)) e
  all-same o n e t what.Kind = t what.Kind (λ e. cc)
  all-same o n e t what.Offset = t what.Offset (λ e. cc)
  all-same o n e t what.Size = t what.Size (λ e. cc)
  all-same o n e t what.Dims = t what.Dims (λ e. cc)
  all-same o n e t what.Stride = t what.Stride (λ e. cc)
  all-same o n e t what.Bits = t what.Bits (λ e. cc)
  all-same o n e t (what.Value p) = t (what.Value p) (λ e. cc)

  same-rows : HaveTheSameRows old new
  same-rows p = by (row_at p old) (row_at p new) refl refl (alike p)
    where
      by : (o n : Option Row) → row_at p old ≡ o → row_at p new ≡ n → AreBoth TellAlike o n → AreBoth TellTheSame o n
      by None None f g t = tt
      by (Some o) None f g t = t
      by None (Some n) f g t = t
      by (Some o) (Some n) f g t =
          let a = at-among p old o f in
          let b = at-among p new n g in
          all-same o n (same-base (suc (length (path o))) o n a.0 b.0 (sym a.1 ∙ b.1) (omega arith)) t

pub alike-same : (d e : Items) (top other : Option (List ℕ)) (old new : List Row) → elaborated d top ≡ Ok old → elaborated e other ≡ Ok new → HaveRowsAlike old new → HaveTheSameRows old new
alike-same d e top other old new of_old of_new alike =
    same-rows old new (all-held d top old of_old) (all-held e other new of_new) (own-paths d top old of_old) (own-paths e other new of_new) alike
