-- No two rows of a map without a fault have one path.
use Rattle.std.proofs.Common.{◌≡◌, ◌≢◌, inl, inr, ℕ, Bool, true, false, List, [], ◌∷◌, ◌++◌, map, drop, Option, Some, None, Ok, refl, sym, ap, ◌∙◌, subst, append_assoc, if◌then◌else◌}
use Rattle.std.specs.Option.{option_or}
use Rattle.rdl_tree.specs.Items.{Items}
use Rattle.rdl_tree.specs.declared.fault.Fault.{Fault}
use Rattle.rdl_tree.specs.declared.value.Value.{Value}
use Rattle.rdl_tree.specs.declared.shell.Shell.{Shell}
use Rattle.rdl_scope.specs.Closed.{Head, Parts, no_parts, part, Made, component}
use Rattle.rdl_scope.specs.ItemFaults.{fault_of}
use Rattle.rdl_elab.specs.Faults.{elaborated, unless_fault, with_top, under_top, rows_or, fault_of_top, top_from}
use Rattle.rdl_elab.specs.Layouts.{layout_of}
use Rattle.rdl_elab.specs.Rows.{Around, Judged, judged_row, inside, rows_in, rows_of, around_top, top_layout}
use Rattle.rdl_elab.specs.declared.layout.Span.{Span}
use Rattle.rdl_elab.specs.declared.row.Row.{Row}
use Rattle.rdl_diff.specs.Paths.{path, same_path, row_at}
use Rattle.rdl_diff.specs.SameRows.{HaveOwnPaths}
use Rattle.rdl_diff.proofs.Lookups.{same_path-Decides}
use Rattle.rdl_diff.proofs.PartNames.{IsNamed, AllApart, all-apart}

-- ---- Paths that differ.

abbrev Path : Type 0
Path = List (List ℕ)

-- all rows are so
abbrev Each : (Row → Type 0) → List Row → Type 0
Each P [] = Unit {0}
Each P (r ∷ rs) = P r × Each P rs

each-append : (P : Row → Type 0) (xs ys : List Row) → Each P xs → Each P ys → Each P (xs ++ ys)
each-append P [] ys h k = k
each-append P (x ∷ xs) ys h k = (h.0, each-append P xs ys h.1 k)

each-weaker : (P Q : Row → Type 0) → ((r : Row) → P r → Q r) → (xs : List Row) → Each P xs → Each Q xs
each-weaker P Q f [] h = tt
each-weaker P Q f (x ∷ xs) h = (f x h.0, each-weaker P Q f xs h.1)

not-at : (p : Path) (rows : List Row) → Each (λ r. p ≢ path r) rows → row_at p rows ≡ None
not-at p [] h = refl
not-at p (r ∷ rs) h = by (same_path p (path r)) refl (not-at p rs h.1)
  where
    by : (b : Bool) → same_path p (path r) ≡ b → row_at p rs ≡ None → option_or (row_at p rs) (if same_path p (path r) then Some r else None) ≡ None
    by true e none = absurd (h.0 ((same_path-Decides p (path r)).0 e))
    by false e none = λ i. option_or (none i) (if e i then Some r else None)

own-append : (xs ys : List Row) → HaveOwnPaths xs → HaveOwnPaths ys → Each (λ x. Each (λ y. path x ≢ path y) ys) xs → HaveOwnPaths (xs ++ ys)
own-append [] ys h k apart = k
own-append (x ∷ xs) ys h k apart = (behind (path x) xs ys h.0 (not-at (path x) ys apart.0), own-append xs ys h.1 k apart.1)
  where
    behind : (p : Path) (xs ys : List Row) → row_at p xs ≡ None → row_at p ys ≡ None → row_at p (xs ++ ys) ≡ None
    behind p [] ys e f = f
    behind p (z ∷ xs) ys e f = by (row_at p xs) refl (same_path p (path z)) refl e (λ g. behind p xs ys g f)
      where
        by : (o : Option Row) → row_at p xs ≡ o → (b : Bool) → same_path p (path z) ≡ b → option_or o (if b then Some z else None) ≡ None → (row_at p xs ≡ None → row_at p (xs ++ ys) ≡ None) → option_or (row_at p (xs ++ ys)) (if same_path p (path z) then Some z else None) ≡ None
        by (Some t) g b k e rest = cc
        by None g true k e rest = cc
        by None g false k e rest = λ i. option_or (rest g i) (if k i then Some z else None)

-- the name behind a front, and what stands behind it
front-name : (pre : Path) (x y : List ℕ) (xs ys : Path) → pre ++ x ∷ xs ≡ pre ++ y ∷ ys → x ≡ y
front-name [] x y xs ys e = cc
front-name (z ∷ pre) x y xs ys e = front-name pre x y xs ys (ap (drop 1) e)

front-rest : (pre : Path) (x y : List ℕ) (xs ys : Path) → pre ++ x ∷ xs ≡ pre ++ y ∷ ys → xs ≡ ys
front-rest [] x y xs ys e = ap (drop 1) e
front-rest (z ∷ pre) x y xs ys e = front-rest pre x y xs ys (ap (drop 1) e)

-- ---- The paths of rows.

-- it leads from these names through one of these instances
record Leads (pre : Path) (ps : Parts) (r : Row) : Type 0 where
  name : List ℕ
  more : Path
  is : path r ≡ pre ++ name ∷ more
  among : IsNamed name ps

leads-later : (pre : Path) (at : List ℕ) (s : Shell) (h : Head) (within rest : Parts) (r : Row) → Leads pre rest r → Leads pre (part at s h within rest) r
leads-later pre at s h within rest r l = record { name = l.name; more = l.more; is = l.is; among = inr l.among }

-- a row inside an instance
through : (pre : Path) (n m : List ℕ) (more p : Path) → p ≡ (pre ++ n ∷ []) ++ m ∷ more → p ≡ pre ++ n ∷ m ∷ more
through pre n m more p e = e ∙ append_assoc pre (n ∷ []) (m ∷ more)

leads-inside : (pre : Path) (at : List ℕ) (s : Shell) (h : Head) (within rest : Parts) (r : Row) → Leads (pre ++ s.name ∷ []) within r → Leads pre (part at s h within rest) r
leads-inside pre at s h within rest r l = record { name = s.name; more = l.name ∷ l.more; is = through pre s.name l.name l.more (path r) l.is; among = inl refl }

-- the rows that are judged
abbrev of : List Judged → List Row
of js = map (λ (j : Judged). j.row) js

of-append : (xs ys : List Judged) → of (xs ++ ys) ≡ of xs ++ of ys
of-append [] ys = refl
of-append (x ∷ xs) ys = ap (λ zs. x.row ∷ zs) (of-append xs ys)

module _ (d : Items) (top : List ℕ) where
  rows-lead : (ps : Parts) (o : Around) (pre : Path) (before : List (Span × Option Value)) (spans : List Span) → o.names ≡ top ∷ pre → Each (Leads pre ps) (of (rows_in d o before spans ps))
  rows-lead no_parts o pre before spans e = tt
  rows-lead (part at s h within rest) o pre before [] e = tt
  rows-lead (part at s h within rest) o pre before (span ∷ spans) e =
      let r : Judged = judged_row d o before span at s h (layout_of o.mode h within) in
      let xs = rows_in d (inside r) [] (layout_of o.mode h within).spans within in
      let ys = rows_in d o (before ++ (span, r.access) ∷ []) spans rest in
      let ps = part at s h within rest in (
        record { name = s.name; more = []; is = ap (λ ns. drop 1 (ns ++ s.name ∷ [])) e; among = inl refl },
        subst (Each (Leads pre ps)) (sym (of-append xs ys)) (each-append (Leads pre ps) (of xs) (of ys)
            (each-weaker (Leads (pre ++ s.name ∷ []) within) (Leads pre ps) (leads-inside pre at s h within rest) (of xs) (rows-lead within (inside r) (pre ++ s.name ∷ []) [] (layout_of o.mode h within).spans (ap (λ ns. ns ++ s.name ∷ []) e)))
            (each-weaker (Leads pre rest) (Leads pre ps) (leads-later pre at s h within rest) (of ys) (rows-lead rest o pre (before ++ (span, r.access) ∷ []) spans e))),
      )

  -- a path through an instance is none through a later one
  no-other : (pre more : Path) (n : List ℕ) (rest : Parts) (p : Path) → p ≡ pre ++ n ∷ more → (IsNamed n rest → ⊥) → (y : Row) → Leads pre rest y → p ≢ path y
  no-other pre more n rest p e free y l same = free (subst (λ m. IsNamed m rest) (sym (front-name pre n l.name more l.more (sym e ∙ same ∙ l.is))) l.among)

  -- nor one of its own
  no-deeper : (pre : Path) (n : List ℕ) (within : Parts) (p : Path) → p ≡ pre ++ n ∷ [] → (x : Row) → Leads (pre ++ n ∷ []) within x → p ≢ path x
  no-deeper pre n within p e x l same =
      let none : [] ≡ l.name ∷ l.more = front-rest pre n n [] (l.name ∷ l.more) (sym e ∙ same ∙ through pre n l.name l.more (path x) l.is) in
      cc

  own-rows : (ps : Parts) (o : Around) (pre : Path) (before : List (Span × Option Value)) (spans : List Span) → o.names ≡ top ∷ pre → AllApart ps → HaveOwnPaths (of (rows_in d o before spans ps))
  own-rows no_parts o pre before spans e apart = tt
  own-rows (part at s h within rest) o pre before [] e apart = tt
  own-rows (part at s h within rest) o pre before (span ∷ spans) e apart =
      let r : Judged = judged_row d o before span at s h (layout_of o.mode h within) in
      let row : Row = r.row in
      let xs = rows_in d (inside r) [] (layout_of o.mode h within).spans within in
      let ys = rows_in d o (before ++ (span, r.access) ∷ []) spans rest in
      let deeper : (inside r).names ≡ top ∷ pre ++ s.name ∷ [] = ap (λ ns. ns ++ s.name ∷ []) e in
      let inner = rows-lead within (inside r) (pre ++ s.name ∷ []) [] (layout_of o.mode h within).spans deeper in
      let others = rows-lead rest o pre (before ++ (span, r.access) ∷ []) spans e in
      let is : path row ≡ pre ++ s.name ∷ [] = ap (λ ns. drop 1 (ns ++ s.name ∷ [])) e in (
        not-at (path row) (of (xs ++ ys)) (subst (Each (λ x. path row ≢ path x)) (sym (of-append xs ys)) (each-append (λ x. path row ≢ path x) (of xs) (of ys)
            (each-weaker (Leads (pre ++ s.name ∷ []) within) (λ x. path row ≢ path x) (no-deeper pre s.name within (path row) is) (of xs) inner)
            (each-weaker (Leads pre rest) (λ y. path row ≢ path y) (no-other pre [] s.name rest (path row) is apart.0) (of ys) others))),
        subst HaveOwnPaths (sym (of-append xs ys)) (own-append (of xs) (of ys)
            (own-rows within (inside r) (pre ++ s.name ∷ []) [] (layout_of o.mode h within).spans deeper apart.1)
            (own-rows rest o pre (before ++ (span, r.access) ∷ []) spans e apart.2)
            (each-weaker (Leads (pre ++ s.name ∷ []) within) (λ x. Each (λ y. path x ≢ path y) (of ys)) (λ x l.
            each-weaker (Leads pre rest) (λ y. path x ≢ path y) (no-other pre (l.name ∷ l.more) s.name rest (path x) (through pre s.name l.name l.more (path x) l.is) apart.0) (of ys) others) (of xs) inner)),
      )

-- ---- The rows of a map.

own-map : (d : Items) (name : List ℕ) (c : Made) → AllApart c.parts → HaveOwnPaths (rows_of d name c)
own-map d name c apart =
    let below = rows_in d (around_top name c) [] (top_layout c).spans c.parts in (
      not-at [] (of below) (each-weaker (Leads [] c.parts) (λ x. [] ≢ path x) (λ x l same. let none : [] ≡ l.name ∷ l.more = same ∙ l.is in cc) (of below) (rows-lead d name c.parts (around_top name c) [] [] (top_layout c).spans refl)),
      own-rows d name c.parts (around_top name c) [] [] (top_layout c).spans refl apart,
    )

pub own-paths : (d : Items) (wanted : Option (List ℕ)) (rows : List Row) → elaborated d wanted ≡ Ok rows → HaveOwnPaths rows
own-paths d wanted rows e = by (fault_of d) refl (top_from wanted 0 d) refl e
  where
    whole : (at name : List ℕ) (c : Made) (f : Option Fault) → AllApart c.parts → rows_or (rows_of d name c) f ≡ Ok rows → HaveOwnPaths rows
    whole at name c None apart e = let same : rows_of d name c ≡ rows = cc in subst HaveOwnPaths same (own-map d name c apart)
    whole at name c (Some fault) apart e = cc

    under : fault_of d ≡ None → (at name : List ℕ) (m : Option Made) → component d at ≡ m → under_top d at name m ≡ Ok rows → HaveOwnPaths rows
    under accepted at name None f e = cc
    under accepted at name (Some c) f e = whole at name c (fault_of_top d at name c) (all-apart d accepted at c f) e

    by : (f : Option Fault) → fault_of d ≡ f → (t : Option (ℕ × List ℕ)) → top_from wanted 0 d ≡ t → unless_fault d wanted f ≡ Ok rows → HaveOwnPaths rows
    by (Some fault) f t g e = cc
    by None f None g e = let none : with_top d None ≡ Ok rows = ap (with_top d) (sym g) ∙ e in cc
    by None f (Some top) g e = under f (top.0 ∷ []) top.1 (component d (top.0 ∷ [])) refl (ap (with_top d) (sym g) ∙ e)
