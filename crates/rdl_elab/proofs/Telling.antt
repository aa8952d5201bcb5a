-- Rows are put behind the others one by one, up to the first that has a fault.
use Rattle.std.proofs.Common.{◌≡◌, ℕ, zero, suc, ◌+◌, ◌-◌, ◌≤◌, List, [], ◌∷◌, ◌++◌, drop, length, Option, Some, None, true, false, refl, ap, sym, ◌∙◌, arith}
use Rattle.std.specs.Prelude.{slice_get}
use Rattle.std.specs.Option.{is_some}
use Rattle.std.proofs.Math.Seq.{drop-cons}
use Rattle.std.proofs.Math.ListN.{drop_of_length-le}
use Rattle.std.proofs.lemmas.Option.{slice_get_within, get_or_from_slice_get}
use Rattle.rdl_tree.specs.declared.fault.Fault.{Fault}
use Rattle.rdl_elab.specs.declared.layout.Span.{Span}
use Rattle.rdl_elab.specs.declared.row.Row.{Row}
use Rattle.rdl_elab.specs.Kept.{Part}
use Rattle.rdl_elab.specs.declared.walk.finished.Finished.{Finished}
use Rattle.rdl_elab.specs.declared.rows.siblings.Sibling.{Sibling}
use Rattle.rdl_elab.specs.Finished.{under}
use Rattle.rdl_elab.specs.FinishedRows.{Surroundings, FinishedRow, Told, finished_row, seen, judged, surroundings_inside, with_below, level_rows, finished_rows, told_one, told, finished_top_row, finished_around_top, told_below, rows_unless}

-- what is told of more rows, behind what is told already
abbrev pub told_after : Option Fault → Told → List FinishedRow → Told
told_after None t ks = told t.rows ks
told_after (Some f) t ks = t

pub told-append : (rows : List Row) (ks ls : List FinishedRow) → told rows (ks ++ ls) ≡ told_after (told rows ks).fault (told rows ks) ls
told-append rows [] ls = refl
told-append rows (k ∷ ks) ls = by_fault (told-append (rows ++ k.row ∷ []) ks ls) k.fault
  where
    by_fault : told (rows ++ k.row ∷ []) (ks ++ ls) ≡ told_after (told (rows ++ k.row ∷ []) ks).fault (told (rows ++ k.row ∷ []) ks) ls → (o : Option Fault)
        → told_one o k.row rows (told (rows ++ k.row ∷ []) (ks ++ ls))
        ≡ told_after (told_one o k.row rows (told (rows ++ k.row ∷ []) ks)).fault (told_one o k.row rows (told (rows ++ k.row ∷ []) ks)) ls
    by_fault h None = h
    by_fault h (Some f) = refl

stays : (o : Option Fault) (t : Told) (ks : List FinishedRow) → is_some o ≡ true → told_after o t ks ≡ t
stays None t ks h = absurd cc
stays (Some f) t ks h = refl

pub none-is : {X : Type 0} (o : Option X) → is_some o ≡ false → o ≡ None
none-is None h = refl
none-is (Some x) h = absurd cc

found-there : {X : Type 0} (xs : List X) (i : ℕ) (x : X) → slice_get xs i ≡ Some x → drop i xs ≡ x ∷ drop (suc i) xs
found-there xs i x h = drop-cons xs i x (slice_get_within xs i x h) ∙ ap (λ y. y ∷ drop (suc i) xs) (get_or_from_slice_get xs i x x h)

not-there : {X : Type 0} (xs : List X) (i : ℕ) → slice_get xs i ≡ None → drop i xs ≡ []
not-there [] zero h = refl
not-there [] (suc i) h = refl
not-there (x ∷ xs) zero h = absurd cc
not-there (x ∷ xs) (suc i) h = not-there xs i h

pub level-rows : (n : ℕ) (fs : List Finished) (o : Surroundings) (before : List Sibling) (spans : List Span) (ps : List Part) → ((n ≡ 0) → ⊥) → before ≡ []
    → finished_rows n fs o spans ps ≡ level_rows fs (λ inside ss qs. finished_rows (n - 1) fs inside ss qs) o before spans ps
level-rows zero fs o before spans ps h e = absurd (h refl)
level-rows (suc n) fs o before spans ps h e = ap (λ m. level_rows fs (λ inside ss qs. finished_rows m fs inside ss qs) o [] spans ps) (sym (less n)) ∙ ap (λ b. level_rows fs (λ inside ss qs. finished_rows (suc n - 1) fs inside ss qs) o b spans ps) (sym e)
  where
    less : (n : ℕ) → suc n - 1 ≡ n
    less n = omega arith

-- what is below an instance, where there are so many levels
abbrev pub deeper : ℕ → List Finished → Surroundings → List Span → List Part → List FinishedRow
deeper n fs = λ inside ss qs. finished_rows (n - 1) fs inside ss qs

pub told-end : (rows : List Row) (ks : List FinishedRow) (all : Told) → ks ≡ [] → told rows ks ≡ all → record { fault = None; rows = rows } ≡ all
told-end rows ks all e h = ap (told rows) (sym e) ∙ h

module _ (fs : List Finished) (below : Surroundings → List Span → List Part → List FinishedRow) (o : Surroundings) where
  spans-end : (before : List Sibling) (ps : List Part) → level_rows fs below o before [] ps ≡ []
  spans-end before [] = refl
  spans-end before (p ∷ ps) = refl

  no-component : (before : List Sibling) (span : Span) (spans : List Span) (p : Part) (ps : List Part) → slice_get fs p.component ≡ None → level_rows fs below o before (span ∷ spans) (p ∷ ps) ≡ []
  no-component before span spans p ps h =
      ap (λ found. elim found [
        | None ↦ []
        | Some f ↦ with_below below o before span p f ++ level_rows fs below o (before ++ seen span (finished_row o span p f).values ∷ []) spans ps
      ]) h

  pub one-component : (before : List Sibling) (span : Span) (spans : List Span) (p : Part) (ps : List Part) (f : Finished) → slice_get fs p.component ≡ Some f
      → level_rows fs below o before (span ∷ spans) (p ∷ ps) ≡ with_below below o before span p f ++ level_rows fs below o (before ++ seen span (finished_row o span p f).values ∷ []) spans ps
  one-component before span spans p ps f h =
      ap (λ found. elim found [
        | None ↦ []
        | Some f ↦ with_below below o before span p f ++ level_rows fs below o (before ++ seen span (finished_row o span p f).values ∷ []) spans ps
      ]) h

  module _ (spans : List Span) (parts : List Part) (i : ℕ) where
    -- what is left of the instances
    abbrev pub left : List Sibling → List FinishedRow
    left before = level_rows fs below o before (drop i spans) (drop i parts)

    pub no-part : (before : List Sibling) → length parts ≤ i → left before ≡ []
    no-part before h = ap (λ ps. level_rows fs below o before (drop i spans) ps) (drop_of_length-le parts h)

    pub no-span : (before : List Sibling) → slice_get spans i ≡ None → left before ≡ []
    no-span before h = ap (λ ss. level_rows fs below o before ss (drop i parts)) (not-there spans i h) ∙ spans-end before (drop i parts)

    pub no-finished : (before : List Sibling) (span : Span) (p : Part) → slice_get spans i ≡ Some span → slice_get parts i ≡ Some p → slice_get fs p.component ≡ None → left before ≡ []
    no-finished before span p s t h =
        ap (λ ss. level_rows fs below o before ss (drop i parts)) (found-there spans i span s)
        ∙ ap (λ ps. level_rows fs below o before (span ∷ drop (suc i) spans) ps) (found-there parts i p t)
        ∙ no-component before span (drop (suc i) spans) p (drop (suc i) parts) h

    pub one-left : (before : List Sibling) (span : Span) (p : Part) (f : Finished) → slice_get spans i ≡ Some span → slice_get parts i ≡ Some p → slice_get fs p.component ≡ Some f
        → left before ≡ with_below below o before span p f ++ level_rows fs below o (before ++ seen span (finished_row o span p f).values ∷ []) (drop (suc i) spans) (drop (suc i) parts)
    one-left before span p f s t h =
        ap (λ ss. level_rows fs below o before ss (drop i parts)) (found-there spans i span s)
        ∙ ap (λ ps. level_rows fs below o before (span ∷ drop (suc i) spans) ps) (found-there parts i p t)
        ∙ one-component before span (drop (suc i) spans) p (drop (suc i) parts) f h

    -- the row of an instance, what is told with it, and what is told with all below it
    module _ (before : List Sibling) (span : Span) (p : Part) (f : Finished) (rows : List Row) (first then : Told)
        (s : slice_get spans i ≡ Some span) (t : slice_get parts i ≡ Some p) (h : slice_get fs p.component ≡ Some f) where
      abbrev row_here : Row
      row_here = finished_row o span p f

      abbrev rows_inside : List FinishedRow
      rows_inside = below (surroundings_inside o p f row_here) (under o.mode f.layouts).spans f.parts.items

      abbrev more : List FinishedRow
      more = level_rows fs below o (before ++ seen span row_here.values ∷ []) (drop (suc i) spans) (drop (suc i) parts)

      told-left : told rows (left before)
          ≡ told_after (told rows (judged o before span p f row_here ∷ [])).fault (told rows (judged o before span p f row_here ∷ [])) (rows_inside ++ more)
      told-left = ap (told rows) (one-left before span p f s t h) ∙ told-append rows (judged o before span p f row_here ∷ []) (rows_inside ++ more)

      told-first : first ≡ told rows (judged o before span p f row_here ∷ []) → told rows (left before) ≡ told_after first.fault first (rows_inside ++ more)
      told-first e = told-left ∙ ap (λ (x : Told). told_after x.fault x (rows_inside ++ more)) (sym e)

      told-then : first ≡ told rows (judged o before span p f row_here ∷ []) → first.fault ≡ None → then ≡ told first.rows rows_inside → told rows (left before) ≡ told_after then.fault then more
      told-then e m k =
          told-first e ∙ ap (λ x. told_after x first (rows_inside ++ more)) m
          ∙ told-append first.rows rows_inside more
          ∙ ap (λ (x : Told). told_after x.fault x more) (sym k)

      module _ (r : Row) (inside : Surroundings) (e : r ≡ row_here) (k : inside ≡ surroundings_inside o p f r) where
        abbrev FirstIs : Type 0
        FirstIs = first ≡ told rows (judged o before span p f r ∷ [])

        abbrev ThenIs : Type 0
        ThenIs = then ≡ told first.rows (below inside (under o.mode f.layouts).spans f.parts.items)

        first-is : FirstIs → first ≡ told rows (judged o before span p f row_here ∷ [])
        first-is h = h ∙ ap (λ x. told rows (judged o before span p f x ∷ [])) e

        then-is : ThenIs → then ≡ told first.rows rows_inside
        then-is h = h ∙ ap (λ x. told first.rows (below x (under o.mode f.layouts).spans f.parts.items)) (k ∙ ap (surroundings_inside o p f) e)

        pub at-row : FirstIs → is_some first.fault ≡ true → first ≡ told rows (left before)
        at-row h m = sym (told-first (first-is h) ∙ stays first.fault first (rows_inside ++ more) m)

        pub below-row : FirstIs → is_some first.fault ≡ false → ThenIs → is_some then.fault ≡ true → then ≡ told rows (left before)
        below-row h m l n = sym (told-then (first-is h) (none-is first.fault m) (then-is l) ∙ stays then.fault then more n)

        pub goes-on : (after : List Sibling) → FirstIs → is_some first.fault ≡ false → ThenIs → is_some then.fault ≡ false → after ≡ before ++ seen span r.values ∷ []
            → told then.rows (level_rows fs below o after (drop (i + 1) spans) (drop (i + 1) parts)) ≡ told rows (left before)
        goes-on after h m l n g =
            ap (λ b. told then.rows (level_rows fs below o b (drop (i + 1) spans) (drop (i + 1) parts))) (g ∙ ap (λ (x : Row). before ++ seen span x.values ∷ []) e)
            ∙ ap (λ j. told then.rows (level_rows fs below o (before ++ seen span row_here.values ∷ []) (drop j spans) (drop j parts))) (next i)
            ∙ sym (told-then (first-is h) (none-is first.fault m) (then-is l) ∙ ap (λ x. told_after x then more) (none-is then.fault n))
          where
            next : (j : ℕ) → j + 1 ≡ suc j
            next j = omega arith

-- the answer of a map, by what is told of the rows below its top
pub told-answer : (fs : List Finished) (name : List ℕ) (f : Finished) (first : List Row) (o : Surroundings) (fault : Option Fault) (rows : List Row)
    → first ≡ finished_top_row name f ∷ [] → o ≡ finished_around_top name f
    → record { fault = fault; rows = rows } ≡ told first (finished_rows 16 fs o f.layouts.regalign.spans f.parts.items)
    → rows_unless fault rows ≡ rows_unless (told_below fs name f).fault (told_below fs name f).rows
told-answer fs name f first o fault rows e g h =
    ap (λ (t : Told). rows_unless t.fault t.rows)
    (h ∙ ap (λ rs. told rs (finished_rows 16 fs o f.layouts.regalign.spans f.parts.items)) e
    ∙ ap (λ x. told (finished_top_row name f ∷ []) (finished_rows 16 fs x f.layouts.regalign.spans f.parts.items)) g)
