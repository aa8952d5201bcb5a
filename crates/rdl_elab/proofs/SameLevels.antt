-- Level by level, what is told of what is kept is what there is to tell of the components themselves.
use Rattle.std.proofs.Common.{◌≡◌, ℕ, zero, suc, ◌+◌, ◌^◌, ◌≤◌, Bool, true, false, List, [], ◌∷◌, ◌++◌, map, Option, Some, None, refl, ap, sym, ◌∙◌, arith, ◌⊎◌, inl, inr}
use Rattle.std.specs.Option.{option_or}
use Rattle.std.proofs.lemmas.List.{append_assoc, append-nil, map-append}
use Rattle.rdl_elab.proofs.SameRows.{some-none}
use Rattle.std.specs.Prelude.{max, ◌||◌, ◌==◌, if◌then◌else◌}
use Rattle.std.proofs.lemmas.Bool.{or_cases, eqb-true}
use Rattle.rdl_tree.specs.Items.{Items}
use Rattle.rdl_tree.specs.Properties.{has_form}
use Rattle.rdl_tree.specs.declared.property.Form.TheVariants.{Widths}
use Rattle.rdl_tree.specs.declared.value.Value.{Value}
use Rattle.rdl_tree.specs.declared.value.Value.TheVariants.{Number}
use Rattle.rdl_tree.specs.declared.shell.Kind.{Kind}
use Rattle.rdl_tree.specs.declared.shell.Kind.TheVariants.{Addrmap, Regfile, Reg, Field}
use Rattle.rdl_tree.specs.declared.shell.Shell.{Shell}
use Rattle.rdl_tree.specs.declared.fault.Fault.{Fault}
use Rattle.rdl_tree.specs.declared.fault.FaultKind.{FaultKind}
use Rattle.rdl_tree.specs.declared.property.Property.TheVariants.{Regwidth}
use Rattle.rdl_scope.specs.ItemFaults.{fault_at, fault_of}
use Rattle.rdl_scope.specs.Closed.{Head, Parts, no_parts, part, head_value}
use Rattle.rdl_elab.specs.declared.layout.Span.{Span}
use Rattle.rdl_elab.specs.declared.layout.Layout.{Layout}
use Rattle.rdl_elab.specs.declared.row.Row.{Row}
use Rattle.rdl_elab.specs.Kept.{Part}
use Rattle.rdl_elab.specs.declared.walk.finished.Finished.{Finished}
use Rattle.rdl_elab.specs.Layouts.{values_of, mode_inside, number_in, width_in, layout_of}
use Rattle.rdl_elab.specs.Capped.{capped, capped_span}
use Rattle.rdl_elab.specs.Shown.{shown_values}
use Rattle.rdl_elab.specs.Rows.{location_of, base_of, Around, Judged, judged_row, inside, rows_in}
use Rattle.rdl_elab.specs.Faults.{levels, kind_fault, row_fault, first_row_fault}
use Rattle.rdl_elab.specs.Found.{IsPartFound, ArePartsFound}
use Rattle.rdl_elab.specs.Finished.{under, IsKept, IsPart, AreParts}
use Rattle.rdl_elab.specs.Reaches.{Reach, values_along, along, behind, reaches, reaches_at}
use Rattle.rdl_elab.specs.FinishedRows.{Surroundings, FinishedRow, Told, finished_base, finished_values, finished_row, seen, finished_fault, judged, surroundings_inside, level_rows, finished_rows, told_one, told}
use Rattle.rdl_elab.proofs.Along.{along-further}
use Rattle.rdl_elab.proofs.RowsAlong.{values-row, values-alone, reaches-body}
use Rattle.rdl_elab.proofs.Telling.{told_after, told-append, one-component}
use Rattle.rdl_elab.proofs.Fitting.{FieldsIn, BytesFit, OneFits, Fit, fits-inside}
use Rattle.rdl_elab.proofs.SameRows.{sibling_of, seen-same, fault-same, span-exact, location-same, base-same}

-- the rows up to the first that has a fault, and that fault
abbrev pub told_judged : Items → List Row → List Judged → Told
told_judged d rows [] = record { fault = None; rows = rows }
told_judged d rows (r ∷ rs) = told_one (row_fault d r) r.row rows (told_judged d (rows ++ r.row ∷ []) rs)

abbrev judged_after : Items → Option Fault → Told → List Judged → Told
judged_after d None t rs = told_judged d t.rows rs
judged_after d (Some f) t rs = t

judged-append : (d : Items) (rows : List Row) (rs ss : List Judged) → told_judged d rows (rs ++ ss) ≡ judged_after d (told_judged d rows rs).fault (told_judged d rows rs) ss
judged-append d rows [] ss = refl
judged-append d rows (r ∷ rs) ss = by_fault (judged-append d (rows ++ r.row ∷ []) rs ss) (row_fault d r)
  where
    later : Told
    later = told_judged d (rows ++ r.row ∷ []) rs

    by_fault : told_judged d (rows ++ r.row ∷ []) (rs ++ ss) ≡ judged_after d later.fault later ss → (o : Option Fault)
        → told_one o r.row rows (told_judged d (rows ++ r.row ∷ []) (rs ++ ss)) ≡ judged_after d (told_one o r.row rows later).fault (told_one o r.row rows later) ss
    by_fault h None = h
    by_fault h (Some f) = refl

-- what the judged rows tell is their first fault, and without one all of them
pub judged-fault : (d : Items) (rows : List Row) (rs : List Judged) → (told_judged d rows rs).fault ≡ first_row_fault d rs
judged-fault d rows [] = refl
judged-fault d rows (r ∷ rs) = by_fault (judged-fault d (rows ++ r.row ∷ []) rs) (row_fault d r)
  where
    by_fault : (told_judged d (rows ++ r.row ∷ []) rs).fault ≡ first_row_fault d rs → (o : Option Fault)
        → (told_one o r.row rows (told_judged d (rows ++ r.row ∷ []) rs)).fault ≡ option_or o (first_row_fault d rs)
    by_fault h None = h
    by_fault h (Some f) = refl

pub judged-rows : (d : Items) (rows : List Row) (rs : List Judged) → first_row_fault d rs ≡ None → (told_judged d rows rs).rows ≡ rows ++ map (λ (r : Judged). r.row) rs
judged-rows d rows [] h = sym (append-nil rows)
judged-rows d rows (r ∷ rs) h = by_fault (judged-rows d (rows ++ r.row ∷ []) rs) (row_fault d r) h
  where
    by_fault : (first_row_fault d rs ≡ None → (told_judged d (rows ++ r.row ∷ []) rs).rows ≡ (rows ++ r.row ∷ []) ++ map (λ (r : Judged). r.row) rs) → (o : Option Fault)
        → option_or o (first_row_fault d rs) ≡ None → (told_one o r.row rows (told_judged d (rows ++ r.row ∷ []) rs)).rows ≡ rows ++ r.row ∷ map (λ (r : Judged). r.row) rs
    by_fault k None g = k g ∙ append_assoc rows (r.row ∷ []) (map (λ (r : Judged). r.row) rs)
    by_fault k (Some f) g = absurd (some-none g)

-- a width is one of five
width-small : (o : Option ℕ) → width_in o ≤ 128
width-small None = omega arith
width-small (Some n) = by_test (has_form Widths (Number n)) refl
  where
    one : (k : ℕ) → k ≤ 128 → (n == k) ≡ true → n ≤ 128
    one k h e = omega (arith, h, eqb-true n k e)

    two : ((n == 8) ≡ true) ⊎ ((n == 16) ≡ true) → n ≤ 128
    two (inl e) = one 8 (omega arith) e
    two (inr e) = one 16 (omega arith) e

    three : ((n == 8 || n == 16) ≡ true) ⊎ ((n == 32) ≡ true) → n ≤ 128
    three (inl e) = two (or_cases (n == 8) (n == 16) e)
    three (inr e) = one 32 (omega arith) e

    four : ((n == 8 || n == 16 || n == 32) ≡ true) ⊎ ((n == 64) ≡ true) → n ≤ 128
    four (inl e) = three (or_cases (n == 8 || n == 16) (n == 32) e)
    four (inr e) = one 64 (omega arith) e

    five : ((n == 8 || n == 16 || n == 32 || n == 64) ≡ true) ⊎ ((n == 128) ≡ true) → n ≤ 128
    five (inl e) = four (or_cases (n == 8 || n == 16 || n == 32) (n == 64) e)
    five (inr e) = one 128 (omega arith) e

    by_test : (t : Bool) → has_form Widths (Number n) ≡ t → (if t then n else 0) ≤ 128
    by_test true e = five (or_cases (n == 8 || n == 16 || n == 32 || n == 64) (n == 128) e)
    by_test false e = omega arith

pub bits-small : (h : Head) → (values_of h).regwidth ≤ 128
bits-small h = width-small (number_in (head_value h Regwidth))

-- where nothing is assigned, the values are those that the component has by itself
kept-along : (h : Head) (reset : Option ℕ) (rs : List Reach) → finished_values h.kind reset rs (shown_values h) ≡ values_along h.kind reset rs (shown_values h)
kept-along h None [] = sym (values-alone h)
kept-along h None (r ∷ rs) = refl
kept-along h (Some n) rs = refl

base-below : (k : Kind) (base : ℕ) (span : Span) → base_of k base span ≤ base + span.start
base-below Field base span = omega arith
base-below Addrmap base span = omega arith
base-below Regfile base span = omega arith
base-below Reg base span = omega arith

-- what is inside an instance lies within the bytes of a map
pub room-inside : (a : Around) (span : Span) (h : Head) (within : Parts) → (h.kind ≡ Field) ⊎ BytesFit a.mode a.base span h within → (h.kind ≡ Field) ⊎ (base_of h.kind a.base span + (layout_of a.mode h within).size ≤ 2 ^ 40)
room-inside a span h within (inl e) = inl e
room-inside a span h within (inr g) = inr (omega (arith, base-below h.kind a.base span, g.holds, g.room))

module _ (d : Items) (fs : List Finished) (faultless : fault_of d ≡ None) where
  -- what stands around the instances of the component at b, by what is kept
  abbrev pub around_of : List ℕ → Around → Surroundings
  around_of b a = record { mode = a.mode; names = a.names; base = a.base; bits = a.bits; reaching = along d [] a.path ++ reaches_at d b }

  module _ (b : List ℕ) (a : Around) (before : List (Span × Option Value)) (span : Span) (at : List ℕ) (s : Shell) (h : Head) (within : Parts) (p : Part) (f : Finished)
      (place : p.at ≡ at) (shell : p.shell ≡ s) (k : IsKept d f (record { head = h; parts = within })) (found : IsPartFound d b at s h within)
      (small : a.bits ≤ 128) (fits : OneFits a.mode a.base span h within) where
    abbrev l : Layout
    l = layout_of a.mode h within

    abbrev r : Judged
    r = judged_row d a before span at s h l

    abbrev o : Surroundings
    o = around_of b a

    abbrev r' : Row
    r' = finished_row o (capped_span span) p f

    size-is : (under a.mode f.layouts).size ≡ capped l.size
    size-is = ap (λ (x : Layout). x.size) (k.layouts a.mode)

    reaching-is : behind p.at o.reaching ≡ along d [] (a.path ++ at ∷ [])
    reaching-is = ap (λ x. behind x o.reaching) place ∙ ap (λ x. behind at (along d [] a.path ++ reaches_at d x)) (sym found.around) ∙ sym (along-further d at a.path [])

    values-is : r'.values ≡ r.row.values
    values-is =
        (λ i. finished_values (k.kind i) ((ap (λ (x : Shell). x.reset) shell) i) (reaching-is i) (k.shown i))
        ∙ kept-along h s.reset (along d [] (a.path ++ at ∷ []))
        ∙ values-row d a.path at s found.of h within found.instance found.component

    pub kept-fault : (judged o (map sibling_of before) (capped_span span) p f r').fault ≡ row_fault d r
    kept-fault =
        (λ i. fault_at (place i) (finished_fault (k.kind i) (k.values i) a.bits (shell i) (size-is i) (seen (capped_span span) (values-is i)) (map sibling_of before) (values-is i)))
        ∙ ap (fault_at at) (fault-same d a before span at s h within small fits)

    fault-none : row_fault d r ≡ None → kind_fault h.kind d r ≡ None
    fault-none = without (kind_fault h.kind d r)
      where
        without : (x : Option FaultKind) → fault_at at x ≡ None → x ≡ None
        without None e = refl
        without (Some g) e = absurd (some-none e)

    pub exact : row_fault d r ≡ None → capped_span span ≡ span
    exact e = span-exact d a before span at s h within small fits (fault-none e)

    row-is : capped_span span ≡ span → r' ≡ r.row
    row-is e = λ i.
        record {
          names = a.names ++ ((ap (λ (x : Shell). x.name) shell) i) ∷ [];
          kind = k.kind i;
          base = ((λ j. finished_base (k.kind j) a.base (capped_span span)) ∙ base-same d a before span at s h within e fits.bytes) i;
          location = ((λ j. location_of (k.kind j) (shell j) (capped_span span) (size-is j)) ∙ location-same d a before span at s h within e fits.bytes) i;
          values = values-is i;
        }

    -- its own assignments are those of its body
    pub inside-is : f.assignments.items ≡ reaches d h.at 0 h.body → capped_span span ≡ span → surroundings_inside o p f r' ≡ around_of h.at (inside r)
    inside-is assigned e = λ i.
        record {
          mode = mode_inside (k.kind i) (k.values i) a.mode;
          names = (row-is e i).names;
          base = (row-is e i).base;
          bits = (k.values i).regwidth;
          reaching = reaching-is i ++ (assigned ∙ sym (reaches-body d h.at (record { head = h; parts = within }) found.component)) i;
        }

    pub seen-is : capped_span span ≡ span → seen (capped_span span) r'.values ≡ sibling_of (span, r.access)
    seen-is e = (λ i. seen (e i) (values-is i)) ∙ seen-same d r.path h span

    pub spans-is : (under a.mode f.layouts).spans ≡ map capped_span l.spans
    spans-is = ap (λ (x : Layout). x.spans) (k.layouts a.mode)

  abbrev LevelSame : ℕ → Parts → Type 0
  LevelSame n P = (b : List ℕ) (a : Around) (m : Kind) (before : List (Span × Option Value)) (spans : List Span) (ps : List Part) (bound : ℕ) (rows : List Row)
      → AreParts d fs bound ps P → ArePartsFound d b P → FieldsIn m P → Fit a.mode a.base spans P → a.bits ≤ 128 → levels P ≤ suc n
      → told rows (level_rows fs (λ inside ss qs. finished_rows n fs inside ss qs) (around_of b a) (map sibling_of before) (map capped_span spans) ps) ≡ told_judged d rows (rows_in d a before spans P)

  -- the same for so many levels
  pub levels-same : (n : ℕ) (P : Parts) → ((k : ℕ) → LevelSame k P) → (b : List ℕ) (a : Around) (m : Kind) (spans : List Span) (ps : List Part) (bound : ℕ) (rows : List Row)
      → AreParts d fs bound ps P → ArePartsFound d b P → FieldsIn m P → Fit a.mode a.base spans P → a.bits ≤ 128 → levels P ≤ n
      → told rows (finished_rows n fs (around_of b a) (map capped_span spans) ps) ≡ told_judged d rows (rows_in d a [] spans P)
  levels-same zero no_parts same b a m spans ps bound rows parts found fields fit small deep = refl
  levels-same zero (part at s h within rest) same b a m spans ps bound rows parts found fields fit small deep = absurd (none (levels within) (levels rest) deep)
    where
      none : (x y : ℕ) → max (x + 1) y ≤ 0 → ⊥
      none x y h = omega (arith, h)
  levels-same (suc k) P same b a m spans ps bound rows parts found fields fit small deep = same k b a m [] spans ps bound rows parts found fields fit small deep

  told-both : (t u : Told) (ks : List FinishedRow) (rs : List Judged) → t ≡ u → ((rows : List Row) → told rows ks ≡ told_judged d rows rs) → told_after t.fault t ks ≡ judged_after d u.fault u rs
  told-both t u ks rs e h = ap (λ (x : Told). told_after x.fault x ks) e ∙ by_fault u.fault
    where
      by_fault : (o : Option Fault) → told_after o u ks ≡ judged_after d o u rs
      by_fault None = h u.rows
      by_fault (Some f) = refl

  -- an instance with all below it, and those behind it
  module _ (n : ℕ) (b : List ℕ) (a : Around) (m : Kind) (before : List (Span × Option Value)) (span : Span) (spans : List Span) (at : List ℕ) (s : Shell) (h : Head) (within rest : Parts)
      (p : Part) (ps : List Part) (bound : ℕ)
      (q : IsPart d fs bound p at s (record { head = h; parts = within }) (λ f. AreParts d fs p.component f.parts.items within))
      (found : IsPartFound d b at s h within) (small : a.bits ≤ 128) (fits : OneFits a.mode a.base span h within)
      (same-within : (k : ℕ) → LevelSame k within) (same-rest : LevelSame n rest)
      (found-within : ArePartsFound d h.at within) (fields : FieldsIn h.kind within) (deep : levels within ≤ n)
      (parts-rest : AreParts d fs bound ps rest) (found-rest : ArePartsFound d b rest) (fields-rest : FieldsIn m rest) (fit-rest : Fit a.mode a.base spans rest) (deep-rest : levels rest ≤ suc n) where
    abbrev below : Surroundings → List Span → List Part → List FinishedRow
    below inside ss qs = finished_rows n fs inside ss qs

    abbrev f : Finished
    f = q.finished

    kept : IsKept d f (record { head = h; parts = within })
    kept = q.kept

    abbrev size : Layout
    size = layout_of a.mode h within

    abbrev judged_here : Judged
    judged_here = judged_row d a before span at s h size

    abbrev row' : Row
    row' = finished_row (around_of b a) (capped_span span) p f

    abbrev inner : List FinishedRow
    inner = below (surroundings_inside (around_of b a) p f row') (under a.mode f.layouts).spans f.parts.items

    abbrev more : List FinishedRow
    more = level_rows fs below (around_of b a) (map sibling_of before ++ seen (capped_span span) row'.values ∷ []) (map capped_span spans) ps

    abbrev inner_judged : List Judged
    inner_judged = rows_in d (inside judged_here) [] size.spans within

    abbrev more_judged : List Judged
    more_judged = rows_in d a (before ++ (span, judged_here.access) ∷ []) spans rest

    inner-same : (rows : List Row) → capped_span span ≡ span → told (rows ++ row' ∷ []) inner ≡ told_judged d (rows ++ judged_here.row ∷ []) inner_judged
    inner-same rows e =
        (λ i. told (rows ++ row-is b a before span at s h within p f q.place q.shell kept found small fits e i ∷ []) (finished_rows n fs (inside-is b a before span at s h within p f q.place q.shell kept found small fits (q.kept.assignments faultless found.component) e i) (spans-is b a before span at s h within p f q.place q.shell kept found small fits i) f.parts.items))
        ∙ levels-same n within same-within h.at (inside judged_here) h.kind size.spans f.parts.items p.component (rows ++ judged_here.row ∷ []) q.inside found-within fields
        (fits-inside a.mode judged_here.row.base h within fields (room-inside a span h within fits.bytes)) (bits-small h) deep

    more-same : capped_span span ≡ span → (rows : List Row) → told rows more ≡ told_judged d rows more_judged
    more-same e rows =
        ap (λ bs. told rows (level_rows fs below (around_of b a) bs (map capped_span spans) ps))
        (ap (λ x. map sibling_of before ++ x ∷ []) (seen-is b a before span at s h within p f q.place q.shell kept found small fits e) ∙ sym (map-append sibling_of before ((span, judged_here.access) ∷ [])))
        ∙ same-rest b a m (before ++ (span, judged_here.access) ∷ []) spans ps bound rows parts-rest found-rest fields-rest fit-rest small deep-rest

    go-on : (rows : List Row) → capped_span span ≡ span → told (rows ++ row' ∷ []) (inner ++ more) ≡ told_judged d (rows ++ judged_here.row ∷ []) (inner_judged ++ more_judged)
    go-on rows e =
        told-append (rows ++ row' ∷ []) inner more
        ∙ told-both (told (rows ++ row' ∷ []) inner) (told_judged d (rows ++ judged_here.row ∷ []) inner_judged) more more_judged (inner-same rows e) (more-same e)
        ∙ sym (judged-append d (rows ++ judged_here.row ∷ []) inner_judged more_judged)

    abbrev kept_here : FinishedRow
    kept_here = judged (around_of b a) (map sibling_of before) (capped_span span) p f row'

    by-fault : (rows : List Row) (x : Option Fault) → row_fault d judged_here ≡ x
        → told_one kept_here.fault row' rows (told (rows ++ row' ∷ []) (inner ++ more)) ≡ told_one (row_fault d judged_here) judged_here.row rows (told_judged d (rows ++ judged_here.row ∷ []) (inner_judged ++ more_judged))
    by-fault rows None e =
        ap (λ y. told_one y row' rows (told (rows ++ row' ∷ []) (inner ++ more))) (kept-fault b a before span at s h within p f q.place q.shell kept found small fits ∙ e)
        ∙ go-on rows (exact b a before span at s h within p f q.place q.shell kept found small fits e)
        ∙ sym (ap (λ y. told_one y judged_here.row rows (told_judged d (rows ++ judged_here.row ∷ []) (inner_judged ++ more_judged))) e)
    by-fault rows (Some g) e =
        ap (λ y. told_one y row' rows (told (rows ++ row' ∷ []) (inner ++ more))) (kept-fault b a before span at s h within p f q.place q.shell kept found small fits ∙ e)
        ∙ sym (ap (λ y. told_one y judged_here.row rows (told_judged d (rows ++ judged_here.row ∷ []) (inner_judged ++ more_judged))) e)

    one-same : (rows : List Row) → told rows (level_rows fs below (around_of b a) (map sibling_of before) (capped_span span ∷ map capped_span spans) (p ∷ ps))
        ≡ told_judged d rows (rows_in d a before (span ∷ spans) (part at s h within rest))
    one-same rows =
        ap (told rows) (one-component fs below (around_of b a) (map sibling_of before) (capped_span span) (map capped_span spans) p ps f q.there)
        ∙ by-fault rows (row_fault d judged_here) refl

  pub level-same : (P : Parts) (n : ℕ) → LevelSame n P
  level-same no_parts n b a m before spans [] bound rows parts found fields fit small deep = refl
  level-same no_parts n b a m before spans (p ∷ ps) bound rows parts found fields fit small deep = absurd parts
  level-same (part at s h within rest) n b a m before spans [] bound rows parts found fields fit small deep = absurd parts
  level-same (part at s h within rest) n b a m before [] (p ∷ ps) bound rows parts found fields fit small deep = refl
  level-same (part at s h within rest) n b a m before (span ∷ spans) (p ∷ ps) bound rows parts found fields fit small deep =
      one-same n b a m before span spans at s h within rest p ps bound parts.0 found.0 small fit.0 (λ k. level-same within k) (level-same rest n)
      found.1 fields.1 (inner-deep (levels within) (levels rest) n deep) parts.1 found.2 fields.2 fit.1 (rest-deep (levels within) (levels rest) n deep) rows
    where
      inner-deep : (x y k : ℕ) → max (x + 1) y ≤ suc k → x ≤ k
      inner-deep x y k h = omega (arith, h)

      rest-deep : (x y k : ℕ) → max (x + 1) y ≤ suc k → y ≤ suc k
      rest-deep x y k h = omega (arith, h)
