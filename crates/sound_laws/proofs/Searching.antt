-- The first fault is found where sound components are passed over.
use Rattle.std.proofs.Common.{◌≡◌, ℕ, List, [], ◌∷◌, ◌++◌, Bool, true, false, Some, None, Option, refl, ap, sym, subst, ◌∙◌, ◌+◌, ◌^◌, ◌≤◌, ◌⊎◌, inl, inr, map, arith}
use Rattle.std.specs.Prelude.{if◌then◌else◌, nat_lt, option_and_then}
use Rattle.std.specs.Option.{option_or}
use Rattle.std.proofs.lemmas.Bool.{ltb-false}
use Rattle.rdl_tree.specs.declared.fault.Fault.{Fault}
use Rattle.rdl_tree.specs.declared.fault.FaultKind.TheVariants.{TooManyLevels, TooManyRows, EmptyComponent, MapTooLarge}
use Rattle.rdl_elab.specs.declared.layout.Mode.TheVariants.{Regalign}
use Rattle.rdl_tree.specs.Items.{Items}
use Rattle.rdl_tree.specs.declared.shell.Kind.{Kind}
use Rattle.rdl_tree.specs.declared.shell.Kind.TheVariants.{Addrmap, Regfile, Reg, Field}
use Rattle.rdl_tree.specs.declared.value.Value.{Value}
use Rattle.rdl_scope.specs.Target.{body_of}
use Rattle.rdl_scope.specs.ItemFaults.{first_of, fault_at, fault_of}
use Rattle.rdl_scope.specs.Closed.{Head, Parts, no_parts, part, Made, component}
use Rattle.rdl_elab.specs.declared.layout.Mode.{Mode}
use Rattle.rdl_elab.specs.declared.layout.Span.{Span}
use Rattle.rdl_elab.specs.Found.{ArePartsFound}
use Rattle.rdl_elab.specs.Layouts.{values_of, mode_inside, member, laid_out, layouts, layout_of}
use Rattle.rdl_elab.specs.Size.{bytes_of}
use Rattle.rdl_elab.proofs.Fitting.{BytesFit, OneFits, Fit, fits-inside}
use Rattle.rdl_elab.proofs.FieldsInside.{registers-hold-fields}
use Rattle.rdl_elab.proofs.SameLevels.{bits-small}
use Rattle.rdl_elab.specs.Rows.{Around, Judged, judged_row, inside, rows_in, rows_below, around_top, top_layout}
use Rattle.rdl_elab.specs.Faults.{levels, count, first_empty, row_fault, first_row_fault}
use Rattle.rdl_elab.specs.Reaches.{Reach, behind, along}
use Rattle.rdl_elab.proofs.PartsFound.{parts-found}
use Rattle.rdl_elab.proofs.RowsAlong.{along-inside}
use Rattle.sound_laws.specs.Harmless.{are_harmless}
use Rattle.sound_laws.specs.Sound.{is_sound}
use Rattle.sound_laws.specs.Targets.{own_assignments}
use Rattle.sound_laws.specs.Search.{IsKeptWhole, IsCautious, rows_asked, rows_asked_below}
use Rattle.sound_laws.specs.Laws.{SearchFindsFirst, SearchFindsMapFault}
use Rattle.sound_laws.proofs.Lists.{both}
use Rattle.sound_laws.proofs.Kept.{kept_whole}
use Rattle.sound_laws.proofs.Named.{own_found}
use Rattle.sound_laws.proofs.Maps.{faultless, addrmap_no_register}

or_assoc : {X : Type 0} (a b c : Option X) → option_or (option_or a b) c ≡ option_or a (option_or b c)
or_assoc None b c = refl
or_assoc (Some x) b c = refl

faults_split : (d : Items) (xs ys : List Judged) → first_row_fault d (xs ++ ys) ≡ option_or (first_row_fault d xs) (first_row_fault d ys)
faults_split d [] ys = refl
faults_split d (r ∷ xs) ys = ap (option_or (row_fault d r)) (faults_split d xs ys) ∙ sym (or_assoc (row_fault d r) (first_row_fault d xs) (first_row_fault d ys))

-- a row with those below it and those behind them
same_then : (d : Items) (r : Judged) (xs ys us vs : List Judged) → first_row_fault d xs ≡ first_row_fault d us → first_row_fault d ys ≡ first_row_fault d vs
    → first_row_fault d (r ∷ (xs ++ ys)) ≡ first_row_fault d (r ∷ (us ++ vs))
same_then d r xs ys us vs e g =
    ap (option_or (row_fault d r)) (faults_split d xs ys ∙ (λ i. option_or (e i) (g i)) ∙ sym (faults_split d us vs))

passed_or : (d : Items) (t : Bool) (asked all : List Judged) → (t ≡ true → first_row_fault d all ≡ None) → first_row_fault d asked ≡ first_row_fault d all
    → first_row_fault d (if t then [] else asked) ≡ first_row_fault d all
passed_or d true asked all over below = sym (over refl)
passed_or d false asked all over below = below

-- ---- What is kept of the layouts of instances that lie below 2^40 is exact.

one_whole : (m : Mode) (span : Span) (h : Head) (within : Parts) → OneFits m 0 span h within → IsKeptWhole h.kind (layout_of m h within).size
one_whole m span h within fits = by fits.bytes
  where
    by : ((h.kind ≡ Field) ⊎ BytesFit m 0 span h within) → IsKeptWhole h.kind (layout_of m h within).size
    by (inl e) = subst (λ k. IsKeptWhole k (layout_of m h within).size) (sym e) tt
    by (inr f) = kept_whole h.kind (layout_of m h within).size (omega (arith, f.holds, f.room))

room_of : (m : Mode) (span : Span) (h : Head) (within : Parts) → OneFits m 0 span h within → (h.kind ≡ Field) ⊎ (0 + (layout_of m h within).size ≤ 2 ^ 40)
room_of m span h within fits = by fits.bytes
  where
    by : ((h.kind ≡ Field) ⊎ BytesFit m 0 span h within) → (h.kind ≡ Field) ⊎ (0 + (layout_of m h within).size ≤ 2 ^ 40)
    by (inl e) = inl e
    by (inr f) = inr (omega (arith, f.holds, f.room))

top_room : (m : Mode) (c : Made) (k : Kind) → c.head.kind ≡ k → IsKeptWhole c.head.kind (layout_of m c.head c.parts).size
    → (c.head.kind ≡ Field) ⊎ (0 + (layout_of m c.head c.parts).size ≤ 2 ^ 40)
top_room m c Addrmap e small = let few : (layout_of m c.head c.parts).size ≤ 2 ^ 40 = subst (λ k. IsKeptWhole k (layout_of m c.head c.parts).size) e small in inr (omega (arith, few))
top_room m c Regfile e small = let few : (layout_of m c.head c.parts).size ≤ 2 ^ 40 = subst (λ k. IsKeptWhole k (layout_of m c.head c.parts).size) e small in inr (omega (arith, few))
top_room m c Reg e small =
    let y = mode_inside c.head.kind (values_of c.head) m in
    let size : (layout_of m c.head c.parts).size ≡ bytes_of (values_of c.head).regwidth = ap (λ k. (laid_out k (values_of c.head) y (map member (layouts y c.parts))).size) e in
    let small = bits-small c.head in
    inr (omega (arith, size, small))
top_room m c Field e small = inl e

module _ (d : Items) (over : Mode → Head → Parts → List Reach → Bool) (cautious : IsCautious d over) (none : fault_of d ≡ None) where
  -- among the instances of a component and below them
  abbrev IsSame : Parts → Type 0
  IsSame ps =
      (b : List ℕ) → ArePartsFound d b ps → (o : Around) (going : List Reach) → ((at : List ℕ) → body_of at ≡ b → along d [] (o.path ++ at ∷ []) ≡ behind at going)
      → (before : List (Span × Option Value)) (spans : List Span) → Fit o.mode 0 spans ps → first_row_fault d (rows_asked over d o going before spans ps) ≡ first_row_fault d (rows_in d o before spans ps)

  goes_on : (path : List (List ℕ)) (h : Head) (within : Parts) → component d h.at ≡ Some (record { head = h; parts = within })
      → (at : List ℕ) → body_of at ≡ h.at → along d [] (path ++ at ∷ []) ≡ behind at (along d [] path ++ own_assignments h within)
  goes_on path h within holds at e =
      along-inside d path at h.at (record { head = h; parts = within }) e holds
      ∙ ap (λ rs. behind at (along d [] path ++ rs)) (sym (own_found d none h.at (record { head = h; parts = within }) holds))

  same : (ps : Parts) → IsSame ps
  same no_parts b found o going come before spans fits = refl
  same (part at s h within rest) b found o going come before [] fits = refl
  same (part at s h within rest) b found o going come before (span ∷ spans) fits =
      let l = layout_of o.mode h within in
      let r = judged_row d o before span at s h l in
      let coming = behind at going in
      let holds = found.0.component in
      let arrives = come at found.0.around in
      let below =
      same within h.at (parts-found d h.at (record { head = h; parts = within }) holds) (inside r) (coming ++ own_assignments h within)
      (λ x e. goes_on (inside r).path h within holds x e ∙ ap (λ rs. behind x (rs ++ own_assignments h within)) arrives) [] l.spans
      (fits-inside o.mode 0 h within (registers-hold-fields d h.at (record { head = h; parts = within }) none holds) (room_of o.mode span h within fits.0)) in
      same_then d r
      (if over o.mode h within coming then [] else rows_asked over d (inside r) (coming ++ own_assignments h within) [] l.spans within)
      (rows_asked over d o going (before ++ (span, r.access) ∷ []) spans rest)
      (rows_in d (inside r) [] l.spans within) (rows_in d o (before ++ (span, r.access) ∷ []) spans rest)
      (passed_or d (over o.mode h within coming) (rows_asked over d (inside r) (coming ++ own_assignments h within) [] l.spans within) (rows_in d (inside r) [] l.spans within)
      (λ e. let t = both (is_sound layout_of o.mode h within) (are_harmless layout_of h within coming)
      (cautious o.mode (record { head = h; parts = within }) coming holds (one_whole o.mode span h within fits.0) e) in
      faultless d h.at (record { head = h; parts = within }) o.mode (inside r) none holds t.0 (record { mode = refl; bits = λ k. refl })
      (ap (are_harmless layout_of h within) arrives ∙ t.1)) below)
      (same rest b found.2 o going come (before ++ (span, r.access) ∷ []) spans fits.1)

pub search : SearchFindsFirst
search d over a c m o cautious none holds here small =
    let y = mode_inside c.head.kind (values_of c.head) m in
    let fits : Fit y 0 (layout_of m c.head c.parts).spans c.parts =
    fits-inside m 0 c.head c.parts (registers-hold-fields d a c none holds) (top_room m c c.head.kind refl small) in
    same d over cautious none c.parts a (parts-found d a c holds) o (along d [] o.path ++ own_assignments c.head c.parts)
    (λ at e. along-inside d o.path at a c e holds ∙ ap (λ rs. behind at (along d [] o.path ++ rs)) (sym (own_found d none a c holds))) []
    (layout_of m c.head c.parts).spans (subst (λ z. Fit z 0 (layout_of m c.head c.parts).spans c.parts) (sym here.mode) fits)

-- ---- A map.

-- behind a fault of its size nothing is asked
behind_size : (a : List ℕ) (n : ℕ) (x y : Option Fault) → (n ≤ 2 ^ 40 → x ≡ y)
    → option_or (fault_at a (first_of ((nat_lt (2 ^ 40) n, MapTooLarge) ∷ []))) x ≡ option_or (fault_at a (first_of ((nat_lt (2 ^ 40) n, MapTooLarge) ∷ []))) y
behind_size a n x y e = by (nat_lt (2 ^ 40) n) refl
  where
    by : (t : Bool) → nat_lt (2 ^ 40) n ≡ t → option_or (fault_at a (first_of ((t, MapTooLarge) ∷ []))) x ≡ option_or (fault_at a (first_of ((t, MapTooLarge) ∷ []))) y
    by true g = refl
    by false g = e (ltb-false (2 ^ 40) n g)

pub search_map : SearchFindsMapFault
search_map d over a name c cautious none holds kind =
    let o = around_top name c in
    let same : (top_layout c).size ≤ 2 ^ 40 → first_row_fault d (rows_asked_below over d name c) ≡ first_row_fault d (rows_below d name c) =
    λ small. search d over a c Regalign o cautious none holds (record { mode = refl; bits = λ e. absurd (addrmap_no_register c.head.kind kind e) })
    (subst (λ k. IsKeptWhole k (top_layout c).size) (sym kind) small) in
    λ i. option_or (fault_at a (first_of ((nat_lt 16 (levels c.parts + 1), TooManyLevels) ∷ (nat_lt 65536 (count c.parts + 1), TooManyRows) ∷ [])))
    (option_or (option_and_then (λ b. fault_at b (Some EmptyComponent)) (first_empty c.parts))
    (behind_size a (top_layout c).size (first_row_fault d (rows_asked_below over d name c)) (first_row_fault d (rows_below d name c)) same i))
