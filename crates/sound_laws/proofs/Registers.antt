-- The rows of the fields of a sound register have no fault.
use Rattle.std.proofs.Common.{◌≡◌, ℕ, List, [], ◌∷◌, ◌++◌, Bool, true, false, Some, None, Option, refl, ap, sym, ◌∙◌}
use Rattle.std.specs.Prelude.{not, nat_lt, nat_le, map}
use Rattle.std.specs.Option.{option_or}
use Rattle.std.specs.List.{list_all}
use Rattle.std.proofs.lemmas.Bool.{le-ltb, leb-true}
use Rattle.rdl_tree.specs.Items.{Items}
use Rattle.rdl_tree.specs.Properties.{row}
use Rattle.rdl_tree.specs.declared.shell.Kind.{Kind}
use Rattle.rdl_tree.specs.declared.shell.Kind.TheVariants.{Addrmap, Regfile, Reg, Field}
use Rattle.rdl_tree.specs.declared.shell.Shell.{Shell}
use Rattle.rdl_tree.specs.declared.value.Value.{Value}
use Rattle.rdl_tree.specs.declared.property.Property.{Property}
use Rattle.rdl_tree.specs.declared.property.Property.TheVariants.{Sw, Reset}
use Rattle.rdl_tree.specs.declared.fault.FaultKind.{FaultKind}
use Rattle.rdl_tree.specs.declared.fault.FaultKind.TheVariants.{FieldPastRegister, FieldOverlap, ResetTooWide}
use Rattle.rdl_scope.specs.Target.{body_of}
use Rattle.rdl_scope.specs.ItemFaults.{first_of, fault_at, fault_of, may_instantiate}
use Rattle.rdl_scope.specs.Closed.{Head, Parts, no_parts, part, Made, component}
use Rattle.rdl_scope.proofs.Accepted.{neither}
use Rattle.rdl_elab.specs.declared.layout.Mode.{Mode}
use Rattle.rdl_elab.specs.declared.layout.Span.{Span}
use Rattle.rdl_elab.specs.Found.{IsPartFound, ArePartsFound}
use Rattle.rdl_elab.specs.Layouts.{number_in, values_of, mode_inside, member, laid_out, layouts, layout_of}
use Rattle.rdl_elab.specs.Rows.{row_value, Around, Judged, judged_row, inside, rows_in}
use Rattle.rdl_elab.specs.Faults.{clashes, is_reset_too_wide, kind_fault, row_fault, first_row_fault}
use Rattle.rdl_elab.specs.Reaches.{Reach, behind, along, reached}
use Rattle.rdl_elab.proofs.FieldsInside.{kind-allowed}
use Rattle.sound_laws.specs.Harmless.{in_register}
use Rattle.sound_laws.specs.Sound.{value_with, fields_of, clash_none, resets_fit}
use Rattle.sound_laws.proofs.Lists.{both, free, free_first, free_rest, free_more}
use Rattle.sound_laws.proofs.Passing.{is_harmless_among, pass}
use Rattle.sound_laws.proofs.RowValues.{row_with}
use Rattle.sound_laws.proofs.FieldValues.{reset_fits, access_own, fields_with, clash}

-- ---- Faults of rows, one after the other.

faults_append : (d : Items) (xs ys : List Judged) → first_row_fault d xs ≡ None → first_row_fault d ys ≡ None → first_row_fault d (xs ++ ys) ≡ None
faults_append d [] ys e g = g
faults_append d (r ∷ xs) ys e g =
    let t = neither (row_fault d r) (first_row_fault d xs) e in
    ap (λ o. option_or o (first_row_fault d (xs ++ ys))) t.0 ∙ faults_append d xs ys t.1 g

-- a row without a fault, the rows below it, and those behind them
pub row_then : (d : Items) (r : Judged) (xs ys : List Judged) → kind_fault r.head.kind d r ≡ None → first_row_fault d xs ≡ None → first_row_fault d ys ≡ None
    → first_row_fault d (r ∷ (xs ++ ys)) ≡ None
row_then d r xs ys k e g = ap (λ f. option_or (fault_at r.at f) (first_row_fault d (xs ++ ys))) k ∙ faults_append d xs ys e g

pub none_of_three : (a b c : Bool) (i j k : FaultKind) → a ≡ false → b ≡ false → c ≡ false → first_of ((a, i) ∷ (b, j) ∷ (c, k) ∷ []) ≡ None
none_of_three a b c i j k e f g = λ n. first_of ((e n, i) ∷ (f n, j) ∷ (g n, k) ∷ [])

pub at_most : (a b : ℕ) → nat_le a b ≡ true → nat_lt b a ≡ false
at_most a b e = le-ltb b a (leb-true a b e)

-- ---- What a field and a register may hold.

pub nothing_in_fields : (k : Kind) → may_instantiate (Some Field) k ≡ true → ⊥
nothing_in_fields Addrmap e = cc
nothing_in_fields Regfile e = cc
nothing_in_fields Reg e = cc
nothing_in_fields Field e = cc

fields_in_registers : (k : Kind) → may_instantiate (Some Reg) k ≡ true → k ≡ Field
fields_in_registers Addrmap e = cc
fields_in_registers Regfile e = cc
fields_in_registers Reg e = cc
fields_in_registers Field e = refl

-- below a field there are no rows
pub nothing_below : (d : Items) (b : List ℕ) (m : Made) → fault_of d ≡ None → component d b ≡ Some m → m.head.kind ≡ Field
    → (ps : Parts) → ArePartsFound d b ps → (o : Around) (before : List (Span × Option Value)) (spans : List Span) → first_row_fault d (rows_in d o before spans ps) ≡ None
nothing_below d b m none holds k no_parts found o before spans = refl
nothing_below d b m none holds k (part at s h within rest) found o before spans =
    absurd (nothing_in_fields h.kind (ap (λ j. may_instantiate (Some j) h.kind) (sym k) ∙ kind-allowed d b m at s h within none holds found.0))

module _ (d : Items) (none : fault_of d ≡ None) (b : List ℕ) (m : Made) (holds : component d b ≡ Some m) where
  pub field_there : (at : List ℕ) (s : Shell) (h : Head) (within : Parts) → m.head.kind ≡ Reg → IsPartFound d b at s h within → h.kind ≡ Field
  field_there at s h within k found =
      fields_in_registers h.kind (ap (λ j. may_instantiate (Some j) h.kind) (sym k) ∙ kind-allowed d b m at s h within none holds found)

  -- the bits of its fields don't depend on the mode
  pub same_layouts : (x y : Mode) (ps : Parts) → m.head.kind ≡ Reg → ArePartsFound d b ps → layouts x ps ≡ layouts y ps
  same_layouts x y no_parts k found = refl
  same_layouts x y (part at s h within rest) k found =
      let v = values_of h in
      let field = field_there at s h within k found.0 in
      let in_mode : (z : Mode) → layout_of z h within ≡ record { size = v.fieldwidth; access = 0; spans = [] } =
      λ z. ap (λ j. laid_out j (values_of h) (mode_inside j (values_of h) z) (map member (layouts (mode_inside j (values_of h) z) within))) field in
      let one : layout_of x h within ≡ layout_of y h within = in_mode x ∙ sym (in_mode y) in
      λ i. (s, one i) ∷ same_layouts x y rest k found.2 i

  -- ---- The fields of a register, where what has come is harmless.

  module _ (register : m.head.kind ≡ Reg) (o : Around) (rs : List Reach) (come : (at : List ℕ) → body_of at ≡ b → along d [] (o.path ++ at ∷ []) ≡ behind at rs) (apart : Bool) where
    value_is : (at : List ℕ) (s : Shell) (h : Head) (within : Parts) → IsPartFound d b at s h within → (p : Property)
        → row_value d (o.path ++ at ∷ []) h p ≡ value_with (reached (row p).name (behind at rs)) s h p
    value_is at s h within found p =
        row_with d o.path at s found.of h within found.instance found.component p ∙ ap (λ qs. value_with (reached (row p).name qs) s h p) (come at found.around)

    -- where bits are shared, no `sw` has come
    pub fields_own : apart ≡ false → (spans : List Span) (ps : Parts) → ArePartsFound d b ps → list_all (is_harmless_among (map (in_register apart) spans) ps) rs ≡ true
        → fields_with d o.path spans ps ≡ fields_of spans ps
    fields_own shared spans no_parts found harmless = refl
    fields_own shared [] (part at s h within rest) found harmless = refl
    fields_own shared (span ∷ spans) (part at s h within rest) found harmless =
        let t = pass at s h within rest (in_register apart span) (map (in_register apart) spans) rs harmless in
        let access = value_is at s h within found.0 Sw ∙ access_own apart span s h within (behind at rs) t.0 shared in
        λ i. (span, access i) ∷ fields_own shared spans rest found.2 t.1 i

    pub fields_faultless : (ps : Parts) → ArePartsFound d b ps → (before : List (Span × Option Value)) (spans : List Span)
        → list_all (is_harmless_among (map (in_register apart) spans) ps) rs ≡ true → list_all (λ (s : Span). nat_le s.end o.bits) spans ≡ true → resets_fit spans ps ≡ true
        → clash_none (fields_with d o.path spans ps) ≡ true → free clash before (fields_with d o.path spans ps) ≡ true
        → first_row_fault d (rows_in d o before spans ps) ≡ None
    fields_faultless no_parts found before spans harmless ends resets clear clear_before = refl
    fields_faultless (part at s h within rest) found before [] harmless ends resets clear clear_before = refl
    fields_faultless (part at s h within rest) found before (span ∷ spans) harmless ends resets clear clear_before =
        let l = layout_of o.mode h within in
        let r = judged_row d o before span at s h l in
        let field = field_there at s h within register found.0 in
        let t = pass at s h within rest (in_register apart span) (map (in_register apart) spans) rs harmless in
        let e = both (nat_le span.end o.bits) (list_all (λ (s : Span). nat_le s.end o.bits) spans) ends in
        let f = both (not (is_reset_too_wide (number_in (value_with None s h Reset)) span)) (resets_fit spans rest) resets in
        let g = both (list_all (λ y. not (clash y (span, r.access))) (fields_with d o.path spans rest)) (clash_none (fields_with d o.path spans rest)) clear in
        let past : nat_lt o.bits span.end ≡ false = at_most span.end o.bits e.0 in
        let clashing : clashes span r.access before ≡ false = free_first clash before (span, r.access) (fields_with d o.path spans rest) clear_before in
        let wide : is_reset_too_wide (number_in (row_value d (o.path ++ at ∷ []) h Reset)) span ≡ false =
        ap (λ x. is_reset_too_wide (number_in x) span) (value_is at s h within found.0 Reset) ∙ reset_fits apart span s h within (behind at rs) t.0 field f.0 in
        let fault : kind_fault h.kind d r ≡ None =
        ap (λ k. kind_fault k d r) field
        ∙ none_of_three (nat_lt o.bits span.end) (clashes span r.access before) (is_reset_too_wide (number_in (row_value d (o.path ++ at ∷ []) h Reset)) span) FieldPastRegister FieldOverlap ResetTooWide past clashing wide in
        let below = nothing_below d h.at (record { head = h; parts = within }) none found.0.component field within found.1 (inside r) [] l.spans in
        row_then d r (rows_in d (inside r) [] l.spans within) (rows_in d o (before ++ (span, r.access) ∷ []) spans rest) fault below
        (fields_faultless rest found.2 (before ++ (span, r.access) ∷ []) spans t.1 e.1 f.1 g.1
        (free_more clash before (span, r.access) (fields_with d o.path spans rest) (free_rest clash before (span, r.access) (fields_with d o.path spans rest) clear_before) g.0))
