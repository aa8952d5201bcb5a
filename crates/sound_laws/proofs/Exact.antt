-- Where nothing is assigned that rows are judged by, a component without a fault below it is sound.
use Rattle.std.proofs.Common.{◌≡◌, ℕ, List, [], ◌∷◌, ◌++◌, map, Bool, true, false, Some, None, Option, refl, ap, sym, subst, ◌∙◌}
use Rattle.std.specs.Prelude.{◌&&◌, ◌||◌, not, nat_eq, nat_lt, nat_le, bytes_eq, unwrap_or, if◌then◌else◌}
use Rattle.std.specs.List.{list_all, cons_option}
use Rattle.std.specs.Option.{option_or}
use Rattle.std.specs.Cmp.Lexicographic.{pointwise}
use Rattle.std.proofs.lemmas.Bool.{ltb-false, le-leb}
use Rattle.rdl_tree.specs.Items.{Items}
use Rattle.rdl_tree.specs.Properties.{row}
use Rattle.rdl_tree.specs.declared.shell.Kind.{Kind}
use Rattle.rdl_tree.specs.declared.shell.Kind.TheVariants.{Addrmap, Regfile, Reg, Field}
use Rattle.rdl_tree.specs.declared.shell.Shell.{Shell}
use Rattle.rdl_tree.specs.declared.value.Value.{Value}
use Rattle.rdl_tree.specs.declared.property.Property.{Property}
use Rattle.rdl_tree.specs.declared.property.Property.TheVariants.{Sw, Reset}
use Rattle.rdl_tree.specs.declared.fault.FaultKind.TheVariants.{FieldPastRegister, FieldOverlap, ResetTooWide, AccessTooWide, StrideTooSmall, AddressOverlap}
use Rattle.rdl_scope.specs.Target.{body_of}
use Rattle.rdl_scope.specs.ItemFaults.{first_of, fault_of}
use Rattle.rdl_scope.specs.Closed.{Head, Parts, no_parts, part, Made, component}
use Rattle.rdl_scope.proofs.Accepted.{neither, no_kind, first_none}
use Rattle.rdl_scope.proofs.AsFound.{as_found}
use Rattle.rdl_elab.specs.declared.layout.LayoutValues.{LayoutValues}
use Rattle.rdl_elab.specs.declared.layout.Member.{Member}
use Rattle.rdl_elab.specs.declared.layout.Mode.{Mode}
use Rattle.rdl_elab.specs.declared.layout.Mode.TheVariants.{Compact}
use Rattle.rdl_elab.specs.declared.layout.Span.{Span}
use Rattle.rdl_elab.specs.Bits.{bits_of, bits_from}
use Rattle.rdl_elab.specs.Found.{IsPartFound, ArePartsFound}
use Rattle.rdl_elab.specs.Layouts.{number_in, values_of, mode_inside, placement, field_bits, member, laid_out, layouts, layout_of}
use Rattle.rdl_elab.specs.Reaches.{Reach, passed, behind, along, has_ended, reached}
use Rattle.rdl_elab.specs.Rows.{row_value, Around, Judged, judged_row, inside, rows_in}
use Rattle.rdl_elab.specs.Size.{end_of}
use Rattle.rdl_elab.specs.Start.{start_of, spans_from}
use Rattle.rdl_elab.specs.Faults.{overlap, overlaps_one, clashes, is_reset_too_wide, kind_fault, row_fault, first_row_fault}
use Rattle.rdl_elab.proofs.FieldsInside.{kind-allowed}
use Rattle.rdl_elab.proofs.PartsFound.{parts-found}
use Rattle.rdl_elab.proofs.RowsAlong.{along-inside}
use Rattle.sound_laws.specs.Harmless.{are_apart, field_spans, is_unjudged}
use Rattle.sound_laws.specs.Targets.{own_assignments}
use Rattle.sound_laws.specs.Sound.{value_with, fields_of, clash_none, resets_fit, are_fields_sound, are_strides_wide, is_apart_under, sound_by, are_own_harmless, are_sound, is_sound}
use Rattle.sound_laws.specs.Laws.{IsInside}
use Rattle.sound_laws.specs.Exact.{are_unassigned, SoundIsExact}
use Rattle.sound_laws.proofs.Lists.{both, and_both, not_false, free, free_parts, free_cons, all_append}
use Rattle.sound_laws.proofs.RowValues.{row_with}
use Rattle.sound_laws.proofs.FieldValues.{clash}
use Rattle.sound_laws.proofs.Registers.{field_there, same_layouts}
use Rattle.sound_laws.proofs.Containers.{is_container, no_field, meets}
use Rattle.sound_laws.proofs.Named.{own_found}
use Rattle.sound_laws.proofs.Unjudged.{unjudged}

-- ---- What neither assigns `sw` nor `reset` reaches neither.

unjudged_behind : (at : List ℕ) (rs : List Reach) → list_all is_unjudged rs ≡ true → list_all is_unjudged (behind at rs) ≡ true
unjudged_behind at [] e = refl
unjudged_behind at (r ∷ rs) e =
    let t = both (is_unjudged r) (list_all is_unjudged rs) e in
    by_path r.path (unjudged_behind at rs t.1) t.0
  where
    by : (b : Bool) (path : List (List ℕ)) → list_all is_unjudged (behind at rs) ≡ true → is_unjudged r ≡ true
        → list_all is_unjudged (cons_option (if b then Some (record r { path = path }) else None) (behind at rs)) ≡ true
    by true path more here = and_both (is_unjudged r) (list_all is_unjudged (behind at rs)) here more
    by false path more here = more

    by_path : (path : List (List ℕ)) → list_all is_unjudged (behind at rs) ≡ true → is_unjudged r ≡ true → list_all is_unjudged (cons_option (passed at r path) (behind at rs)) ≡ true
    by_path [] more here = more
    by_path (a ∷ path) more here = by (pointwise nat_eq a at) path more here

and_false : (a : Bool) → (a && false) ≡ false
and_false true = refl
and_false false = refl

reached_none : (p : List ℕ) → ((r : Reach) → is_unjudged r ≡ true → bytes_eq r.property p ≡ false) → (rs : List Reach) → list_all is_unjudged rs ≡ true → reached p rs ≡ None
reached_none p f [] e = refl
reached_none p f (r ∷ rs) e =
    let t = both (is_unjudged r) (list_all is_unjudged rs) e in
    ap (λ b. if has_ended r.path && b then Some r.value else reached p rs) (f r t.0)
    ∙ ap (λ b. if b then Some r.value else reached p rs) (and_false (has_ended r.path)) ∙ reached_none p f rs t.1

no_reset : (rs : List Reach) → list_all is_unjudged rs ≡ true → reached (row Reset).name rs ≡ None
no_reset =
    reached_none (row Reset).name
    (λ r e. not_false (bytes_eq r.property (row Reset).name) (both (not (bytes_eq r.property (row Reset).name)) (not (bytes_eq r.property (row Sw).name)) e).0)

no_sw : (rs : List Reach) → list_all is_unjudged rs ≡ true → reached (row Sw).name rs ≡ None
no_sw =
    reached_none (row Sw).name
    (λ r e. not_false (bytes_eq r.property (row Sw).name) (both (not (bytes_eq r.property (row Reset).name)) (not (bytes_eq r.property (row Sw).name)) e).1)

-- ---- Rows without a fault.

faults_parts : (d : Items) (xs ys : List Judged) → first_row_fault d (xs ++ ys) ≡ None → (first_row_fault d xs ≡ None) × (first_row_fault d ys ≡ None)
faults_parts d [] ys e = (refl, e)
faults_parts d (r ∷ xs) ys e =
    let t = neither (row_fault d r) (first_row_fault d (xs ++ ys)) e in
    let u = faults_parts d xs ys t.1 in
    (ap (λ o. option_or o (first_row_fault d xs)) t.0 ∙ u.0, u.1)

record AreFaultless (d : Items) (r : Judged) (xs ys : List Judged) : Type 0 where
  here : kind_fault r.head.kind d r ≡ None
  below : first_row_fault d xs ≡ None
  behind : first_row_fault d ys ≡ None

row_parts : (d : Items) (r : Judged) (xs ys : List Judged) → first_row_fault d (r ∷ (xs ++ ys)) ≡ None → AreFaultless d r xs ys
row_parts d r xs ys e =
    let t = neither (row_fault d r) (first_row_fault d (xs ++ ys)) e in
    let u = faults_parts d xs ys t.1 in
    record { here = no_kind r.at (kind_fault r.head.kind d r) t.0; below = u.0; behind = u.1 }

no_more : (a b : ℕ) → nat_lt b a ≡ false → nat_le a b ≡ true
no_more a b e = le-leb a b (ltb-false b a e)

or_second : (a b : Bool) → b ≡ true → (a || b) ≡ true
or_second true b e = refl
or_second false b e = e

-- what a row of an instance in a container without a fault tells
record IsTold (r : Judged) (k : Kind) : Type 0 where
  stride : nat_lt (unwrap_or r.shell.stride r.size) r.size ≡ false
  apart : overlaps_one r.span r.before ≡ false
  access : k ≡ Reg → nat_lt (values_of r.head).regwidth (values_of r.head).accesswidth ≡ false

told_bytes : (r : Judged) (k : Kind) → (k ≡ Reg → nat_lt (values_of r.head).regwidth (values_of r.head).accesswidth ≡ false)
    → first_of ((nat_lt (unwrap_or r.shell.stride r.size) r.size, StrideTooSmall) ∷ (overlaps_one r.span r.before, AddressOverlap) ∷ []) ≡ None → IsTold r k
told_bytes r k a e =
    let t = first_none (nat_lt (unwrap_or r.shell.stride r.size) r.size) StrideTooSmall ((overlaps_one r.span r.before, AddressOverlap) ∷ []) e in
    let u = first_none (overlaps_one r.span r.before) AddressOverlap [] t.1 in
    record { stride = t.0; apart = u.0; access = a }

told_row : (d : Items) (r : Judged) (k : Kind) → (k ≡ Field → ⊥) → kind_fault k d r ≡ None → IsTold r k
told_row d r Addrmap f e = told_bytes r Addrmap (λ z. cc) e
told_row d r Regfile f e = told_bytes r Regfile (λ z. cc) e
told_row d r Reg f e =
    let t =
    first_none (nat_lt (values_of r.head).regwidth (values_of r.head).accesswidth) AccessTooWide
    ((nat_lt (unwrap_or r.shell.stride r.size) r.size, StrideTooSmall) ∷ (overlaps_one r.span r.before, AddressOverlap) ∷ []) e in
    told_bytes r Reg (λ z. t.0) t.1
told_row d r Field f e = absurd (f refl)

-- ---- As many spans as instances.

abbrev AsMany : List Span → Parts → Type 0
AsMany [] no_parts = Unit {0}
AsMany (span ∷ spans) no_parts = ⊥
AsMany [] (part at s h inside rest) = ⊥
AsMany (span ∷ spans) (part at s h inside rest) = AsMany spans rest

as_many_bytes : (around : Option ℕ) (y : Mode) (end : ℕ) (ps : Parts) → AsMany (spans_from around y end (map (λ (i : Member). i.placement) (map member (layouts y ps)))) ps
as_many_bytes around y end no_parts = tt
as_many_bytes around y end (part at s h within rest) =
    as_many_bytes around y (end_of (start_of around y end (placement (s, layout_of y h within))) (placement (s, layout_of y h within))) rest

as_many_bits : (next : ℕ) (y : Mode) (ps : Parts) → AsMany (bits_from next (map (λ (i : Member). i.bits) (map member (layouts y ps)))) ps
as_many_bits next y no_parts = tt
as_many_bits next y (part at s h within rest) = as_many_bits (bits_of next (field_bits (s, layout_of y h within))).end y rest

module _ (d : Items) (none : fault_of d ≡ None) where
  -- ---- The fields of a register.

  module _ (b : List ℕ) (m : Made) (holds : component d b ≡ Some m) (register : m.head.kind ≡ Reg) (o : Around) (rs : List Reach)
      (come : (at : List ℕ) → body_of at ≡ b → along d [] (o.path ++ at ∷ []) ≡ behind at rs) (clean : list_all is_unjudged rs ≡ true) where
    value_own : (at : List ℕ) (s : Shell) (h : Head) (within : Parts) → IsPartFound d b at s h within → (p : Property)
        → ((qs : List Reach) → list_all is_unjudged qs ≡ true → reached (row p).name qs ≡ None) → row_value d (o.path ++ at ∷ []) h p ≡ value_with None s h p
    value_own at s h within found p f =
        row_with d o.path at s found.of h within found.instance found.component p
        ∙ ap (λ qs. value_with (reached (row p).name qs) s h p) (come at found.around)
        ∙ ap (λ x. value_with x s h p) (f (behind at rs) (unjudged_behind at rs clean))

    record AreSoundFields (before : List (Span × Option Value)) (spans : List Span) (ps : Parts) : Type 0 where
      ends : list_all (λ (s : Span). nat_le s.end o.bits) spans ≡ true
      resets : resets_fit spans ps ≡ true
      clear_before : free clash before (fields_of spans ps) ≡ true
      clear : clash_none (fields_of spans ps) ≡ true

    sound_fields : (ps : Parts) → ArePartsFound d b ps → (before : List (Span × Option Value)) (spans : List Span) → AsMany spans ps
        → first_row_fault d (rows_in d o before spans ps) ≡ None → AreSoundFields before spans ps
    sound_fields no_parts found before [] many e = record { ends = refl; resets = refl; clear_before = nothing_later before; clear = refl }
      where
        nothing_later : (before : List (Span × Option Value)) → free {X = Span × Option Value} {Y = Span × Option Value} clash before [] ≡ true
        nothing_later [] = refl
        nothing_later (x ∷ xs) = nothing_later xs
    sound_fields no_parts found before (span ∷ spans) many e = absurd many
    sound_fields (part at s h within rest) found before [] many e = absurd many
    sound_fields (part at s h within rest) found before (span ∷ spans) many e =
        let l = layout_of o.mode h within in
        let r = judged_row d o before span at s h l in
        let own = value_with None s h Sw in
        let field = field_there d none b m holds at s h within register found.0 in
        let t = row_parts d r (rows_in d (inside r) [] l.spans within) (rows_in d o (before ++ (span, r.access) ∷ []) spans rest) e in
        let fault : kind_fault Field d r ≡ None = ap (λ k. kind_fault k d r) (sym field) ∙ t.here in
        let u = first_none (nat_lt o.bits span.end) FieldPastRegister ((clashes span r.access before, FieldOverlap) ∷ (is_reset_too_wide (number_in (row_value d (o.path ++ at ∷ []) h Reset)) span, ResetTooWide) ∷ []) fault in
        let v = first_none (clashes span r.access before) FieldOverlap ((is_reset_too_wide (number_in (row_value d (o.path ++ at ∷ []) h Reset)) span, ResetTooWide) ∷ []) u.1 in
        let w = first_none (is_reset_too_wide (number_in (row_value d (o.path ++ at ∷ []) h Reset)) span) ResetTooWide [] v.1 in
        let access : r.access ≡ own = value_own at s h within found.0 Sw no_sw in
        let reset : is_reset_too_wide (number_in (value_with None s h Reset)) span ≡ false = ap (λ x. is_reset_too_wide (number_in x) span) (sym (value_own at s h within found.0 Reset no_reset)) ∙ w.0 in
        let more = sound_fields rest found.2 (before ++ (span, r.access) ∷ []) spans many t.behind in
        let clears = free_parts clash before (span, r.access) (fields_of spans rest) more.clear_before in
        record {
          ends = and_both (nat_le span.end o.bits) (list_all (λ (s : Span). nat_le s.end o.bits) spans) (no_more span.end o.bits u.0) more.ends;
          resets = and_both (not (is_reset_too_wide (number_in (value_with None s h Reset)) span)) (resets_fit spans rest) (ap not reset) more.resets;
          clear_before = free_cons clash before (span, own) (fields_of spans rest) (ap (λ x. clashes span x before) (sym access) ∙ v.0) clears.0;
          clear =
              and_both (list_all (λ g. not (clash g (span, own))) (fields_of spans rest)) (clash_none (fields_of spans rest))
              (ap (λ x. list_all (λ g. not (clash g (span, x))) (fields_of spans rest)) (sym access) ∙ clears.1) more.clear;
        }

  -- ---- The instances of a container.

  abbrev AreExact : Parts → Type 0
  AreExact ps =
      (b : List ℕ) (m : Made) → component d b ≡ Some m → is_container m.head.kind ≡ true → ArePartsFound d b ps
      → (o : Around) (before : List (Span × Option Value)) (spans : List Span) (rs : List Reach)
      → ((at : List ℕ) → body_of at ≡ b → along d [] (o.path ++ at ∷ []) ≡ behind at rs)
      → list_all is_unjudged rs ≡ true → are_unassigned ps ≡ true → AsMany spans ps → first_row_fault d (rows_in d o before spans ps) ≡ None
      → (are_strides_wide layout_of o.mode ps ≡ true) × (are_apart spans ≡ true) × (free meets before spans ≡ true) × (are_sound layout_of o.mode ps ≡ true)

  -- a component that stands there under a mode, if that holds of its instances
  module _ (h : Head) (within : Parts) (deeper : AreExact within) (holds : component d h.at ≡ Some (record { head = h; parts = within }))
      (x : Mode) (o : Around) (here : IsInside x (record { head = h; parts = within }) o) (clean : list_all is_unjudged (along d [] o.path) ≡ true)
      (own : list_all is_unjudged (own_assignments h within) ≡ true) (inner : are_unassigned within ≡ true)
      (access : h.kind ≡ Reg → nat_le (values_of h).accesswidth (values_of h).regwidth ≡ true)
      (faultless : first_row_fault d (rows_in d o [] (layout_of x h within).spans within) ≡ None) where
    abbrev c : Made
    c = record { head = h; parts = within }

    abbrev v : LayoutValues
    v = values_of h

    abbrev y : Mode
    y = mode_inside h.kind (values_of h) x

    abbrev going : List Reach
    going = along d [] o.path ++ own_assignments h within

    parts_there : ArePartsFound d h.at within
    parts_there = parts-found d h.at c holds

    come : (at : List ℕ) → body_of at ≡ h.at → along d [] (o.path ++ at ∷ []) ≡ behind at going
    come at e = along-inside d o.path at h.at c e holds ∙ ap (λ rs. behind at (along d [] o.path ++ rs)) (sym (own_found d none h.at c holds))

    all_clean : list_all is_unjudged going ≡ true
    all_clean = all_append is_unjudged (along d [] o.path) (own_assignments h within) clean own

    own_harmless : are_own_harmless layout_of h within ≡ true
    own_harmless = unjudged layout_of c (own_assignments h within) own

    sound_as : (k : Kind) → h.kind ≡ k → sound_by k (are_fields_sound layout_of h within) (is_apart_under layout_of x h within) (are_sound layout_of y within) (are_own_harmless layout_of h within) ≡ true
        → is_sound layout_of x h within ≡ true
    sound_as k e s =
        ap (λ j. sound_by j (are_fields_sound layout_of h within) (is_apart_under layout_of x h within) (are_sound layout_of y within) (are_own_harmless layout_of h within)) e ∙ s

    register : h.kind ≡ Reg → is_sound layout_of x h within ≡ true
    register e =
        let ss = field_spans layout_of h within in
        let bits : (z : Mode) → (layout_of z h within).spans ≡ bits_from 0 (map (λ (i : Member). i.bits) (map member (layouts z within))) =
        λ z. ap (λ j. (laid_out j (values_of h) (mode_inside j (values_of h) z) (map member (layouts (mode_inside j (values_of h) z) within))).spans) e in
        let same : (layout_of x h within).spans ≡ ss =
        bits x ∙ ap (λ ls. bits_from 0 (map (λ (i : Member). i.bits) (map member ls))) (same_layouts d none h.at c holds x Compact within e parts_there) ∙ sym (bits Compact) in
        let many : AsMany ss within = subst (λ ts. AsMany ts within) (sym (bits Compact)) (as_many_bits 0 Compact within) in
        let f = sound_fields h.at c holds e o going come all_clean within parts_there [] ss many (ap (λ ts. first_row_fault d (rows_in d o [] ts within)) (sym same) ∙ faultless) in
        let ends : list_all (λ (s : Span). nat_le s.end v.regwidth) ss ≡ true = ap (λ n. list_all (λ (s : Span). nat_le s.end n) ss) (sym (here.bits e)) ∙ f.ends in
        let a = nat_le v.accesswidth v.regwidth in
        let n = list_all (λ (s : Span). nat_le s.end v.regwidth) ss in
        let r = resets_fit ss within in
        let told : are_fields_sound layout_of h within ≡ true =
        and_both (a && n && r) (are_apart ss || clash_none (fields_of ss within)) (and_both (a && n) r (and_both a n (access e) ends) f.resets)
        (or_second (are_apart ss) (clash_none (fields_of ss within)) f.clear) in
        sound_as Reg e (and_both (are_fields_sound layout_of h within) (are_own_harmless layout_of h within) told own_harmless)

    filled : (k : Kind) → h.kind ≡ k → is_container k ≡ true → (around : Option ℕ)
        → (layout_of x h within).spans ≡ spans_from around y 0 (map (λ (i : Member). i.placement) (map member (layouts y within)))
        → ((inner apart own : Bool) → inner ≡ true → apart ≡ true → own ≡ true → sound_by k (are_fields_sound layout_of h within) apart inner own ≡ true)
        → is_sound layout_of x h within ≡ true
    filled k e may around is joined =
        let spans = (layout_of x h within).spans in
        let many : AsMany spans within = subst (λ ts. AsMany ts within) (sym is) (as_many_bytes around y 0 within) in
        let t = deeper h.at c holds (ap is_container e ∙ may) parts_there o [] spans going come all_clean inner many faultless in
        let strides : are_strides_wide layout_of y within ≡ true = ap (λ z. are_strides_wide layout_of z within) (sym here.mode) ∙ t.0 in
        let sound : are_sound layout_of y within ≡ true = ap (λ z. are_sound layout_of z within) (sym here.mode) ∙ t.3 in
        sound_as k e
        (joined (are_sound layout_of y within) (is_apart_under layout_of x h within) (are_own_harmless layout_of h within) sound
        (and_both (are_strides_wide layout_of y within) (are_apart spans) strides t.1) own_harmless)

    by_kind : (k : Kind) → h.kind ≡ k → is_sound layout_of x h within ≡ true
    by_kind Field e = sound_as Field e refl
    by_kind Reg e = register e
    by_kind Addrmap e =
        filled Addrmap e refl v.alignment (ap (λ j. (laid_out j v y (map member (layouts y within))).spans) e) (λ i a o f g j. and_both (i && a) o (and_both i a f g) j)
    by_kind Regfile e =
        filled Regfile e refl v.alignment (ap (λ j. (laid_out j v y (map member (layouts y within))).spans) e) (λ i a o f g j. and_both (i && a) o (and_both i a f g) j)

    is_exact : is_sound layout_of x h within ≡ true
    is_exact = by_kind h.kind refl

  exact : (ps : Parts) → AreExact ps
  exact no_parts b m holds k found o before [] rs come clean unassigned many e = (refl, refl, nothing_later before, refl)
    where
      nothing_later : (before : List (Span × Option Value)) → free {X = Span × Option Value} {Y = Span} meets before [] ≡ true
      nothing_later [] = refl
      nothing_later (x ∷ xs) = nothing_later xs
  exact no_parts b m holds k found o before (span ∷ spans) rs come clean unassigned many e = absurd many
  exact (part at s h within rest) b m holds k found o before [] rs come clean unassigned many e = absurd many
  exact (part at s h within rest) b m holds k found o before (span ∷ spans) rs come clean unassigned many e =
      let l = layout_of o.mode h within in
      let r = judged_row d o before span at s h l in
      let t = row_parts d r (rows_in d (inside r) [] l.spans within) (rows_in d o (before ++ (span, r.access) ∷ []) spans rest) e in
      let apart = no_field m.head.kind h.kind k (kind-allowed d b m at s h within none holds found.0) in
      let told = told_row d r h.kind apart t.here in
      let ua = both (list_all is_unjudged (own_assignments h within) && are_unassigned within) (are_unassigned rest) unassigned in
      let ub = both (list_all is_unjudged (own_assignments h within)) (are_unassigned within) ua.0 in
      let more = exact rest b m holds k found.2 o (before ++ (span, r.access) ∷ []) spans rs come clean ua.1 many t.behind in
      let clears = free_parts meets before (span, r.access) spans more.2 in
      let arrived : list_all is_unjudged (along d [] (inside r).path) ≡ true = ap (list_all is_unjudged) (come at found.0.around) ∙ unjudged_behind at rs clean in
      let one =
      is_exact h within (exact within) found.0.component o.mode (inside r) (record { mode = refl; bits = λ z. refl }) arrived ub.0 ub.1
      (λ z. no_more (values_of h).accesswidth (values_of h).regwidth (told.access z)) t.below in (
        and_both (not (nat_lt (unwrap_or s.stride l.size) l.size)) (are_strides_wide layout_of o.mode rest) (ap not told.stride) more.0,
        and_both (list_all (λ t. not (overlap t span)) spans) (are_apart spans) clears.1 more.1,
        free_cons meets before span spans told.apart clears.0,
        and_both (is_sound layout_of o.mode h within) (are_sound layout_of o.mode rest) one more.3,
      )

pub sound_is_exact : SoundIsExact
sound_is_exact d a c m o none holds here clean unassigned access faultless =
    let u = both (list_all is_unjudged (own_assignments c.head c.parts)) (are_unassigned c.parts) unassigned in
    is_exact d none c.head c.parts (exact d none c.parts) (ap (component d) (as_found d a c holds).place ∙ holds) m o here clean u.0 u.1 access faultless
