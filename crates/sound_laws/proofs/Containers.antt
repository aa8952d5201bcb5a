-- No row below a sound component has a fault.
use Rattle.std.proofs.Common.{◌≡◌, ℕ, List, [], ◌∷◌, ◌++◌, Bool, true, false, Some, None, Option, refl, ap, sym, subst, ◌∙◌}
use Rattle.std.specs.Prelude.{◌&&◌, ◌||◌, not, nat_lt, nat_le, map, unwrap_or}
use Rattle.std.specs.List.{list_all}
use Rattle.rdl_tree.specs.Items.{Items}
use Rattle.rdl_tree.specs.declared.shell.Kind.{Kind}
use Rattle.rdl_tree.specs.declared.shell.Kind.TheVariants.{Addrmap, Regfile, Reg, Field}
use Rattle.rdl_tree.specs.declared.value.Value.{Value}
use Rattle.rdl_tree.specs.declared.fault.FaultKind.{FaultKind}
use Rattle.rdl_tree.specs.declared.fault.FaultKind.TheVariants.{AccessTooWide, StrideTooSmall, AddressOverlap}
use Rattle.rdl_scope.specs.Target.{body_of}
use Rattle.rdl_scope.specs.ItemFaults.{first_of, fault_of, may_instantiate}
use Rattle.rdl_scope.specs.Closed.{Head, Parts, no_parts, part, Made, component}
use Rattle.rdl_scope.proofs.AsFound.{as_found}
use Rattle.rdl_elab.specs.declared.layout.Mode.{Mode}
use Rattle.rdl_elab.specs.declared.layout.Mode.TheVariants.{Compact}
use Rattle.rdl_elab.specs.declared.layout.Member.{Member}
use Rattle.rdl_elab.specs.declared.layout.Span.{Span}
use Rattle.rdl_elab.specs.Bits.{bits_from}
use Rattle.rdl_elab.specs.Found.{ArePartsFound}
use Rattle.rdl_elab.specs.Layouts.{values_of, mode_inside, member, laid_out, layouts, layout_of}
use Rattle.rdl_elab.specs.Rows.{Around, Judged, judged_row, inside, rows_in}
use Rattle.rdl_elab.specs.Faults.{overlap, overlaps_one, kind_fault, first_row_fault}
use Rattle.rdl_elab.specs.Reaches.{Reach, reaches, behind, along}
use Rattle.rdl_elab.proofs.FieldsInside.{kind-allowed}
use Rattle.rdl_elab.proofs.PartsFound.{parts-found}
use Rattle.rdl_elab.proofs.RowsAlong.{along-inside}
use Rattle.sound_laws.specs.Harmless.{Spot, elsewhere, in_register, are_apart, field_spans, all_elsewhere, spots_by, spots_in, is_harmless_along, is_harmless_at, is_harmless, are_harmless}
use Rattle.sound_laws.specs.Sound.{fields_of, clash_none, resets_fit, are_fields_sound_in, are_fields_sound, are_strides_wide, is_apart_under, sound_by, are_own_harmless, are_sound, is_sound}
use Rattle.sound_laws.specs.Laws.{IsInside, IsFaultlessBelow}
use Rattle.sound_laws.proofs.Lists.{both, and_both, not_false, all_append, free, free_first, free_rest, free_more}
use Rattle.sound_laws.proofs.Passing.{is_harmless_among, enter, pass}
use Rattle.sound_laws.proofs.FieldValues.{fields_with, clash, apart_none}
use Rattle.sound_laws.proofs.Registers.{row_then, none_of_three, at_most, nothing_in_fields, nothing_below, same_layouts, fields_own, fields_faultless}

-- ---- What a container may hold.

abbrev pub is_container : Kind → Bool
is_container Addrmap = true
is_container Regfile = true
is_container Reg = false
is_container Field = false

pub no_field : (k j : Kind) → is_container k ≡ true → may_instantiate (Some k) j ≡ true → j ≡ Field → ⊥
no_field Addrmap Addrmap c m e = cc
no_field Addrmap Regfile c m e = cc
no_field Addrmap Reg c m e = cc
no_field Addrmap Field c m e = cc
no_field Regfile Addrmap c m e = cc
no_field Regfile Regfile c m e = cc
no_field Regfile Reg c m e = cc
no_field Regfile Field c m e = cc
no_field Reg j c m e = cc
no_field Field j c m e = cc

-- a later span against an earlier row
abbrev pub meets : Span → Span × Option Value → Bool
meets t b = overlap t b.0

none_of_two : (b c : Bool) (j k : FaultKind) → b ≡ false → c ≡ false → first_of ((b, j) ∷ (c, k) ∷ []) ≡ None
none_of_two b c j k f g = λ n. first_of ((f n, j) ∷ (g n, k) ∷ [])

faultless_row : (d : Items) (r : Judged) (k : Kind) → (k ≡ Field → ⊥) → (k ≡ Reg → nat_lt (values_of r.head).regwidth (values_of r.head).accesswidth ≡ false)
    → nat_lt (unwrap_or r.shell.stride r.size) r.size ≡ false → overlaps_one r.span r.before ≡ false → kind_fault k d r ≡ None
faultless_row d r Addrmap f a s o = none_of_two (nat_lt (unwrap_or r.shell.stride r.size) r.size) (overlaps_one r.span r.before) StrideTooSmall AddressOverlap s o
faultless_row d r Regfile f a s o = none_of_two (nat_lt (unwrap_or r.shell.stride r.size) r.size) (overlaps_one r.span r.before) StrideTooSmall AddressOverlap s o
faultless_row d r Reg f a s o =
    none_of_three (nat_lt (values_of r.head).regwidth (values_of r.head).accesswidth) (nat_lt (unwrap_or r.shell.stride r.size) r.size) (overlaps_one r.span r.before)
    AccessTooWide StrideTooSmall AddressOverlap (a refl) s o
faultless_row d r Field f a s o = absurd (f refl)

-- ---- Sound fields, told apart.

pub record AreFieldsSound (register least : ℕ) (spans : List Span) (ps : Parts) : Type 0 where
  pub access : nat_le least register ≡ true
  pub ends : list_all (λ (s : Span). nat_le s.end register) spans ≡ true
  pub resets : resets_fit spans ps ≡ true
  pub shares : (are_apart spans || clash_none (fields_of spans ps)) ≡ true

pub fields_told : (register access : ℕ) (spans : List Span) (ps : Parts) → are_fields_sound_in register access spans ps ≡ true → AreFieldsSound register access spans ps
fields_told register access spans ps e =
    let a = nat_le access register in
    let n = list_all (λ (s : Span). nat_le s.end register) spans in
    let r = resets_fit spans ps in
    let t = both (a && n && r) (are_apart spans || clash_none (fields_of spans ps)) e in
    let u = both (a && n) r t.0 in
    let v = both a n u.0 in
    record { access = v.0; ends = v.1; resets = u.1; shares = t.1 }

free_of_none : {X Y : Type 0} (f : Y → X → Bool) (later : List Y) → free f [] later ≡ true
free_of_none f later = refl

module _ (d : Items) (none : fault_of d ≡ None)
    (own : (a : List ℕ) (c : Made) → component d a ≡ Some c → are_own_harmless layout_of c.head c.parts ≡ true → are_harmless layout_of c.head c.parts (reaches d a 0 c.head.body) ≡ true) where
  -- the instances of a container have no fault, nor have the rows below them
  abbrev Faultless : Parts → Type 0
  Faultless ps =
      (b : List ℕ) (m : Made) → component d b ≡ Some m → is_container m.head.kind ≡ true → ArePartsFound d b ps
      → (o : Around) (before : List (Span × Option Value)) (spans : List Span) (rs : List Reach)
      → ((at : List ℕ) → body_of at ≡ b → along d [] (o.path ++ at ∷ []) ≡ behind at rs)
      → list_all (is_harmless_among (all_elsewhere ps) ps) rs ≡ true
      → are_strides_wide layout_of o.mode ps ≡ true → are_apart spans ≡ true → free meets before spans ≡ true → are_sound layout_of o.mode ps ≡ true
      → first_row_fault d (rows_in d o before spans ps) ≡ None

  -- a component that stands there under a mode, if that holds of its instances
  module _ (h : Head) (within : Parts) (deeper : Faultless within) (holds : component d h.at ≡ Some (record { head = h; parts = within }))
      (x : Mode) (sound : is_sound layout_of x h within ≡ true) (o : Around) (here : IsInside x (record { head = h; parts = within }) o)
      (spot : Spot) (harmless : list_all (is_harmless_at layout_of spot h within) (along d [] o.path) ≡ true) where
    abbrev c : Made
    c = record { head = h; parts = within }

    abbrev arrived : List Reach
    arrived = along d [] o.path ++ reaches d h.at 0 h.body

    abbrev places : List Span
    places = (layout_of x h within).spans

    abbrev Goal : Type 0
    Goal = first_row_fault d (rows_in d o [] places within) ≡ None

    parts_there : ArePartsFound d h.at within
    parts_there = parts-found d h.at c holds

    come : (at : List ℕ) → body_of at ≡ h.at → along d [] (o.path ++ at ∷ []) ≡ behind at arrived
    come at e = along-inside d o.path at h.at c e holds

    all_harmless : are_own_harmless layout_of h within ≡ true → list_all (is_harmless_among (spots_in layout_of h within) within) arrived ≡ true
    all_harmless e =
        all_append (is_harmless_among (spots_in layout_of h within) within) (along d [] o.path) (reaches d h.at 0 h.body)
        (enter spot h within (along d [] o.path) harmless) (enter elsewhere h within (reaches d h.at 0 h.body) (own h.at c holds e))

    of_kind : (k : Kind) → h.kind ≡ k → are_own_harmless layout_of h within ≡ true → list_all (is_harmless_among (spots_by k (field_spans layout_of h within) within) within) arrived ≡ true
    of_kind k e a = subst (λ j. list_all (is_harmless_among (spots_by j (field_spans layout_of h within) within) within) arrived ≡ true) e (all_harmless a)

    container : is_container h.kind ≡ true → list_all (is_harmless_among (all_elsewhere within) within) arrived ≡ true → is_apart_under layout_of x h within ≡ true
        → are_sound layout_of (mode_inside h.kind (values_of h) x) within ≡ true → Goal
    container k e a s =
        let t = both (are_strides_wide layout_of (mode_inside h.kind (values_of h) x) within) (are_apart places) a in
        deeper h.at c holds k parts_there o [] places arrived come e
        (ap (λ y. are_strides_wide layout_of y within) here.mode ∙ t.0) t.1 (free_of_none meets places) (ap (λ y. are_sound layout_of y within) here.mode ∙ s)

    spans_same : h.kind ≡ Reg → places ≡ field_spans layout_of h within
    spans_same k =
        let bits : (y : Mode) → (layout_of y h within).spans ≡ bits_from 0 (map (λ (i : Member). i.bits) (map member (layouts y within))) =
        λ y. ap (λ j. (laid_out j (values_of h) (mode_inside j (values_of h) y) (map member (layouts (mode_inside j (values_of h) y) within))).spans) k in
        bits x ∙ ap (λ ls. bits_from 0 (map (λ (i : Member). i.bits) (map member ls))) (same_layouts d none h.at c holds x Compact within k parts_there) ∙ sym (bits Compact)

    register : h.kind ≡ Reg → list_all (is_harmless_among (map (in_register (are_apart (field_spans layout_of h within))) (field_spans layout_of h within)) within) arrived ≡ true
        → are_fields_sound layout_of h within ≡ true → Goal
    register k e f =
        let ss = field_spans layout_of h within in
        let told = fields_told (values_of h).regwidth (values_of h).accesswidth ss within f in
        let ends = ap (λ n. list_all (λ (s : Span). nat_le s.end n) ss) (here.bits k) ∙ told.ends in
        ap (λ ts. first_row_fault d (rows_in d o [] ts within)) (spans_same k)
        ∙ fields_faultless d none h.at c holds k o arrived come (are_apart ss) within parts_there [] ss e ends told.resets
        (by (are_apart ss) refl told.shares) (free_of_none clash (fields_with d o.path ss within))
      where
        by : (b : Bool) → are_apart (field_spans layout_of h within) ≡ b → (b || clash_none (fields_of (field_spans layout_of h within) within)) ≡ true → clash_none (fields_with d o.path (field_spans layout_of h within) within) ≡ true
        by true a t = apart_none d o.path (field_spans layout_of h within) within a
        by false a t = ap clash_none (fields_own d none h.at c holds k o arrived come (are_apart (field_spans layout_of h within)) a (field_spans layout_of h within) within parts_there e) ∙ t

    by_kind : (k : Kind) → h.kind ≡ k
        → sound_by k (are_fields_sound layout_of h within) (is_apart_under layout_of x h within) (are_sound layout_of (mode_inside h.kind (values_of h) x) within) (are_own_harmless layout_of h within) ≡ true → Goal
    by_kind Field e s = nothing_below d h.at c none holds e within parts_there o [] places
    by_kind Reg e s =
        let t = both (are_fields_sound layout_of h within) (are_own_harmless layout_of h within) s in
        register e (of_kind Reg e t.1) t.0
    by_kind Addrmap e s =
        let inner = are_sound layout_of (mode_inside h.kind (values_of h) x) within in
        let t = both (inner && is_apart_under layout_of x h within) (are_own_harmless layout_of h within) s in
        let u = both inner (is_apart_under layout_of x h within) t.0 in
        container (ap is_container e) (of_kind Addrmap e t.1) u.1 u.0
    by_kind Regfile e s =
        let inner = are_sound layout_of (mode_inside h.kind (values_of h) x) within in
        let t = both (inner && is_apart_under layout_of x h within) (are_own_harmless layout_of h within) s in
        let u = both inner (is_apart_under layout_of x h within) t.0 in
        container (ap is_container e) (of_kind Regfile e t.1) u.1 u.0

    faultless_below : Goal
    faultless_below = by_kind h.kind refl sound

  -- a register's access is no wider than the register
  access_fits : (x : Mode) (h : Head) (within : Parts) → is_sound layout_of x h within ≡ true → h.kind ≡ Reg → nat_lt (values_of h).regwidth (values_of h).accesswidth ≡ false
  access_fits x h within sound k =
      let by_reg : (are_fields_sound layout_of h within && are_own_harmless layout_of h within) ≡ true =
      sym (ap (λ j. sound_by j (are_fields_sound layout_of h within) (is_apart_under layout_of x h within) (are_sound layout_of (mode_inside h.kind (values_of h) x) within) (are_own_harmless layout_of h within)) k) ∙ sound in
      let fields = (both (are_fields_sound layout_of h within) (are_own_harmless layout_of h within) by_reg).0 in
      let told = fields_told (values_of h).regwidth (values_of h).accesswidth (field_spans layout_of h within) within fields in
      at_most (values_of h).accesswidth (values_of h).regwidth told.access

  faultless : (ps : Parts) → Faultless ps
  faultless no_parts b m holds k found o before spans rs come harmless strides apart clear sound = refl
  faultless (part at s h within rest) b m holds k found o before [] rs come harmless strides apart clear sound = refl
  faultless (part at s h within rest) b m holds k found o before (span ∷ spans) rs come harmless strides apart clear sound =
      let l = layout_of o.mode h within in
      let r = judged_row d o before span at s h l in
      let t = pass at s h within rest elsewhere (all_elsewhere rest) rs harmless in
      let w = both (not (nat_lt (unwrap_or s.stride l.size) l.size)) (are_strides_wide layout_of o.mode rest) strides in
      let a = both (list_all (λ t. not (overlap t span)) spans) (are_apart spans) apart in
      let u = both (is_sound layout_of o.mode h within) (are_sound layout_of o.mode rest) sound in
      let no = no_field m.head.kind h.kind k (kind-allowed d b m at s h within none holds found.0) in
      let fault =
      faultless_row d r h.kind no (access_fits o.mode h within u.0) (not_false (nat_lt (unwrap_or s.stride l.size) l.size) w.0)
      (free_first meets before span spans clear) in
      let come_in : list_all (is_harmless_at layout_of elsewhere h within) (along d [] (inside r).path) ≡ true =
      ap (list_all (is_harmless_at layout_of elsewhere h within)) (come at found.0.around) ∙ t.0 in
      let below =
      faultless_below h within (faultless within) found.0.component o.mode u.0 (inside r) (record { mode = refl; bits = λ e. refl }) elsewhere come_in in
      row_then d r (rows_in d (inside r) [] l.spans within) (rows_in d o (before ++ (span, r.access) ∷ []) spans rest) fault below
      (faultless rest b m holds k found.2 o (before ++ (span, r.access) ∷ []) spans rs come t.1 w.1 a.1
      (free_more meets before (span, r.access) spans (free_rest meets before span spans clear) a.0) u.1)

  pub below : (a : List ℕ) (c : Made) (x : Mode) (o : Around) → component d a ≡ Some c → is_sound layout_of x c.head c.parts ≡ true → IsInside x c o
      → are_harmless layout_of c.head c.parts (along d [] o.path) ≡ true → IsFaultlessBelow d x c o
  below a c x o holds sound here harmless =
      faultless_below c.head c.parts (faultless c.parts) (ap (component d) (as_found d a c holds).place ∙ holds) x sound o here elsewhere harmless

  -- nothing is inside a field, so what a field assigns leads nowhere
  harmless_in_nothing : (h : Head) (rs : List Reach) → are_harmless layout_of h no_parts rs ≡ true
  harmless_in_nothing h [] = refl
  harmless_in_nothing h (r ∷ rs) = and_both (is_harmless layout_of h no_parts r) (are_harmless layout_of h no_parts rs) (one r.path) (harmless_in_nothing h rs)
    where
      one : (path : List (List ℕ)) → is_harmless_along layout_of r.property r.value path elsewhere h no_parts ≡ true
      one [] = refl
      one (a ∷ path) = refl

  harmless_in_field : (a : List ℕ) (c : Made) → component d a ≡ Some c → c.head.kind ≡ Field → (ps : Parts) → ArePartsFound d a ps
      → (rs : List Reach) → are_harmless layout_of c.head ps rs ≡ true
  harmless_in_field a c holds k no_parts found rs = harmless_in_nothing c.head rs
  harmless_in_field a c holds k (part at s h within rest) found rs =
      absurd (nothing_in_fields h.kind (ap (λ j. may_instantiate (Some j) h.kind) (sym k) ∙ kind-allowed d a c at s h within none holds found.0))

  pub no_harm : (a : List ℕ) (c : Made) (x : Mode) → component d a ≡ Some c → is_sound layout_of x c.head c.parts ≡ true
      → are_harmless layout_of c.head c.parts (reaches d a 0 c.head.body) ≡ true
  no_harm a c x holds sound = by c.head.kind refl sound
    where
      by : (k : Kind) → c.head.kind ≡ k
          → sound_by k (are_fields_sound layout_of c.head c.parts) (is_apart_under layout_of x c.head c.parts) (are_sound layout_of (mode_inside c.head.kind (values_of c.head) x) c.parts) (are_own_harmless layout_of c.head c.parts) ≡ true
          → are_harmless layout_of c.head c.parts (reaches d a 0 c.head.body) ≡ true
      by Field e s = harmless_in_field a c holds e c.parts (parts-found d a c holds) (reaches d a 0 c.head.body)
      by Reg e s = own a c holds (both (are_fields_sound layout_of c.head c.parts) (are_own_harmless layout_of c.head c.parts) s).1
      by Addrmap e s =
          own a c holds (both (are_sound layout_of (mode_inside c.head.kind (values_of c.head) x) c.parts && is_apart_under layout_of x c.head c.parts) (are_own_harmless layout_of c.head c.parts) s).1
      by Regfile e s =
          own a c holds (both (are_sound layout_of (mode_inside c.head.kind (values_of c.head) x) c.parts && is_apart_under layout_of x c.head c.parts) (are_own_harmless layout_of c.head c.parts) s).1
