-- The rows and the faults of what is kept are those of the components themselves.
use Rattle.std.proofs.Common.{◌≡◌, ℕ, ◌^◌, ◌≤◌, ◌<◌, Bool, true, false, List, [], ◌∷◌, map, Option, Some, None, refl, ap, sym, ◌∙◌, arith, ◌⊎◌, inl, inr}
use Rattle.std.specs.Prelude.{nat_lt, not, ◌&&◌, ◌||◌, unwrap_or, if◌then◌else◌}
use Rattle.std.specs.List.{list_any}
use Rattle.std.proofs.lemmas.Bool.{cases_lt, lt-ltb, le-ltb, ltb-false}
use Rattle.rdl_tree.specs.Items.{Items}
use Rattle.rdl_tree.specs.Properties.{properties}
use Rattle.rdl_tree.specs.declared.shell.Kind.{Kind}
use Rattle.rdl_tree.specs.declared.shell.Kind.TheVariants.{Addrmap, Regfile, Reg, Field}
use Rattle.rdl_tree.specs.declared.shell.Shell.{Shell}
use Rattle.rdl_tree.specs.declared.value.Value.{Value}
use Rattle.rdl_tree.specs.declared.property.Property.{Property}
use Rattle.rdl_tree.specs.declared.property.Property.TheVariants.{Sw, Reset}
use Rattle.rdl_tree.specs.declared.fault.FaultKind.{FaultKind}
use Rattle.rdl_tree.specs.declared.fault.FaultKind.TheVariants.{AccessTooWide, StrideTooSmall, AddressOverlap, FieldPastRegister, FieldOverlap, ResetTooWide}
use Rattle.rdl_scope.specs.ItemFaults.{first_of}
use Rattle.rdl_scope.specs.Closed.{Head, Parts}
use Rattle.rdl_elab.specs.declared.layout.Span.{Span}
use Rattle.rdl_elab.specs.declared.layout.Layout.{Layout}
use Rattle.rdl_elab.specs.declared.rows.siblings.Sibling.{Sibling}
use Rattle.rdl_elab.specs.Layouts.{values_of, number_in, layout_of}
use Rattle.rdl_elab.specs.Capped.{capped, capped_span}
use Rattle.rdl_elab.specs.Rows.{row_value, row_values, location_of, base_of, Around, Judged, judged_row}
use Rattle.rdl_elab.specs.Faults.{overlap, overlaps_one, is_read_only, is_write_only, may_share, clashes, is_reset_too_wide, reset_of, kind_fault}
use Rattle.rdl_elab.specs.FinishedRows.{finished_base, seen, share, overlaps_before, clashes_before, extent_fault, finished_fault}
use Rattle.rdl_elab.specs.Reaches.{value_under}
use Rattle.rdl_elab.proofs.Names.{all-named}
use Rattle.rdl_elab.proofs.RowsAlong.{under-among}
use Rattle.rdl_elab.proofs.Fitting.{BytesFit, OneFits}

-- an earlier sibling, whose span is exact
abbrev pub sibling_of : Span × Option Value → Sibling
sibling_of b = record { span = b.0; is_read_only = is_read_only b.1; is_write_only = is_write_only b.1 }

capped-small : (n : ℕ) → n ≤ 2 ^ 40 → capped n ≡ n
capped-small n h = omega arith

span-small : (s : Span) → s.start ≤ s.end → s.end ≤ 2 ^ 40 → capped_span s ≡ s
span-small s o h = λ i. record { start = capped-small s.start (omega (arith, o, h)) i; end = capped-small s.end h i }

-- the end of a span is past a register in the kept span too
past-same : (bits : ℕ) (s : Span) → bits ≤ 128 → nat_lt bits (capped_span s).end ≡ nat_lt bits s.end
past-same bits s h = by_order (cases_lt bits s.end)
  where
    by_order : ((bits < s.end) ⊎ (s.end ≤ bits)) → nat_lt bits (capped s.end) ≡ nat_lt bits s.end
    by_order (inl l) = lt-ltb bits (capped s.end) (omega (arith, l, h)) ∙ sym (lt-ltb bits s.end l)
    by_order (inr g) = le-ltb bits (capped s.end) (omega (arith, g, h)) ∙ sym (le-ltb bits s.end g)

any-same : {X Y : Type 0} (f : X → Y) (p : Y → Bool) (q : X → Bool) → ((x : X) → p (f x) ≡ q x) → (xs : List X) → list_any p (map f xs) ≡ list_any q xs
any-same f p q h [] = refl
any-same f p q h (x ∷ xs) = λ i. h x i || any-same f p q h xs i

overlaps-same : (s : Span) (before : List (Span × Option Value)) → overlaps_before s (map sibling_of before) ≡ overlaps_one s before
overlaps-same s before = any-same sibling_of (λ (b : Sibling). overlap s b.span) (λ b. overlap s b.0) (λ b. refl) before

clashes-same : (s : Span) (access : Option Value) (before : List (Span × Option Value))
    → clashes_before (sibling_of (s, access)) (map sibling_of before) ≡ clashes s access before
clashes-same s access before = any-same sibling_of (λ (b : Sibling). overlap s b.span && not (share (sibling_of (s, access)) b)) (λ b. overlap s b.0 && not (may_share access b.1)) (λ b. refl) before

pub some-none : {X : Type 0} {x : X} → Some x ≡ None → ⊥
some-none e = cc

if-first : (t : Bool) (k : FaultKind) (x : Option FaultKind) (xs : List (Bool × FaultKind)) → x ≡ first_of xs → (if t then Some k else x) ≡ first_of ((t, k) ∷ xs)
if-first true k x xs h = refl
if-first false k x xs h = h

module _ (d : Items) where
  -- the values of a row under a property
  pub value-under : (path : List (List ℕ)) (h : Head) (p : Property) → value_under p (row_values d path h) ≡ row_value d path h p
  value-under path h p = under-among (row_value d path h) p properties ∙ ap (λ t. if t then row_value d path h p else None) (all-named p)

  pub seen-same : (path : List (List ℕ)) (h : Head) (span : Span) → seen span (row_values d path h) ≡ sibling_of (span, row_value d path h Sw)
  seen-same path h span = λ i. record { span = span; is_read_only = is_read_only (value-under path h Sw i); is_write_only = is_write_only (value-under path h Sw i) }

  module _ (a : Around) (before : List (Span × Option Value)) (span : Span) (at : List ℕ) (s : Shell) (h : Head) (within : Parts) where
    abbrev l : Layout
    l = layout_of a.mode h within

    abbrev r : Judged
    r = judged_row d a before span at s h l

    abbrev kept_kind_fault : Kind → Span → ℕ → Option FaultKind
    kept_kind_fault k sp size = finished_fault k (values_of h) a.bits s size (seen sp r.row.values) (map sibling_of before) r.row.values

    -- exact numbers have the same faults
    clash-same : clashes_before (seen span r.row.values) (map sibling_of before) ≡ clashes span r.access before
    clash-same = ap (λ x. clashes_before x (map sibling_of before)) (seen-same r.path h span) ∙ clashes-same span r.access before

    reset-same : is_reset_too_wide (number_in (value_under Reset r.row.values)) span ≡ is_reset_too_wide (reset_of d r) span
    reset-same = ap (λ v. is_reset_too_wide (number_in v) span) (value-under r.path h Reset)

    extent-same : extent_fault s l.size span (map sibling_of before) ≡ first_of ((nat_lt (unwrap_or s.stride l.size) l.size, StrideTooSmall) ∷ (overlaps_one span before, AddressOverlap) ∷ [])
    extent-same = λ i. first_of ((nat_lt (unwrap_or s.stride l.size) l.size, StrideTooSmall) ∷ (overlaps-same span before i, AddressOverlap) ∷ [])

    exact-fault : (k : Kind) → kept_kind_fault k span l.size ≡ kind_fault k d r
    exact-fault Field = λ i. first_of ((nat_lt a.bits span.end, FieldPastRegister) ∷ (clash-same i, FieldOverlap) ∷ (reset-same i, ResetTooWide) ∷ [])
    exact-fault Reg =
        if-first (nat_lt (values_of h).regwidth (values_of h).accesswidth) AccessTooWide (extent_fault s l.size span (map sibling_of before))
        ((nat_lt (unwrap_or s.stride l.size) l.size, StrideTooSmall) ∷ (overlaps_one span before, AddressOverlap) ∷ []) extent-same
    exact-fault Regfile = extent-same
    exact-fault Addrmap = extent-same

    -- the bytes of a row are kept as they are
    bytes-exact : BytesFit a.mode a.base span h within → (capped_span span ≡ span) × (capped l.size ≡ l.size)
    bytes-exact f = (span-small span (omega (arith, f.holds)) (omega (arith, f.room)), capped-small l.size (omega (arith, f.holds, f.room)))

    -- a field that ends in its register too
    field-exact : a.bits ≤ 128 → span.start ≤ span.end → nat_lt a.bits span.end ≡ false → capped_span span ≡ span
    field-exact b o e = span-small span o (omega (arith, b, ltb-false a.bits span.end e))

    abbrev kept_rest : List (Bool × FaultKind)
    kept_rest =
        (clashes_before (seen (capped_span span) r.row.values) (map sibling_of before), FieldOverlap)
        ∷ (is_reset_too_wide (number_in (value_under Reset r.row.values)) (capped_span span), ResetTooWide)
        ∷ []

    abbrev rest : List (Bool × FaultKind)
    rest = (clashes span r.access before, FieldOverlap) ∷ (is_reset_too_wide (reset_of d r) span, ResetTooWide) ∷ []

    field-fault : a.bits ≤ 128 → span.start ≤ span.end → kept_kind_fault Field (capped_span span) (capped l.size) ≡ kind_fault Field d r
    field-fault b o = by_past (nat_lt a.bits span.end) refl
      where
        by_past : (t : Bool) → nat_lt a.bits span.end ≡ t → kept_kind_fault Field (capped_span span) (capped l.size) ≡ kind_fault Field d r
        by_past true e =
            ap (λ t. first_of ((t, FieldPastRegister) ∷ kept_rest)) (past-same a.bits span b ∙ e) ∙ sym (ap (λ t. first_of ((t, FieldPastRegister) ∷ rest)) e)
        by_past false e = ap (λ sp. kept_kind_fault Field sp l.size) (field-exact b o e) ∙ exact-fault Field

    bytes-fault : (k : Kind) → BytesFit a.mode a.base span h within → kept_kind_fault k (capped_span span) (capped l.size) ≡ kind_fault k d r
    bytes-fault k f = (λ i. kept_kind_fault k ((bytes-exact f).0 i) ((bytes-exact f).1 i)) ∙ exact-fault k

    -- the faults of a row
    pub fault-same : a.bits ≤ 128 → OneFits a.mode a.base span h within → kept_kind_fault h.kind (capped_span span) (capped l.size) ≡ kind_fault h.kind d r
    fault-same b f = by_kind f.bytes
      where
        by_kind : ((h.kind ≡ Field) ⊎ BytesFit a.mode a.base span h within) → kept_kind_fault h.kind (capped_span span) (capped l.size) ≡ kind_fault h.kind d r
        by_kind (inl e) = ap (λ k. kept_kind_fault k (capped_span span) (capped l.size)) e ∙ field-fault b f.ordered ∙ ap (λ k. kind_fault k d r) (sym e)
        by_kind (inr g) = bytes-fault h.kind g

    -- without a fault the span is exact
    pub span-exact : a.bits ≤ 128 → OneFits a.mode a.base span h within → kind_fault h.kind d r ≡ None → capped_span span ≡ span
    span-exact b f n = by_kind f.bytes
      where
        by_past : (t : Bool) → nat_lt a.bits span.end ≡ t → kind_fault Field d r ≡ None → capped_span span ≡ span
        by_past true e m = absurd (some-none (sym (ap (λ t. first_of ((t, FieldPastRegister) ∷ rest)) e) ∙ m))
        by_past false e m = field-exact b f.ordered e

        by_kind : ((h.kind ≡ Field) ⊎ BytesFit a.mode a.base span h within) → capped_span span ≡ span
        by_kind (inl e) = by_past (nat_lt a.bits span.end) refl (sym (ap (λ k. kind_fault k d r) e) ∙ n)
        by_kind (inr g) = (bytes-exact g).0

    -- where the span is exact, so is the row's place
    pub location-same : capped_span span ≡ span → ((h.kind ≡ Field) ⊎ BytesFit a.mode a.base span h within) → location_of h.kind s (capped_span span) (capped l.size) ≡ location_of h.kind s span l.size
    location-same e (inl f) = ap (λ k. location_of k s (capped_span span) (capped l.size)) f ∙ ap (λ sp. location_of Field s sp l.size) e ∙ ap (λ k. location_of k s span l.size) (sym f)
    location-same e (inr g) = λ i. location_of h.kind s (e i) ((bytes-exact g).1 i)

    base-kind : (k : Kind) → BytesFit a.mode a.base span h within → finished_base k a.base span ≡ base_of k a.base span
    base-kind Field g = refl
    base-kind Addrmap g = omega (arith, g.holds, g.room)
    base-kind Regfile g = omega (arith, g.holds, g.room)
    base-kind Reg g = omega (arith, g.holds, g.room)

    pub base-same : capped_span span ≡ span → ((h.kind ≡ Field) ⊎ BytesFit a.mode a.base span h within) → finished_base h.kind a.base (capped_span span) ≡ base_of h.kind a.base span
    base-same e (inl f) = ap (λ k. finished_base k a.base (capped_span span)) f ∙ ap (λ k. base_of k a.base span) (sym f)
    base-same e (inr g) = ap (finished_base h.kind a.base) e ∙ base-kind h.kind g
