-- A component of at most 2^40 bytes is sound if it is by what is kept of layouts.
use Rattle.std.proofs.Common.{◌≡◌, ℕ, ◌^◌, ◌≤◌, max, List, [], ◌∷◌, map, Bool, true, Some, None, Option, refl, ap, sym, subst, ◌∙◌, arith}
use Rattle.std.specs.Prelude.{◌&&◌, not, nat_eq, nat_lt, nat_le, unwrap_or, if◌then◌else◌}
use Rattle.std.specs.List.{list_all}
use Rattle.std.specs.Cmp.Lexicographic.{pointwise}
use Rattle.std.proofs.lemmas.Bool.{leb-true}
use Rattle.rdl_tree.specs.Items.{Items}
use Rattle.rdl_tree.specs.declared.shell.Kind.{Kind}
use Rattle.rdl_tree.specs.declared.shell.Kind.TheVariants.{Addrmap, Regfile, Reg, Field}
use Rattle.rdl_tree.specs.declared.value.Value.{Value}
use Rattle.rdl_scope.specs.ItemFaults.{fault_of, may_instantiate}
use Rattle.rdl_scope.specs.Closed.{Head, Parts, no_parts, part, Made, component}
use Rattle.rdl_scope.proofs.AsFound.{as_found}
use Rattle.rdl_elab.specs.declared.layout.FieldBits.{FieldBits}
use Rattle.rdl_elab.specs.declared.layout.Layout.{Layout}
use Rattle.rdl_elab.specs.declared.layout.LayoutValues.{LayoutValues}
use Rattle.rdl_elab.specs.declared.layout.Member.{Member}
use Rattle.rdl_elab.specs.declared.layout.Mode.{Mode}
use Rattle.rdl_elab.specs.declared.layout.Mode.TheVariants.{Compact}
use Rattle.rdl_elab.specs.declared.layout.Placement.{Placement}
use Rattle.rdl_elab.specs.declared.layout.Span.{Span}
use Rattle.rdl_elab.specs.Bits.{bits_by, bits_of, bits_from}
use Rattle.rdl_elab.specs.Capped.{capped, capped_span}
use Rattle.rdl_elab.specs.Found.{ArePartsFound}
use Rattle.rdl_elab.specs.Layouts.{values_of, mode_inside, placement, member, container, laid_out, layouts, layout_of}
use Rattle.rdl_elab.specs.Reaches.{Reach}
use Rattle.rdl_elab.specs.Size.{end_of, greatest_end}
use Rattle.rdl_elab.specs.Start.{start_of, spans_from}
use Rattle.rdl_elab.proofs.FieldsInside.{kind-allowed}
use Rattle.rdl_elab.proofs.PartsFound.{parts-found}
use Rattle.rdl_elab.proofs.SameLevels.{bits-small}
use Rattle.sound_laws.specs.Harmless.{Spot, elsewhere, kept_layout, are_apart, field_spans, all_elsewhere, spots_by, spots_in, each_at, is_harmless_along, are_harmless}
use Rattle.sound_laws.specs.Targets.{own_assignments}
use Rattle.sound_laws.specs.Sound.{are_fields_sound_in, are_fields_sound, are_strides_wide, is_apart_under, sound_by, are_own_harmless, are_sound, is_sound}
use Rattle.sound_laws.specs.Laws.{KeptSuffices, KeptIsCautious}
use Rattle.sound_laws.specs.Search.{IsKeptWhole}
use Rattle.sound_laws.proofs.Lists.{both, and_both}
use Rattle.sound_laws.proofs.Containers.{fields_told}
use Rattle.sound_laws.proofs.Registers.{nothing_in_fields, field_there}

-- ---- Spans that are kept whole.

span_small : (s : Span) → s.start ≤ s.end → s.end ≤ 2 ^ 40 → capped_span s ≡ s
span_small s o h =
    let start : capped s.start ≡ s.start = omega (arith, o, h) in
    let end : capped s.end ≡ s.end = omega (arith, h) in
    λ i. record { start = start i; end = end i }

bits_ordered : (next width : ℕ) (range : Option (ℕ × ℕ)) → (bits_by next width range).start ≤ (bits_by next width range).end
bits_ordered next width None = omega arith
bits_ordered next width (Some range) = omega arith

bits_exact : (n next : ℕ) (fs : List FieldBits) → n ≤ 128 → list_all (λ (s : Span). nat_le s.end n) (map capped_span (bits_from next fs)) ≡ true
    → map capped_span (bits_from next fs) ≡ bits_from next fs
bits_exact n next [] small e = refl
bits_exact n next (f ∷ fs) small e =
    let s = bits_of next f in
    let t = both (nat_le (capped s.end) n) (list_all (λ (s : Span). nat_le s.end n) (map capped_span (bits_from s.end fs))) e in
    let low : capped s.end ≤ n = leb-true (capped s.end) n t.0 in
    let first = span_small s (bits_ordered next f.width f.range) (omega (arith, low, small)) in
    λ i. first i ∷ bits_exact n s.end fs small t.1 i

at_most_both : (a b n : ℕ) → max a b ≤ n → (a ≤ n) × (b ≤ n)
at_most_both a b n h = (omega (arith, h), omega (arith, h))

bytes_exact : (around : Option ℕ) (m : Mode) (end : ℕ) (ps : List Placement) → greatest_end (spans_from around m end ps) ≤ 2 ^ 40
    → map capped_span (spans_from around m end ps) ≡ spans_from around m end ps
bytes_exact around m end [] h = refl
bytes_exact around m end (p ∷ ps) h =
    let start = start_of around m end p in
    let t = at_most_both (end_of start p) (greatest_end (spans_from around m (end_of start p) ps)) (2 ^ 40) h in
    let first = span_small (record { start = start; end = end_of start p }) (omega arith) t.0 in
    λ i. first i ∷ bytes_exact around m (end_of start p) ps t.1 i

pub kept_whole : (k : Kind) (n : ℕ) → n ≤ 2 ^ 40 → IsKeptWhole k n
kept_whole Addrmap n e = e
kept_whole Regfile n e = e
kept_whole Reg n e = tt
kept_whole Field n e = tt

-- ---- Where the fields of all registers are kept whole, the same is harmless.

abbrev IsExact : Head → Parts → Type 0
IsExact h inside = spots_in kept_layout h inside ≡ spots_in layout_of h inside

abbrev AreExact : Parts → Type 0
AreExact no_parts = Unit {0}
AreExact (part at s h inside rest) = IsExact h inside × AreExact inside × AreExact rest

module _ (p : List ℕ) (v : Value) where
  same_at : (path : List (List ℕ))
      → ((spot : Spot) (h : Head) (inside : Parts) → IsExact h inside → AreExact inside → is_harmless_along kept_layout p v path spot h inside ≡ is_harmless_along layout_of p v path spot h inside)
      → (a : List ℕ) (spots : List Spot) (ps : Parts) → AreExact ps → each_at (is_harmless_along kept_layout p v path) a spots ps ≡ each_at (is_harmless_along layout_of p v path) a spots ps
  same_at path f a spots no_parts e = refl
  same_at path f a [] (part at s h inside rest) e = refl
  same_at path f a (spot ∷ spots) (part at s h inside rest) e =
      λ i. (if pointwise nat_eq a at then f spot h inside e.0 e.1 i else true) && same_at path f a spots rest e.2 i

  same_along : (path : List (List ℕ)) (spot : Spot) (h : Head) (inside : Parts) → IsExact h inside → AreExact inside
      → is_harmless_along kept_layout p v path spot h inside ≡ is_harmless_along layout_of p v path spot h inside
  same_along [] spot h inside e f = refl
  same_along (a ∷ path) spot h inside e f =
      ap (λ spots. each_at (is_harmless_along kept_layout p v path) a spots inside) e
      ∙ same_at path (same_along path) a (spots_in layout_of h inside) inside f

same_harmless : (h : Head) (inside : Parts) (rs : List Reach) → IsExact h inside → AreExact inside → are_harmless kept_layout h inside rs ≡ are_harmless layout_of h inside rs
same_harmless h inside [] e f = refl
same_harmless h inside (r ∷ rs) e f =
    λ i. same_along r.property r.value r.path elsewhere h inside e f i && same_harmless h inside rs e f i

-- ---- A component with all below it.

-- these are sound, and the fields of all registers at and below them are kept whole
record IsWhole (m : Mode) (h : Head) (inside : Parts) : Type 0 where
  sound : is_sound layout_of m h inside ≡ true
  exact : IsExact h inside
  deeper : AreExact inside

elsewhere_exact : (h : Head) (inside : Parts) (k : Kind) → h.kind ≡ k → ((spans : List Span) → spots_by k spans inside ≡ all_elsewhere inside) → IsExact h inside
elsewhere_exact h inside k e f =
    ap (λ j. spots_by j (field_spans kept_layout h inside) inside) e ∙ f (field_spans kept_layout h inside)
    ∙ sym (ap (λ j. spots_by j (field_spans layout_of h inside) inside) e ∙ f (field_spans layout_of h inside))

module _ (d : Items) (none : fault_of d ≡ None) where
  nothing_exact : (b : List ℕ) (m : Made) → component d b ≡ Some m → m.head.kind ≡ Field → (ps : Parts) → ArePartsFound d b ps → AreExact ps
  nothing_exact b m holds k no_parts found = tt
  nothing_exact b m holds k (part at s h within rest) found =
      absurd (nothing_in_fields h.kind (ap (λ j. may_instantiate (Some j) h.kind) (sym k) ∙ kind-allowed d b m at s h within none holds found.0))

  fields_exact : (b : List ℕ) (m : Made) → component d b ≡ Some m → m.head.kind ≡ Reg → (ps : Parts) → ArePartsFound d b ps → AreExact ps
  fields_exact b m holds k no_parts found = tt
  fields_exact b m holds k (part at s h within rest) found =
      let field = field_there d none b m holds at s h within k found.0 in (
        elsewhere_exact h within Field field (λ spans. refl),
        nothing_exact h.at (record { head = h; parts = within }) found.0.component field within found.1,
        fields_exact b m holds k rest found.2,
      )

  -- instances that are placed one after the other in a mode, up to 2^40
  abbrev Converts : Parts → Type 0
  Converts ps =
      (b : List ℕ) → ArePartsFound d b ps → (y : Mode) (around : Option ℕ) (end : ℕ)
      → greatest_end (spans_from around y end (map (λ (i : Member). i.placement) (map member (layouts y ps)))) ≤ 2 ^ 40
      → are_strides_wide kept_layout y ps ≡ true → are_sound kept_layout y ps ≡ true
      → (are_strides_wide layout_of y ps ≡ true) × (are_sound layout_of y ps ≡ true) × AreExact ps

  module _ (h : Head) (within : Parts) (deeper : Converts within) (holds : component d h.at ≡ Some (record { head = h; parts = within }))
      (x : Mode) (small : IsKeptWhole h.kind (layout_of x h within).size) where
    abbrev c : Made
    c = record { head = h; parts = within }

    abbrev v : LayoutValues
    v = values_of h

    abbrev y : Mode
    y = mode_inside h.kind (values_of h) x

    parts_there : ArePartsFound d h.at within
    parts_there = parts-found d h.at c holds

    own_whole : IsExact h within → AreExact within → are_own_harmless kept_layout h within ≡ true → are_own_harmless layout_of h within ≡ true
    own_whole e f o = sym (same_harmless h within (own_assignments h within) e f) ∙ o

    -- the same of a kind
    sound_as : (k : Kind) → h.kind ≡ k → sound_by k (are_fields_sound layout_of h within) (is_apart_under layout_of x h within) (are_sound layout_of y within) (are_own_harmless layout_of h within) ≡ true
        → is_sound layout_of x h within ≡ true
    sound_as k e s =
        ap (λ j. sound_by j (are_fields_sound layout_of h within) (is_apart_under layout_of x h within) (are_sound layout_of y within) (are_own_harmless layout_of h within)) e ∙ s

    register : h.kind ≡ Reg → are_fields_sound kept_layout h within ≡ true → are_own_harmless kept_layout h within ≡ true → IsWhole x h within
    register e f o =
        let n = v.regwidth in
        let ss = field_spans layout_of h within in
        let bits = bits_from 0 (map (λ (i : Member). i.bits) (map member (layouts (mode_inside h.kind v Compact) within))) in
        let are_bits : ss ≡ bits = ap (λ j. (laid_out j v (mode_inside h.kind v Compact) (map member (layouts (mode_inside h.kind v Compact) within))).spans) e in
        let ends = (fields_told n v.accesswidth (map capped_span ss) within f).ends in
        let same : map capped_span ss ≡ ss =
        ap (map capped_span) are_bits
        ∙ bits_exact n 0 (map (λ (i : Member). i.bits) (map member (layouts (mode_inside h.kind v Compact) within))) (bits-small h)
        (ap (λ ts. list_all (λ (s : Span). nat_le s.end n) (map capped_span ts)) (sym are_bits) ∙ ends)
        ∙ sym are_bits in
        let exact : IsExact h within = ap (λ ts. spots_by h.kind ts within) same in
        let deep = fields_exact h.at c holds e within parts_there in
        let fields : are_fields_sound layout_of h within ≡ true = ap (λ ts. are_fields_sound_in n v.accesswidth ts within) (sym same) ∙ f in
        record {
          sound = sound_as Reg e (and_both (are_fields_sound layout_of h within) (are_own_harmless layout_of h within) fields (own_whole exact deep o));
          exact = exact;
          deeper = deep;
        }

    filled : (k : Kind) → h.kind ≡ k → (layout_of x h within).size ≤ 2 ^ 40 → (layout_of x h within ≡ container v.alignment y (map (λ (i : Member). i.placement) (map member (layouts y within))))
        → ((spans : List Span) → spots_by k spans within ≡ all_elsewhere within)
        → ((inner apart own : Bool) → inner ≡ true → apart ≡ true → own ≡ true → sound_by k (are_fields_sound layout_of h within) apart inner own ≡ true)
        → are_sound kept_layout y within ≡ true → is_apart_under kept_layout x h within ≡ true → are_own_harmless kept_layout h within ≡ true → IsWhole x h within
    filled k e few is spots joined s a o =
        let ps = map (λ (i : Member). i.placement) (map member (layouts y within)) in
        let size : greatest_end (spans_from v.alignment y 0 ps) ≤ 2 ^ 40 = subst (λ (l : Layout). l.size ≤ 2 ^ 40) is few in
        let t = both (are_strides_wide kept_layout y within) (are_apart (map capped_span (layout_of x h within).spans)) a in
        let inner = deeper h.at parts_there y v.alignment 0 size t.0 s in
        let same : map capped_span (layout_of x h within).spans ≡ (layout_of x h within).spans =
        ap (λ (l : Layout). map capped_span l.spans) is ∙ bytes_exact v.alignment y 0 ps size ∙ sym (ap (λ (l : Layout). l.spans) is) in
        let apart : are_apart (layout_of x h within).spans ≡ true = ap are_apart (sym same) ∙ t.1 in
        let exact = elsewhere_exact h within k e spots in
        record {
          sound =
              sound_as k e
              (joined (are_sound layout_of y within) (is_apart_under layout_of x h within) (are_own_harmless layout_of h within) inner.1
              (and_both (are_strides_wide layout_of y within) (are_apart (layout_of x h within).spans) inner.0 apart) (own_whole exact inner.2 o));
          exact = exact;
          deeper = inner.2;
        }

    by_kind : (k : Kind) → h.kind ≡ k
        → sound_by k (are_fields_sound kept_layout h within) (is_apart_under kept_layout x h within) (are_sound kept_layout y within) (are_own_harmless kept_layout h within) ≡ true → IsWhole x h within
    by_kind Field e s =
        record {
          sound = sound_as Field e refl;
          exact = elsewhere_exact h within Field e (λ spans. refl);
          deeper = nothing_exact h.at c holds e within parts_there;
        }
    by_kind Reg e s =
        let t = both (are_fields_sound kept_layout h within) (are_own_harmless kept_layout h within) s in
        register e t.0 t.1
    by_kind Addrmap e s =
        let t = both (are_sound kept_layout y within && is_apart_under kept_layout x h within) (are_own_harmless kept_layout h within) s in
        let u = both (are_sound kept_layout y within) (is_apart_under kept_layout x h within) t.0 in
        filled Addrmap e (subst (λ j. IsKeptWhole j (layout_of x h within).size) e small) (ap (λ j. laid_out j v y (map member (layouts y within))) e) (λ spans. refl) (λ i a o f g j. and_both (i && a) o (and_both i a f g) j) u.0 u.1 t.1
    by_kind Regfile e s =
        let t = both (are_sound kept_layout y within && is_apart_under kept_layout x h within) (are_own_harmless kept_layout h within) s in
        let u = both (are_sound kept_layout y within) (is_apart_under kept_layout x h within) t.0 in
        filled Regfile e (subst (λ j. IsKeptWhole j (layout_of x h within).size) e small) (ap (λ j. laid_out j v y (map member (layouts y within))) e) (λ spans. refl) (λ i a o f g j. and_both (i && a) o (and_both i a f g) j) u.0 u.1 t.1

    whole : is_sound kept_layout x h within ≡ true → IsWhole x h within
    whole s = by_kind h.kind refl s

  converts : (ps : Parts) → Converts ps
  converts no_parts b found y around end small strides sound = (refl, refl, tt)
  converts (part at s h within rest) b found y around end small strides sound =
      let l = layout_of y h within in
      let p = placement (s, l) in
      let start = start_of around y end p in
      let t = at_most_both (end_of start p) (greatest_end (spans_from around y (end_of start p) (map (λ (i : Member). i.placement) (map member (layouts y rest))))) (2 ^ 40) small in
      let ended = t.0 in
      let size : l.size ≤ 2 ^ 40 = omega (arith, ended) in
      let kept : capped l.size ≡ l.size = omega (arith, size) in
      let w = both (not (nat_lt (unwrap_or s.stride (capped l.size)) (capped l.size))) (are_strides_wide kept_layout y rest) strides in
      let u = both (is_sound kept_layout y h within) (are_sound kept_layout y rest) sound in
      let one = whole h within (converts within) found.0.component y (kept_whole h.kind l.size size) u.0 in
      let more = converts rest b found.2 y around (end_of start p) t.1 w.1 u.1 in
      let wide : not (nat_lt (unwrap_or s.stride l.size) l.size) ≡ true = ap (λ n. not (nat_lt (unwrap_or s.stride n) n)) (sym kept) ∙ w.0 in (
        and_both (not (nat_lt (unwrap_or s.stride l.size) l.size)) (are_strides_wide layout_of y rest) wide more.0,
        and_both (is_sound layout_of y h within) (are_sound layout_of y rest) one.sound more.1,
        (one.exact, one.deeper, more.2),
      )

from_kept : (k : Kind) (n : ℕ) → IsKeptWhole k (capped n) → IsKeptWhole k n
from_kept Addrmap n e = omega (arith, e)
from_kept Regfile n e = omega (arith, e)
from_kept Reg n e = tt
from_kept Field n e = tt

to_kept : (k : Kind) (n : ℕ) → IsKeptWhole k n → IsKeptWhole k (capped n)
to_kept Addrmap n e = omega (arith, e)
to_kept Regfile n e = omega (arith, e)
to_kept Reg n e = tt
to_kept Field n e = tt

pub kept_suffices : KeptSuffices
kept_suffices d a c m none holds small sound =
    let there = ap (component d) (as_found d a c holds).place ∙ holds in
    let w = whole d none c.head c.parts (converts d none c.parts) there m (from_kept c.head.kind (layout_of m c.head c.parts).size small) sound in
    record { sound = w.sound; harmless = λ rs. same_harmless c.head c.parts rs w.exact w.deeper }

pub kept_is_cautious : KeptIsCautious
kept_is_cautious d none m c coming holds small e =
    let t = both (is_sound kept_layout m c.head c.parts) (are_harmless kept_layout c.head c.parts coming) e in
    let told = kept_suffices d c.head.at c m none holds (to_kept c.head.kind (layout_of m c.head c.parts).size small) t.0 in
    and_both (is_sound layout_of m c.head c.parts) (are_harmless layout_of c.head c.parts coming) told.sound (sym (told.harmless coming) ∙ t.1)
