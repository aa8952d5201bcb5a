-- The rows of the instances of an address map or a register file, by what is seen of their components.
use Rattle.std.proofs.Common.{◌≡◌, ℕ, ◌*◌, ◌^◌, ◌≤◌, ◌<◌, ◌/◌, List, [], ◌∷◌, ◌++◌, map, Bool, true, false, Some, None, Option, ◌⊎◌, inl, inr, refl, ap, sym, subst, ◌∙◌, arith}
use Rattle.std.specs.Prelude.{◌&&◌, ◌||◌, ◌==◌, not, nat_lt, unwrap_or, if◌then◌else◌}
use Rattle.std.specs.List.{list_all, list_any}
use Rattle.std.specs.Option.{option_or}
use Rattle.std.proofs.lemmas.Bool.{ltb-true, ltb-false, lt-ltb, le-ltb}
use Rattle.std.proofs.lemmas.Map.Views.{exact_unsigned_eq}
use Rattle.rdl_tree.specs.Items.{Items}
use Rattle.rdl_tree.specs.Properties.{has_form}
use Rattle.rdl_tree.specs.declared.property.Form.TheVariants.{Widths}
use Rattle.rdl_tree.specs.declared.property.Property.TheVariants.{Regwidth, Accesswidth}
use Rattle.rdl_tree.specs.declared.shell.Kind.{Kind}
use Rattle.rdl_tree.specs.declared.shell.Kind.TheVariants.{Addrmap, Regfile, Reg, Field}
use Rattle.rdl_tree.specs.declared.shell.Shell.{Shell}
use Rattle.rdl_tree.specs.declared.value.Value.{Value}
use Rattle.rdl_tree.specs.declared.value.Value.TheVariants as value
use Rattle.rdl_tree.specs.declared.fault.FaultKind.TheVariants.{AccessTooWide, StrideTooSmall, AddressOverlap}
use Rattle.rdl_scope.specs.Target.{body_of}
use Rattle.rdl_scope.specs.ItemFaults.{first_of, fault_of}
use Rattle.rdl_scope.specs.Closed.{Head, Parts, no_parts, part, Made, component, head_value}
use Rattle.rdl_elab.specs.declared.layout.Mode.{Mode}
use Rattle.rdl_elab.specs.declared.layout.Mode.TheVariants.{Compact, Regalign, Fullalign}
use Rattle.rdl_elab.specs.declared.layout.Span.{Span}
use Rattle.rdl_elab.specs.Capped.{capped}
use Rattle.rdl_elab.specs.Found.{IsPartFound, ArePartsFound}
use Rattle.rdl_elab.specs.Layouts.{width_in, number_in, values_of, mode_inside, member, laid_out, layouts, layout_of}
use Rattle.rdl_elab.specs.Rows.{Around, Judged, judged_row, inside, rows_in}
use Rattle.rdl_elab.specs.Faults.{overlap, overlaps_one, kind_fault, row_fault, first_row_fault}
use Rattle.rdl_elab.specs.Reaches.{Reach, behind, along}
use Rattle.rdl_elab.proofs.FieldsInside.{kind-allowed}
use Rattle.rdl_elab.proofs.Fitting.{BytesFit, OneFits, Fit}
use Rattle.rdl_elab.proofs.SameLevels.{bits-small}
use Rattle.rdl_seen.specs.declared.seen.Seen.{Seen}
use Rattle.rdl_seen.specs.declared.seen.ByMode.{ByMode}
use Rattle.rdl_seen.specs.Layouts as lay
use Rattle.rdl_seen.specs.Layouts.{overlaps, is_stride_wide, sizes, accesses}
use Rattle.rdl_seen.specs.Modes.{number_under}
use Rattle.node_laws.specs.Laid.{seen_span}
use Rattle.node_laws.specs.Meant.{IsSeen}
use Rattle.node_laws.specs.Modes.{seen_mode}
use Rattle.node_laws.specs.Seen.{layouts_seen}
use Rattle.sound_laws.specs.Harmless.{kept_layout, are_apart, are_harmless}
use Rattle.sound_laws.specs.Search.{IsKeptWhole}
use Rattle.sound_laws.specs.Sound.{are_strides_wide}
use Rattle.sound_laws.proofs.Containers.{is_container, no_field, meets}
use Rattle.sound_laws.proofs.Kept.{kept_whole}
use Rattle.sound_laws.proofs.Lists.{both, not_false, free, free_first, free_rest, free_more}
use Rattle.sound_nodes.specs.declared.found.Found.{Found}
use Rattle.sound_nodes.specs.Instances.{SeenInstance}
use Rattle.sound_nodes.specs.Rows.{is_access_wide, seen_fault, seen_row, rows}
use Rattle.sound_nodes.proofs.Coming.{go_on, passes_on}
use Rattle.sound_nodes.proofs.Soundness.{size-under, one-stride}
use Rattle.sound_nodes.proofs.Telling.{Tells, row-tells, here-tells, map-more}
use Rattle.sound_nodes.proofs.Walked.{IsSeenPart, AreSeenParts}

-- ---- Widths of registers.

abbrev Eights : ℕ → Type 0
Eights n = (k : ℕ) × (n ≡ k * 8)

eight-of : (n : ℕ) → (n == 8 || n == 16 || n == 32 || n == 64 || n == 128) ≡ true → Eights n
eight-of n e = first (n == 8) refl e
  where
    fifth : (b : Bool) → (n == 128) ≡ b → b ≡ true → (k : ℕ) × (n ≡ k * 8)
    fifth true is g = (16, exact_unsigned_eq n 128 is)
    fifth false is g = absurd cc

    fourth : (b : Bool) → (n == 64) ≡ b → (b || n == 128) ≡ true → (k : ℕ) × (n ≡ k * 8)
    fourth true is g = (8, exact_unsigned_eq n 64 is)
    fourth false is g = fifth (n == 128) refl g

    third : (b : Bool) → (n == 32) ≡ b → (b || n == 64 || n == 128) ≡ true → (k : ℕ) × (n ≡ k * 8)
    third true is g = (4, exact_unsigned_eq n 32 is)
    third false is g = fourth (n == 64) refl g

    second : (b : Bool) → (n == 16) ≡ b → (b || n == 32 || n == 64 || n == 128) ≡ true → (k : ℕ) × (n ≡ k * 8)
    second true is g = (2, exact_unsigned_eq n 16 is)
    second false is g = third (n == 32) refl g

    first : (b : Bool) → (n == 8) ≡ b → (b || n == 16 || n == 32 || n == 64 || n == 128) ≡ true → (k : ℕ) × (n ≡ k * 8)
    first true is g = (1, exact_unsigned_eq n 8 is)
    first false is g = second (n == 16) refl g

width-eights : (o : Option ℕ) → Eights (width_in o)
width-eights None = (0, refl)
width-eights (Some n) = by (has_form Widths (value.Number n)) refl
  where
    by : (b : Bool) → has_form Widths (value.Number n) ≡ b → (k : ℕ) × ((if b then n else 0) ≡ k * 8)
    by true e = eight-of n e
    by false e = (0, refl)

same-order : (n m j k : ℕ) → n ≡ j * 8 → m ≡ k * 8 → n ≤ 128 → nat_lt (capped (n / 8)) (m / 8) ≡ nat_lt n m
same-order n m j k e g small = by (nat_lt n m) refl
  where
    left : n / 8 ≡ j
    left = omega (arith, e)

    right : m / 8 ≡ k
    right = omega (arith, g)

    by : (b : Bool) → nat_lt n m ≡ b → nat_lt (capped (n / 8)) (m / 8) ≡ b
    by true is = let less : n < m = ltb-true n m is in lt-ltb (capped (n / 8)) (m / 8) (omega (arith, left, right, e, g, less))
    by false is = let most : m ≤ n = ltb-false n m is in le-ltb (capped (n / 8)) (m / 8) (omega (arith, left, right, e, g, most, small))

-- ---- One row.

access-under : (m : Mode) (h : Head) (within : Parts) → number_under (accesses (layouts_seen (record { head = h; parts = within }))) (seen_mode m) ≡ (kept_layout m h within).access
unfolding layouts_seen
access-under Compact h within = refl
access-under Regalign h within = refl
access-under Fullalign h within = refl

unless-apart : (apart x : Bool) → (apart ≡ true → x ≡ false) → (not apart && x) ≡ x
unless-apart true x f = sym (f refl)
unless-apart false x f = refl

not-not : (b : Bool) → not (not b) ≡ b
not-not true = refl
not-not false = refl

same-overlaps : (span : Span) (before : List (Span × Option Value)) → list_any (overlaps (seen_span span)) (map (λ (b : Span × Option Value). seen_span b.0) before) ≡ overlaps_one span before
same-overlaps span [] = refl
same-overlaps span (b ∷ before) = ap (λ z. overlap span b.0 || z) (same-overlaps span before)

module _ (d : Items) (r : Judged) (m : Mode) (h : Head) (within : Parts) (z : Seen) (is : IsSeen (record { head = h; parts = within }) z) (head : r.head ≡ h) (size : r.size ≡ (layout_of m h within).size)
    (whole : (layout_of m h within).size ≤ 2 ^ 40) (not_field : h.kind ≡ Field → ⊥) (apart : Bool)
    (wide : apart ≡ true → nat_lt (unwrap_or r.shell.stride r.size) r.size ≡ false) (lies : apart ≡ true → overlaps_one r.span r.before ≡ false) where
  abbrev z_size : ℕ
  z_size = number_under z.size (seen_mode m)

  size-is : z_size ≡ r.size
  size-is =
      ap (λ (n : ByMode). number_under n (seen_mode m)) is.size ∙ size-under m h within
      ∙ (let small : (layout_of m h within).size ≤ 2 ^ 40 = whole in let e : capped (layout_of m h within).size ≡ (layout_of m h within).size = omega (arith, small) in e) ∙ sym size

  stride-is : (not apart && not (is_stride_wide z_size r.shell.stride)) ≡ nat_lt (unwrap_or r.shell.stride r.size) r.size
  stride-is =
      ap (λ n. not apart && not (is_stride_wide n r.shell.stride)) size-is
      ∙ ap (λ b. not apart && not b) (one-stride r.size r.shell.stride) ∙ ap (λ b. not apart && b) (not-not (nat_lt (unwrap_or r.shell.stride r.size) r.size))
      ∙ unless-apart apart (nat_lt (unwrap_or r.shell.stride r.size) r.size) wide

  abbrev firsts : List lay.Span
  firsts = map (λ (b : Span × Option Value). seen_span b.0) r.before

  overlap-is : (not apart && list_any (overlaps (seen_span r.span)) firsts) ≡ overlaps_one r.span r.before
  overlap-is = ap (λ b. not apart && b) (same-overlaps r.span r.before) ∙ unless-apart apart (overlaps_one r.span r.before) lies

  wide-is : h.kind ≡ Reg → nat_lt z_size (number_under z.widest (seen_mode m)) ≡ nat_lt (values_of r.head).regwidth (values_of r.head).accesswidth
  wide-is reg =
      let v = values_of h in
      let y = mode_inside h.kind v m in
      let laid : layout_of m h within ≡ laid_out Reg v y (map member (layouts y within)) = ap (λ k. laid_out k v y (map member (layouts y within))) reg in
      let bytes : z_size ≡ capped (v.regwidth / 8) = ap (λ (n : ByMode). number_under n (seen_mode m)) is.size ∙ size-under m h within ∙ ap (λ l. capped l.size) laid in
      let access : number_under z.widest (seen_mode m) ≡ v.accesswidth / 8 =
      ap (λ (n : ByMode). number_under n (seen_mode m)) is.widest ∙ access-under m h within ∙ ap (λ l. l.access) laid in
      let register = width-eights (number_in (head_value h Regwidth)) in
      let least = width-eights (number_in (head_value h Accesswidth)) in
      (λ i. nat_lt (bytes i) (access i)) ∙ eights register least
      ∙ ap (λ (g : Head). nat_lt (values_of g).regwidth (values_of g).accesswidth) (sym head)
    where
      eights : (k : ℕ) × ((values_of h).regwidth ≡ k * 8) → (k : ℕ) × ((values_of h).accesswidth ≡ k * 8) → nat_lt (capped ((values_of h).regwidth / 8)) ((values_of h).accesswidth / 8) ≡ nat_lt (values_of h).regwidth (values_of h).accesswidth
      eights a b = same-order (values_of h).regwidth (values_of h).accesswidth a.0 b.0 a.1 b.1 (bits-small h)

  fault-by : (k : Kind) → h.kind ≡ k
      → first_of ((is_access_wide (seen_mode m) z k, AccessTooWide) ∷ (nat_lt (unwrap_or r.shell.stride r.size) r.size, StrideTooSmall) ∷ (overlaps_one r.span r.before, AddressOverlap) ∷ [])
      ≡ kind_fault k d r
  fault-by Addrmap e = refl
  fault-by Regfile e = refl
  fault-by Reg e = ap (λ b. first_of ((b, AccessTooWide) ∷ (nat_lt (unwrap_or r.shell.stride r.size) r.size, StrideTooSmall) ∷ (overlaps_one r.span r.before, AddressOverlap) ∷ [])) (wide-is e)
  fault-by Field e = absurd (not_field e)

  pub fault-is : kind_fault r.head.kind d r ≡ seen_fault apart (seen_mode m) firsts (seen_span r.span) r.shell z
  fault-is =
      ap (λ (g : Head). kind_fault g.kind d r) head ∙ sym (fault-by h.kind refl)
      ∙ (λ i. first_of ((is_access_wide (seen_mode m) z (sym is.kind i), AccessTooWide) ∷ (sym stride-is i, StrideTooSmall) ∷ (sym overlap-is i, AddressOverlap) ∷ []))

-- ---- All of them.

room-of : (m : Mode) (span : Span) (h : Head) (within : Parts) → OneFits m 0 span h within → (h.kind ≡ Field → ⊥) → (layout_of m h within).size ≤ 2 ^ 40
room-of m span h within fits not_field = by fits.bytes
  where
    by : ((h.kind ≡ Field) ⊎ BytesFit m 0 span h within) → (layout_of m h within).size ≤ 2 ^ 40
    by (inl e) = absurd (not_field e)
    by (inr f) = omega (arith, f.holds, f.room)

-- the instances are known to lie apart from each other and from those before them, with no stride that is too small
pub record LieApart (o : Around) (before : List (Span × Option Value)) (places : List Span) (ps : Parts) : Type 0 where
  pub strides : are_strides_wide kept_layout o.mode ps ≡ true
  pub spans : are_apart places ≡ true
  pub clear : free meets before places ≡ true

-- this is told of what is below each instance of the body at b, to which nothing harmful comes
abbrev pub TellsBelow : Items → List ℕ → Around → (SeenInstance → Seen → Found) → Type 0
TellsBelow d b o below =
    (x : SeenInstance) (z : Seen) (at : List ℕ) (s : Shell) (h : Head) (within : Parts) (before : List (Span × Option Value)) (span : Span)
    → IsSeenPart b x at s h within → IsSeen (record { head = h; parts = within }) z → IsPartFound d b at s h within → IsKeptWhole h.kind (layout_of o.mode h within).size
    → are_harmless kept_layout h within (along d [] (o.path ++ at ∷ [])) ≡ true
    → Tells (below x z) (first_row_fault d (rows_in d (inside (judged_row d o before span at s h (layout_of o.mode h within))) [] (layout_of o.mode h within).spans within))

module _ (d : Items) (none : fault_of d ≡ None) (b : List ℕ) (m : Made) (holds : component d b ≡ Some m) (container : is_container m.head.kind ≡ true) (o : Around)
    (below : SeenInstance → Seen → Found) (told : TellsBelow d b o below) (apart : Bool) (rs : List Reach) (come : (at : List ℕ) → body_of at ≡ b → along d [] (o.path ++ at ∷ []) ≡ behind at rs) where
  abbrev seen_firsts : List (Span × Option Value) → List lay.Span
  seen_firsts before = map (λ (f : Span × Option Value). seen_span f.0) before

  pub rows-tell : (ps : Parts) → ArePartsFound d b ps → (xs : List SeenInstance) → AreSeenParts b xs ps → (before : List (Span × Option Value)) (spans : List Span) → Fit o.mode 0 spans ps
      → go_on ps rs ≡ true → (apart ≡ true → LieApart o before spans ps)
      → Tells (rows below b apart (seen_mode o.mode) (seen_firsts before) (map seen_span spans) xs) (first_row_fault d (rows_in d o before spans ps))
  rows-tell no_parts found [] seen before [] fits go lie = refl
  rows-tell no_parts found [] seen before (span ∷ spans) fits go lie = refl
  rows-tell no_parts found (x ∷ xs) seen before spans fits go lie = absurd seen
  rows-tell (part at s h within rest) found [] seen before spans fits go lie = absurd seen
  rows-tell (part at s h within rest) found (x ∷ xs) seen before [] fits go lie = refl
  rows-tell (part at s h within rest) found (x ∷ xs) seen before (span ∷ spans) fits go lie =
      let l = layout_of o.mode h within in
      let r = judged_row d o before span at s h l in
      let not_field = no_field m.head.kind h.kind container (kind-allowed d b m at s h within none holds found.0) in
      let pass = passes_on at s h within rest rs go in
      let whole = room-of o.mode span h within fits.0 not_field in
      let comes : are_harmless kept_layout h within (along d [] (o.path ++ at ∷ [])) ≡ true = ap (are_harmless kept_layout h within) (come at found.0.around) ∙ pass.0 in
      let strides = λ (e : apart ≡ true). both (not (nat_lt (unwrap_or s.stride (kept_layout o.mode h within).size) (kept_layout o.mode h within).size)) (are_strides_wide kept_layout o.mode rest) (lie e).strides in
      let kept : (kept_layout o.mode h within).size ≡ l.size = omega (arith, whole) in
      let spans_apart = λ (e : apart ≡ true). both (list_all (λ t. not (overlap t span)) spans) (are_apart spans) (lie e).spans in
      let wide = λ (e : apart ≡ true). not_false (nat_lt (unwrap_or s.stride l.size) l.size) (ap (λ n. not (nat_lt (unwrap_or s.stride n) n)) (sym kept) ∙ (strides e).0) in
      let lies = λ (e : apart ≡ true). free_first meets before span spans (lie e).clear in
      row-tells d r (rows_in d (inside r) [] l.spans within) (rows_in d o (before ++ (span, r.access) ∷ []) spans rest)
      (seen_row below b apart (seen_mode o.mode) (seen_firsts before) (seen_span span) x x.seen)
      (rows below b apart (seen_mode o.mode) (seen_firsts before ++ seen_span span ∷ []) (map seen_span spans) xs)
      (by x.seen refl whole not_field comes wide lies)
      (subst (λ zs. Tells (rows below b apart (seen_mode o.mode) zs (map seen_span spans) xs) (first_row_fault d (rows_in d o (before ++ (span, r.access) ∷ []) spans rest)))
      (sym (map-more (λ (f : Span × Option Value). seen_span f.0) before (span, r.access)))
      (rows-tell rest found.2 xs seen.1 (before ++ (span, r.access) ∷ []) spans fits.1 pass.1
      (λ e. record {
        strides = (strides e).1;
        spans = (spans_apart e).1;
        clear = free_more meets before (span, r.access) spans (free_rest meets before span spans (lie e).clear) (spans_apart e).0;
      })))
    where
      by : (o' : Option Seen) → x.seen ≡ o' → (layout_of o.mode h within).size ≤ 2 ^ 40 → (h.kind ≡ Field → ⊥) → are_harmless kept_layout h within (along d [] (o.path ++ at ∷ [])) ≡ true
          → (apart ≡ true → nat_lt (unwrap_or s.stride (layout_of o.mode h within).size) (layout_of o.mode h within).size ≡ false) → (apart ≡ true → overlaps_one span before ≡ false)
          → Tells (seen_row below b apart (seen_mode o.mode) (seen_firsts before) (seen_span span) x o')
          (option_or (row_fault d (judged_row d o before span at s h (layout_of o.mode h within)))
          (first_row_fault d (rows_in d (inside (judged_row d o before span at s h (layout_of o.mode h within))) [] (layout_of o.mode h within).spans within)))
      by None is whole not_field comes wide lies = tt
      by (Some z) is whole not_field comes wide lies =
          let l = layout_of o.mode h within in
          let r = judged_row d o before span at s h l in
          let part_seen : IsSeenPart b x at s h within = seen.0 in
          let z_is = part_seen.seen z is in
          here-tells d r (b ++ x.number ∷ []) (seen_fault apart (seen_mode o.mode) (seen_firsts before) (seen_span span) x.shell z) (below x z) (first_row_fault d (rows_in d (inside r) [] l.spans within))
          part_seen.place
          (fault-is d r o.mode h within z z_is refl refl whole not_field apart wide lies ∙ ap (λ t. seen_fault apart (seen_mode o.mode) (seen_firsts before) (seen_span span) t z) (sym part_seen.shell))
          (λ clear. told x z at s h within before span part_seen z_is found.0 (kept_whole h.kind l.size whole) comes)
