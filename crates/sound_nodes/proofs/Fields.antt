-- A register whose fields are sound by what is kept of them is sound.
use Rattle.std.proofs.Common.{◌≡◌, ℕ, zero, suc, ◌-◌, ◌*◌, ◌^◌, ◌<◌, ◌≤◌, Bool, true, false, List, [], ◌∷◌, map, Option, Some, None, option_map, refl, sym, ap, subst, ◌∙◌, arith}
use Rattle.std.specs.Prelude.{◌&&◌, ◌||◌, not, nat_le, nat_lt, option_and_then, if◌then◌else◌}
use Rattle.std.specs.List.{list_all}
use Rattle.std.specs.Int.{leading_zeros, w128}
use Rattle.std.specs.Option.{option_or}
use Rattle.std.proofs.Math.Pow.{pow_mono}
use Rattle.std.proofs.Math.Nat.{pow-suc}
use Rattle.std.proofs.lemmas.Bool.{ltb-true, leb-true, lt-leb}
use Rattle.std.proofs.lemmas.Nat.{leading_length}
use Rattle.rdl_tree.specs.Properties.{row, on, has_form, takes}
use Rattle.rdl_tree.specs.declared.shell.Kind.{Kind}
use Rattle.rdl_tree.specs.declared.shell.Kind.TheVariants.{Addrmap, Regfile, Reg, Field}
use Rattle.rdl_tree.specs.declared.shell.Shell.{Shell}
use Rattle.rdl_tree.specs.declared.value.Value.{Value}
use Rattle.rdl_tree.specs.declared.value.Value.TheVariants as value
use Rattle.rdl_tree.specs.declared.value.Word.TheVariants as word
use Rattle.rdl_tree.specs.declared.property.Form.TheVariants.{Widths}
use Rattle.rdl_tree.specs.declared.property.Property.{Property}
use Rattle.rdl_tree.specs.declared.property.Property.TheVariants.{Regwidth, Accesswidth, Sw, Reset}
use Rattle.rdl_scope.specs.Closed.{Head, Parts, no_parts, part, head_value, stated}
use Rattle.rdl_scope.specs.Value.{shown}
use Rattle.rdl_elab.specs.declared.layout.Mode.TheVariants.{Compact}
use Rattle.rdl_elab.specs.declared.layout.Span.{Span}
use Rattle.rdl_elab.specs.Faults as fault
use Rattle.rdl_elab.specs.Faults.{overlap, is_read_only, is_write_only, is_reset_too_wide}
use Rattle.rdl_elab.specs.Layouts.{number_in, width_in, values_of}
use Rattle.rdl_elab.specs.Reaches.{reset_value}
use Rattle.rdl_seen.specs.declared.values.Access.{Access}
use Rattle.rdl_seen.specs.declared.values.Access.TheVariants.{OnlyReads, OnlyWrites, Other}
use Rattle.rdl_seen.specs.declared.values.Values.{Values}
use Rattle.rdl_seen.specs.Fields as seen
use Rattle.rdl_seen.specs.Fields.{clashes_none, have_room}
use Rattle.rdl_seen.specs.Inside.{has_room}
use Rattle.rdl_seen.specs.Layouts as lay
use Rattle.rdl_seen.specs.Layouts.{overlaps}
use Rattle.rdl_seen.specs.Meaning.{kept_of, stated_of, HasValues}
use Rattle.rdl_seen.specs.Node.{is_ordered}
use Rattle.rdl_seen.specs.Values.{access_of, bit_count, reset_bits, of_kind, register_bits, access_bits, access}
use Rattle.node_laws.specs.Laid.{seen_span}
use Rattle.node_laws.specs.Seen.{layouts_seen}
use Rattle.node_laws.specs.Sound.{resets_seen, accesses_seen, fields_sound}
use Rattle.sound_laws.specs.Harmless.{kept_layout, are_apart}
use Rattle.sound_laws.specs.Sound.{value_with, fields_of, clash_none, resets_fit, are_fields_sound}
use Rattle.sound_laws.proofs.Lists.{both, and_both}

-- what is known of an instance and its component
pub record IsGood (s : Shell) (h : Head) : Type 0 where
  pub values : HasValues h (stated_of h)

abbrev pub AreGood : Parts → Type 0
AreGood no_parts = Unit {0}
AreGood (part at s h inside rest) = IsGood s h × AreGood rest

-- ---- Spans that are seen.

and-turned : (a b c d : Bool) → (a && b && c && d) ≡ (b && a && d && c)
and-turned true true true true = refl
and-turned true true true false = refl
and-turned true true false true = refl
and-turned true true false false = refl
and-turned true false c d = refl
and-turned false true c d = refl
and-turned false false c d = refl

pub same-overlap : (s t : Span) → overlaps (seen_span s) (seen_span t) ≡ overlap t s
same-overlap s t = and-turned (nat_lt s.start s.end) (nat_lt t.start t.end) (nat_lt s.start t.end) (nat_lt t.start s.end)

one-apart : (s : Span) (ts : List Span) → list_all (λ t. not (overlaps (seen_span s) t)) (map seen_span ts) ≡ list_all (λ t. not (overlap t s)) ts
one-apart s [] = refl
one-apart s (t ∷ ts) = λ i. not (same-overlap s t i) && one-apart s ts i

pub same-apart : (ss : List Span) → lay.are_apart (map seen_span ss) ≡ are_apart ss
same-apart [] = refl
same-apart (s ∷ ss) = λ i. one-apart s ss i && same-apart ss i

same-ends : (n : ℕ) (ss : List Span) → list_all (λ (s : lay.Span). nat_le s.end n) (map seen_span ss) ≡ list_all (λ (s : Span). nat_le s.end n) ss
same-ends n [] = refl
same-ends n (s ∷ ss) = ap (λ b. nat_le s.end n && b) (same-ends n ss)

-- ---- Resets.

-- a number of so many bits is below two to their number
below-power : (n : ℕ) → n < 2 ^ n
below-power zero = omega arith
below-power (suc n) =
    let below : n < 2 ^ n = below-power n in
    let doubled : 2 ^ suc n ≡ 2 ^ n * 2 = pow-suc 2 n in
    omega arith

pub fits : (n k : ℕ) → nat_le (bit_count n) k ≡ true → not (nat_le (2 ^ k) n) ≡ true
fits n k room = ap not (lt-leb (2 ^ k) n (by (nat_lt n (2 ^ 128)) refl room))
  where
    by : (code : Bool) → nat_lt n (2 ^ 128) ≡ code → nat_le (if code then 128 - leading_zeros w128 n else n) k ≡ true → n < 2 ^ k
    by true is g =
        let length = leading_length 128 n (ltb-true n (2 ^ 128) is) in
        let bits : length.0 ≤ k = omega (arith, length.1, leb-true (128 - leading_zeros w128 n) k g) in
        let below : 2 ^ length.0 ≤ 2 ^ k = pow_mono bits in
        omega (arith, length.2, below)
    by false is g =
        let long : n ≤ k = leb-true n k g in
        let below : 2 ^ n ≤ 2 ^ k = pow_mono long in
        let small : n < 2 ^ n = below-power n in
        omega arith

field-reset : (r : Option ℕ) (o : Option Value) (kept : Option ℕ) (span : Span) → option_and_then reset_bits o ≡ kept
    → has_room (option_or (option_map bit_count r) kept) (seen_span span) ≡ true
    → not (is_reset_too_wide (number_in (option_map (shown (row Reset).form) (option_or None (option_or (option_map value.Number r) o)))) span) ≡ true
field-reset (Some n) o kept span e room = fits n (span.end - span.start) room
field-reset None None kept span e room = refl
field-reset None (Some (value.Number n)) kept span e room =
    fits n (span.end - span.start) (subst (λ k. has_room k (seen_span span) ≡ true) (sym e) room)
field-reset None (Some x) kept span e room = refl

part-reset : (s : Shell) (h : Head) (span : Span) → IsGood s h → has_room (option_or (option_map bit_count s.reset) (stated_of h).reset) (seen_span span) ≡ true
    → not (is_reset_too_wide (number_in (value_with None s h Reset)) span) ≡ true
part-reset s h span good room = by (on Reset h.kind) refl
  where
    by : (test : Bool) → on Reset h.kind ≡ test
        → not (is_reset_too_wide (number_in (if test then option_map (shown (row Reset).form) (option_or None (option_or (reset_value Reset s.reset) (head_value h Reset))) else None)) span) ≡ true
    by true is = field-reset s.reset (head_value h Reset) (stated_of h).reset span (good.values.reset is) room
    by false is = refl

resets-fit : (spans : List Span) (ps : Parts) → AreGood ps → have_room (map seen_span spans) (resets_seen ps) ≡ true → resets_fit spans ps ≡ true
resets-fit spans no_parts good room = refl
resets-fit [] (part at s h inside rest) good room = refl
resets-fit (span ∷ spans) (part at s h inside rest) good room =
    let reset = option_or (option_map bit_count s.reset) (stated_of h).reset in
    let parts = both (has_room reset (seen_span span)) (have_room (map seen_span spans) (resets_seen rest)) room in
    and_both (not (is_reset_too_wide (number_in (value_with None s h Reset)) span)) (resets_fit spans rest) (part-reset s h span good.0 parts.0)
    (resets-fit spans rest good.1 parts.1)

-- ---- Accesses.

abbrev pub acc : Option Value → Access
acc None = Other
acc (Some x) = access_of x

abbrev reads : Access → Bool
reads OnlyReads = true
reads a = false

abbrev writes : Access → Bool
writes OnlyWrites = true
writes a = false

reads-is : (o : Option Value) → is_read_only o ≡ reads (acc o)
reads-is None = refl
reads-is (Some (value.Word word.R)) = refl
reads-is (Some (value.Word word.W)) = refl
reads-is (Some (value.Word word.W1)) = refl
reads-is (Some x) = refl

writes-is : (o : Option Value) → is_write_only o ≡ writes (acc o)
writes-is None = refl
writes-is (Some (value.Word word.R)) = refl
writes-is (Some (value.Word word.W)) = refl
writes-is (Some (value.Word word.W1)) = refl
writes-is (Some x) = refl

share-by : (a b : Access) → (reads b && writes a || writes b && reads a) ≡ seen.may_share a b
share-by OnlyReads OnlyReads = refl
share-by OnlyReads OnlyWrites = refl
share-by OnlyReads Other = refl
share-by OnlyWrites OnlyReads = refl
share-by OnlyWrites OnlyWrites = refl
share-by OnlyWrites Other = refl
share-by Other OnlyReads = refl
share-by Other OnlyWrites = refl
share-by Other Other = refl

pub same-share : (x y : Option Value) → fault.may_share y x ≡ seen.may_share (acc x) (acc y)
same-share x y = (λ i. reads-is y i && writes-is x i || writes-is y i && reads-is x i) ∙ share-by (acc x) (acc y)

pub not-both : (p q : Bool) → (not p || q) ≡ not (p && not q)
not-both true true = refl
not-both true false = refl
not-both false q = refl

other-access : (k : Kind) (v : Values) → on Sw k ≡ false → access (of_kind k v) ≡ Other
other-access Addrmap v e = refl
other-access Regfile v e = refl
other-access Reg v e = refl
other-access Field v e = absurd cc

field-access : (o : Option Value) (a : Access) → option_map access_of o ≡ Some a → a ≡ acc (option_map (shown (row Sw).form) (option_or None (option_or None o)))
field-access None a e = absurd cc
field-access (Some x) a e = let same : access_of x ≡ a = cc in sym same

pub part-access : (s : Shell) (h : Head) → HasValues h (stated_of h) → access (stated_of h) ≡ acc (value_with None s h Sw)
part-access s h values = by (on Sw h.kind) refl
  where
    by : (test : Bool) → on Sw h.kind ≡ test
        → access (stated_of h) ≡ acc (if test then option_map (shown (row Sw).form) (option_or None (option_or (reset_value Sw s.reset) (head_value h Sw))) else None)
    by true is = field-access (head_value h Sw) (access (stated_of h)) (values.sw is)
    by false is = other-access h.kind (kept_of (λ p. stated h (row p).name)) is

one-clash : (s : Span) (x : Option Value) (ts : List Span) (ps : Parts) → AreGood ps
    → clashes_none (seen_span s) (acc x) (map seen_span ts) (accesses_seen ps) ≡ list_all (λ (g : Span × Option Value). not (overlap g.0 s && not (fault.may_share g.1 x))) (fields_of ts ps)
one-clash s x [] no_parts good = refl
one-clash s x [] (part at z h inside rest) good = refl
one-clash s x (t ∷ ts) no_parts good = refl
one-clash s x (t ∷ ts) (part at z h inside rest) good =
    let y = value_with None z h Sw in
    let one : (not (overlaps (seen_span s) (seen_span t)) || seen.may_share (acc x) (access (stated_of h))) ≡ not (overlap t s && not (fault.may_share y x)) =
    (λ i. not (same-overlap s t i) || seen.may_share (acc x) (part-access z h good.0.values i))
    ∙ (λ i. not (overlap t s) || sym (same-share x y) i)
    ∙ not-both (overlap t s) (fault.may_share y x) in
    λ i. one i && one-clash s x ts rest good.1 i

same-clash : (ss : List Span) (ps : Parts) → AreGood ps → seen.clash_none (map seen_span ss) (accesses_seen ps) ≡ clash_none (fields_of ss ps)
same-clash [] no_parts good = refl
same-clash [] (part at s h inside rest) good = refl
same-clash (span ∷ ss) no_parts good = refl
same-clash (span ∷ ss) (part at s h inside rest) good =
    let x = value_with None s h Sw in
    λ i.
    (ap (λ a. clashes_none (seen_span span) a (map seen_span ss) (accesses_seen rest)) (part-access s h good.0.values) ∙ one-clash span x ss rest good.1) i
    && same-clash ss rest good.1 i

-- ---- Widths.

abbrev pub Taken : Head → Type 0
Taken h = (p : Property) (x : Value) → stated h (row p).name ≡ Some x → takes p x ≡ true

width-valid : (o : Option Value) (n : ℕ) → ((x : Value) → o ≡ Some x → has_form Widths x ≡ true) → option_or o (Some (value.Number 32)) ≡ Some (value.Number n) → has_form Widths (value.Number n) ≡ true
width-valid None n valid e = let same : value.Number 32 ≡ value.Number n = cc in ap (has_form Widths) (sym same)
width-valid (Some x) n valid e = valid (value.Number n) e

access-valid : (o p : Option Value) (n : ℕ) → ((x : Value) → o ≡ Some x → has_form Widths x ≡ true) → ((x : Value) → p ≡ Some x → has_form Widths x ≡ true)
    → option_or o (option_or p (Some (value.Number 32))) ≡ Some (value.Number n) → has_form Widths (value.Number n) ≡ true
access-valid None p n first second e = width-valid p n second e
access-valid (Some x) p n first second e = first (value.Number n) e

kept-width : (n : ℕ) → has_form Widths (value.Number n) ≡ true → width_in (Some n) ≡ n
kept-width n valid = ap (λ (b : Bool). if b then n else 0) valid

-- of a register
module _ (h : Head) (reg : h.kind ≡ Reg) (v : Values) (values : HasValues h v) (taken : Taken h) where
  pub register-is : (values_of h).regwidth ≡ register_bits v
  register-is =
      let there = values.regwidth (ap (on Regwidth) reg) in
      ap (λ o. width_in (number_in o)) there ∙ kept-width (register_bits v) (width-valid (stated h (row Regwidth).name) (register_bits v) (taken Regwidth) there)

  access-is : (values_of h).accesswidth ≡ access_bits v
  access-is =
      let there = values.accesswidth (ap (on Accesswidth) reg) in
      ap (λ o. width_in (number_in o)) there
      ∙ kept-width (access_bits v) (access-valid (stated h (row Accesswidth).name) (stated h (row Regwidth).name) (access_bits v) (taken Accesswidth) (taken Regwidth) there)

-- ---- The register.

or-turned : (a b c d : Bool) → a ≡ c → b ≡ d → (a || b) ≡ true → (c || d) ≡ true
or-turned a b c d e f h = sym (λ i. e i || f i) ∙ h

pub register-sound : (h : Head) (inside : Parts) → h.kind ≡ Reg → HasValues h (stated_of h) → Taken h → AreGood inside
    → fields_sound (record { head = h; parts = inside }) ≡ true → are_fields_sound kept_layout h inside ≡ true
unfolding layouts_seen
register-sound h inside reg values taken good sound =
    let v = stated_of h in
    let spans = (kept_layout Compact h inside).spans in
    let may = is_ordered h.kind (layouts_seen (record { head = h; parts = inside })) || seen.clash_none (map seen_span spans) (accesses_seen inside) in
    let ends = list_all (λ (s : lay.Span). nat_le s.end (register_bits v)) (map seen_span spans) in
    let all = both (nat_le (access_bits v) (register_bits v) && ends && have_room (map seen_span spans) (resets_seen inside)) may sound in
    let three = both (nat_le (access_bits v) (register_bits v) && ends) (have_room (map seen_span spans) (resets_seen inside)) all.0 in
    let two = both (nat_le (access_bits v) (register_bits v)) ends three.0 in
    let width = register-is h reg v values taken in
    let narrow : nat_le (values_of h).accesswidth (values_of h).regwidth ≡ true = (λ i. nat_le (access-is h reg v values taken i) (width i)) ∙ two.0 in
    let within : list_all (λ (s : Span). nat_le s.end (values_of h).regwidth) spans ≡ true =
    ap (λ n. list_all (λ (s : Span). nat_le s.end n) spans) width ∙ sym (same-ends (register_bits v) spans) ∙ two.1 in
    let ordered : is_ordered h.kind (layouts_seen (record { head = h; parts = inside })) ≡ are_apart spans =
    ap (λ k. is_ordered k (layouts_seen (record { head = h; parts = inside }))) reg ∙ same-apart spans in
    let shared =
    or-turned (is_ordered h.kind (layouts_seen (record { head = h; parts = inside }))) (seen.clash_none (map seen_span spans) (accesses_seen inside))
    (are_apart spans) (clash_none (fields_of spans inside)) ordered (same-clash spans inside good) all.1 in
    let first = and_both (nat_le (values_of h).accesswidth (values_of h).regwidth) (list_all (λ (s : Span). nat_le s.end (values_of h).regwidth) spans) narrow within in
    let second =
    and_both (nat_le (values_of h).accesswidth (values_of h).regwidth && list_all (λ (s : Span). nat_le s.end (values_of h).regwidth) spans) (resets_fit spans inside) first
    (resets-fit spans inside good three.1) in
    and_both (nat_le (values_of h).accesswidth (values_of h).regwidth && list_all (λ (s : Span). nat_le s.end (values_of h).regwidth) spans && resets_fit spans inside)
    (are_apart spans || clash_none (fields_of spans inside)) second shared
