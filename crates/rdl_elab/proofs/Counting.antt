-- Elements are counted up to a limit, and what is kept of a layout is the same.
use Rattle.std.proofs.Common.{◌≡◌, ℕ, zero, suc, ◌+◌, ◌-◌, ◌*◌, ◌^◌, ◌≤◌, ◌<◌, Bool, true, false, List, [], ◌∷◌, map, Option, Some, None, refl, ap, sym, ◌∙◌, arith, ◌⊎◌, inl, inr}
use Rattle.std.specs.Prelude.{max, min, unwrap_or}
use Rattle.std.proofs.lemmas.Bool.{cases_lt}
use Rattle.rdl_tree.specs.declared.shell.Shell.{Shell}
use Rattle.rdl_tree.specs.declared.shell.Kind.{Kind}
use Rattle.rdl_tree.specs.declared.shell.Kind.TheVariants.{Addrmap, Regfile, Reg, Field}
use Rattle.rdl_elab.specs.declared.layout.Mode.{Mode}
use Rattle.rdl_elab.specs.declared.layout.Mode.TheVariants.{Compact, Regalign, Fullalign}
use Rattle.rdl_elab.specs.declared.layout.Placement.{Placement}
use Rattle.rdl_elab.specs.declared.layout.FieldBits.{FieldBits}
use Rattle.rdl_elab.specs.declared.layout.Layout.{Layout}
use Rattle.rdl_elab.specs.declared.layout.Span.{Span}
use Rattle.rdl_elab.specs.declared.layout.Member.{Member}
use Rattle.rdl_elab.specs.declared.layout.LayoutValues.{LayoutValues}
use Rattle.rdl_elab.specs.Size.{bytes_of, end_of, greatest_end, greatest_access}
use Rattle.rdl_elab.specs.Start.{full_alignment, mode_alignment, aligned_start, start_by, start_of, spans_from}
use Rattle.rdl_elab.specs.Bits.{bits_from}
use Rattle.rdl_elab.specs.Layouts.{placement, field_bits, member, container, laid_out}
use Rattle.rdl_elab.specs.Capped.{capped, capped_span, capped_layout}
use Rattle.rdl_elab.specs.Inside.{counted, shown_placement, shown_member}
use Rattle.rdl_elab.proofs.CappedNumbers.{Alike, over, next_alike}
use Rattle.rdl_elab.proofs.Placing.{to_span, greatest_capped}
use Rattle.rdl_elab.proofs.KeptLayouts.{power_alike, max_alike}

-- two numbers of elements that no kept layout tells apart
abbrev Same : ℕ → ℕ → Type 0
Same n e = (n ≡ e) ⊎ ((2 ^ 40 + 2 ≤ n) × (2 ^ 40 + 2 ≤ e))

abbrev limited : ℕ → ℕ
limited e = min e (2 ^ 128 - 1)

limited_same : (e : ℕ) → Same (limited e) e
limited_same e = by_size (cases_lt e (2 ^ 128))
  where
    by_size : ((e < 2 ^ 128) ⊎ (2 ^ 128 ≤ e)) → Same (limited e) e
    by_size (inl h) = inl (omega arith)
    by_size (inr h) = inr (omega arith, omega arith)

equal : (x y : ℕ) → x ≡ y → Alike x y
equal x y e = ap capped e

times_same : (s n e : ℕ) → Same n e → Alike (s * n) (s * e)
times_same s n e (inl h) = ap (λ x. capped (s * x)) h
times_same zero n e (inr h) = equal (0 * n) (0 * e) (omega arith)
times_same (suc s) n e (inr h) = over (suc s * n) (suc s * e) (omega (arith, next n, h.0)) (omega (arith, next e, h.1))
  where
    next : (n : ℕ) → suc s * n ≡ s * n + n
    next n = omega arith

before_same : (s n e : ℕ) → Same n e → Alike ((n - 1) * s) ((e - 1) * s)
before_same s n e (inl h) = ap (λ x. capped ((x - 1) * s)) h
before_same zero n e (inr h) = equal ((n - 1) * 0) ((e - 1) * 0) (omega arith)
before_same (suc s) n e (inr h) = over ((n - 1) * suc s) ((e - 1) * suc s) (omega (arith, next (n - 1), h.0)) (omega (arith, next (e - 1), h.1))
  where
    next : (n : ℕ) → n * suc s ≡ n * s + n
    next n = omega arith

full_same : (is_array : Bool) (n e s : ℕ) → Same n e → Alike (full_alignment is_array n s) (full_alignment is_array e s)
full_same false n e s h = refl
full_same true n e s h = power_alike (s * n) (s * e) (times_same s n e h)

mode_same : (m : Mode) (p : Placement) → Alike (mode_alignment m (counted p)) (mode_alignment m p)
mode_same Compact p = refl
mode_same Regalign p = refl
mode_same Fullalign p = full_same p.is_array (limited p.elements) p.elements p.size (limited_same p.elements)

start_same : (all : Option ℕ) (m : Mode) (e f : ℕ) (p : Placement) → Alike e f → Alike (start_of all m e (counted p)) (start_of all m f p)
start_same all m e f p h = at_address p.address (by_align p.align)
  where
    by_align : (o : Option ℕ) → Alike (aligned_start all m e (counted p) o) (aligned_start all m f p o)
    by_align (Some a) = next_alike e f (max 1 a) (max 1 a) 1 (omega arith) (omega arith) (omega arith) h refl
    by_align None =
        next_alike e f (max 1 (mode_alignment m (counted p))) (max 1 (mode_alignment m p)) (max 1 (unwrap_or all 1)) (omega arith) (omega arith) (omega arith) h
        (max_alike (mode_alignment m (counted p)) (mode_alignment m p) (mode_same m p))

    at_address : (o : Option ℕ) → Alike (aligned_start all m e (counted p) p.align) (aligned_start all m f p p.align) → Alike (start_by all m e (counted p) o) (start_by all m f p o)
    at_address (Some a) k = refl
    at_address None k = k

end_same : (x y : ℕ) (p : Placement) → Alike x y → Alike (end_of x (counted p)) (end_of y p)
end_same x y p h =
    further ((limited p.elements - 1) * unwrap_or p.stride p.size) ((p.elements - 1) * unwrap_or p.stride p.size) (before_same (unwrap_or p.stride p.size) (limited p.elements) p.elements (limited_same p.elements))
  where
    further : (a b : ℕ) → Alike a b → Alike (x + a + p.size) (y + b + p.size)
    further a b k = omega arith

counted-spans : (all : Option ℕ) (m : Mode) (e f : ℕ) (ps : List Placement) → Alike e f → map capped_span (spans_from all m e (map counted ps)) ≡ map capped_span (spans_from all m f ps)
counted-spans all m e f [] h = refl
counted-spans all m e f (p ∷ ps) h =
    let q = counted p in
    let from = start_same all m e f p h in
    let to = end_same (start_of all m e q) (start_of all m f p) p from in
    ap (λ x. to_span x (capped (end_of (start_of all m e q) q)) ∷ map capped_span (spans_from all m (end_of (start_of all m e q) q) (map counted ps))) from
    ∙ ap (λ x. to_span (capped (start_of all m f p)) x ∷ map capped_span (spans_from all m (end_of (start_of all m e q) q) (map counted ps))) to
    ∙ ap (λ xs. to_span (capped (start_of all m f p)) (capped (end_of (start_of all m f p) p)) ∷ xs) (counted-spans all m (end_of (start_of all m e q) q) (end_of (start_of all m f p) p) ps to)

counted-access : (ps : List Placement) → greatest_access (map counted ps) ≡ greatest_access ps
counted-access [] = refl
counted-access (p ∷ ps) = ap (λ x. max p.access x) (counted-access ps)

counted-container : (all : Option ℕ) (m : Mode) (ps : List Placement) → capped_layout (container all m (map counted ps)) ≡ capped_layout (container all m ps)
counted-container all m ps =
    let spans = counted-spans all m 0 0 ps refl in
    let size : capped (greatest_end (spans_from all m 0 (map counted ps))) ≡ capped (greatest_end (spans_from all m 0 ps)) =
    sym (greatest_capped (spans_from all m 0 (map counted ps))) ∙ ap greatest_end spans ∙ greatest_capped (spans_from all m 0 ps) in
    λ i. record { size = size i; access = counted-access ps i; spans = spans i }

-- what is taken of the instances
placements-of : (xs : List (Shell × Layout)) → map (λ (i : Member). i.placement) (map member xs) ≡ map placement xs
placements-of [] = refl
placements-of (x ∷ xs) = ap (λ ps. placement x ∷ ps) (placements-of xs)

bits-of : (xs : List (Shell × Layout)) → map (λ (i : Member). i.bits) (map member xs) ≡ map field_bits xs
bits-of [] = refl
bits-of (x ∷ xs) = ap (λ fs. field_bits x ∷ fs) (bits-of xs)

counted-of : (xs : List (Shell × Layout)) → map shown_placement xs ≡ map counted (map placement xs)
counted-of [] = refl
counted-of (x ∷ xs) = ap (λ ps. shown_placement x ∷ ps) (counted-of xs)

-- a component by what is taken of its instances
pub container-taken : (v : LayoutValues) (m : Mode) (xs : List (Shell × Layout)) (ps : List Placement) → ps ≡ map shown_placement xs → capped_layout (container v.alignment m ps) ≡ capped_layout (laid_out Regfile v m (map member xs))
container-taken v m xs ps e =
    ap (λ qs. capped_layout (container v.alignment m qs)) (e ∙ counted-of xs) ∙ counted-container v.alignment m (map placement xs)
    ∙ ap (λ qs. capped_layout (container v.alignment m qs)) (sym (placements-of xs))

pub register-taken : (v : LayoutValues) (m : Mode) (xs : List (Shell × Layout)) (fs : List FieldBits) (spans : List Span) → fs ≡ map field_bits xs → spans ≡ map capped_span (bits_from 0 fs)
    → ◌≡◌ {A = Layout} (record { size = capped (bytes_of v.regwidth); access = bytes_of v.accesswidth; spans = spans }) (capped_layout (laid_out Reg v m (map member xs)))
register-taken v m xs fs spans e g =
    ap (λ ss. record { size = capped (bytes_of v.regwidth); access = bytes_of v.accesswidth; spans = ss }) (g ∙ ap (λ bs. map capped_span (bits_from 0 bs)) (e ∙ sym (bits-of xs)))

-- so are members
placements-shown : (xs : List (Shell × Layout)) → map (λ (i : Member). i.placement) (map shown_member xs) ≡ map shown_placement xs
placements-shown [] = refl
placements-shown (x ∷ xs) = ap (λ ps. shown_placement x ∷ ps) (placements-shown xs)

bits-shown : (xs : List (Shell × Layout)) → map (λ (i : Member). i.bits) (map shown_member xs) ≡ map field_bits xs
bits-shown [] = refl
bits-shown (x ∷ xs) = ap (λ fs. field_bits x ∷ fs) (bits-shown xs)

pub members-shown : (k : Kind) (v : LayoutValues) (m : Mode) (xs : List (Shell × Layout)) → capped_layout (laid_out k v m (map shown_member xs)) ≡ capped_layout (laid_out k v m (map member xs))
members-shown Addrmap v m xs = ap (λ ps. capped_layout (container v.alignment m ps)) (placements-shown xs) ∙ container-taken v m xs (map shown_placement xs) refl
members-shown Regfile v m xs = ap (λ ps. capped_layout (container v.alignment m ps)) (placements-shown xs) ∙ container-taken v m xs (map shown_placement xs) refl
members-shown Reg v m xs =
    ap (λ fs. capped_layout (record { size = bytes_of v.regwidth; access = bytes_of v.accesswidth; spans = bits_from 0 fs })) (bits-shown xs ∙ sym (bits-of xs))
members-shown Field v m xs = refl
