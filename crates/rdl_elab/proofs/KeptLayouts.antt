-- What is kept of the layouts inside a component is enough to know what is kept of its own.
use Rattle.std.proofs.Common.{◌≡◌, ℕ, zero, suc, ◌+◌, ◌-◌, ◌*◌, ◌^◌, ◌≤◌, Bool, true, false, List, [], ◌∷◌, map, Option, Some, None, refl, ap, sym, ◌∙◌, arith, ◌⊎◌, inl, inr}
use Rattle.std.specs.Prelude.{max, unwrap_or}
use Rattle.std.proofs.Math.Nat.{mul_comm}
use Rattle.rdl_tree.specs.declared.shell.Kind.{Kind}
use Rattle.rdl_tree.specs.declared.shell.Kind.TheVariants.{Addrmap, Regfile, Reg, Field}
use Rattle.rdl_tree.specs.declared.shell.Shell.{Shell}
use Rattle.rdl_elab.specs.declared.layout.Mode.{Mode}
use Rattle.rdl_elab.specs.declared.layout.Mode.TheVariants.{Compact, Regalign, Fullalign}
use Rattle.rdl_elab.specs.declared.layout.Placement.{Placement}
use Rattle.rdl_elab.specs.declared.layout.Member.{Member}
use Rattle.rdl_elab.specs.declared.layout.LayoutValues.{LayoutValues}
use Rattle.rdl_elab.specs.declared.layout.Layout.{Layout}
use Rattle.rdl_elab.specs.declared.layout.Span.{Span}
use Rattle.rdl_elab.specs.Rounding.{power_up}
use Rattle.rdl_elab.specs.Size.{bytes_of, end_of, greatest_end, greatest_access}
use Rattle.rdl_elab.specs.Start.{full_alignment, mode_alignment, aligned_start, start_by, start_of, spans_from}
use Rattle.rdl_elab.specs.Bits.{bits_by, bits_of, bits_from}
use Rattle.rdl_elab.specs.Layouts.{width_of, placement, field_bits, member, container, laid_out}
use Rattle.rdl_elab.specs.Capped.{capped, capped_span, capped_layout, capped_instance}
use Rattle.rdl_elab.proofs.CappedNumbers.{Alike, over, alike_cases, next_alike, power_up-ge}
use Rattle.rdl_elab.proofs.Placing.{to_span, greatest_capped}

-- the placement with another size
abbrev sized : ℕ → Placement → Placement
sized s p = record p { size = s }

times_alike : (n s t : ℕ) → Alike s t → Alike (s * n) (t * n)
times_alike zero s t h = refl_of (s * 0) (t * 0) (omega arith)
  where
    refl_of : (x y : ℕ) → x ≡ y → Alike x y
    refl_of x y e = ap capped e
times_alike (suc n) s t h = by_cases (alike_cases s t h)
  where
    next : (s : ℕ) → s * suc n ≡ s * n + s
    next s = omega arith

    by_cases : ((s ≡ t) ⊎ ((2 ^ 40 + 1 ≤ s) × (2 ^ 40 + 1 ≤ t))) → Alike (s * suc n) (t * suc n)
    by_cases (inl e) = ap (λ x. capped (x * suc n)) e
    by_cases (inr g) = over (s * suc n) (t * suc n) (omega (arith, next s, g.0)) (omega (arith, next t, g.1))

pub power_alike : (x y : ℕ) → Alike x y → Alike (power_up x) (power_up y)
power_alike x y h = by_cases (alike_cases x y h)
  where
    by_cases : ((x ≡ y) ⊎ ((2 ^ 40 + 1 ≤ x) × (2 ^ 40 + 1 ≤ y))) → Alike (power_up x) (power_up y)
    by_cases (inl e) = ap (λ n. capped (power_up n)) e
    by_cases (inr g) = over (power_up x) (power_up y) (omega (arith, g.0, power_up-ge x)) (omega (arith, g.1, power_up-ge y))

full_alike : (is_array : Bool) (n s t : ℕ) → Alike s t → Alike (full_alignment is_array n s) (full_alignment is_array n t)
full_alike false n s t h = h
full_alike true n s t h = power_alike (s * n) (t * n) (times_alike n s t h)

mode_alike : (m : Mode) (p : Placement) (s : ℕ) → Alike s p.size → Alike (mode_alignment m (sized s p)) (mode_alignment m p)
mode_alike Compact p s h = refl
mode_alike Regalign p s h = h
mode_alike Fullalign p s h = full_alike p.is_array p.elements s p.size h

pub max_alike : (x y : ℕ) → Alike x y → Alike (max 1 x) (max 1 y)
max_alike x y h = omega arith

start_alike : (all : Option ℕ) (m : Mode) (e f s : ℕ) (p : Placement) → Alike e f → Alike s p.size → Alike (start_of all m e (sized s p)) (start_of all m f p)
start_alike all m e f s p h g = at_address p.address (by_align p.align)
  where
    by_align : (o : Option ℕ) → Alike (aligned_start all m e (sized s p) o) (aligned_start all m f p o)
    by_align (Some a) = next_alike e f (max 1 a) (max 1 a) 1 (omega arith) (omega arith) (omega arith) h refl
    by_align None =
        next_alike e f (max 1 (mode_alignment m (sized s p))) (max 1 (mode_alignment m p)) (max 1 (unwrap_or all 1)) (omega arith) (omega arith) (omega arith) h
        (max_alike (mode_alignment m (sized s p)) (mode_alignment m p) (mode_alike m p s g))

    at_address : (o : Option ℕ) → Alike (aligned_start all m e (sized s p) p.align) (aligned_start all m f p p.align) → Alike (start_by all m e (sized s p) o) (start_by all m f p o)
    at_address (Some a) k = refl
    at_address None k = k

end_alike : (x y s : ℕ) (p : Placement) → Alike x y → Alike s p.size → Alike (end_of x (sized s p)) (end_of y p)
end_alike x y s p h g = further ((p.elements - 1) * unwrap_or p.stride s) ((p.elements - 1) * unwrap_or p.stride p.size) (by_stride p.stride)
  where
    by_stride : (o : Option ℕ) → Alike ((p.elements - 1) * unwrap_or o s) ((p.elements - 1) * unwrap_or o p.size)
    by_stride (Some t) = refl
    by_stride None =
        ap capped (mul_comm (p.elements - 1) s) ∙ times_alike (p.elements - 1) s p.size g ∙ ap capped (mul_comm p.size (p.elements - 1))

    further : (a b : ℕ) → Alike a b → Alike (x + a + s) (y + b + p.size)
    further a b k = omega arith

-- the placement with what is kept of its size
abbrev kept_size : Placement → Placement
kept_size p = sized (capped p.size) p

pub twice_capped : (x : ℕ) → Alike (capped x) x
twice_capped x = omega arith

kept-spans : (all : Option ℕ) (m : Mode) (e f : ℕ) (ps : List Placement) → Alike e f → map capped_span (spans_from all m e (map kept_size ps)) ≡ map capped_span (spans_from all m f ps)
kept-spans all m e f [] h = refl
kept-spans all m e f (p ∷ ps) h =
    let q = kept_size p in
    let from = start_alike all m e f (capped p.size) p h (twice_capped p.size) in
    let to = end_alike (start_of all m e q) (start_of all m f p) (capped p.size) p from (twice_capped p.size) in
    ap (λ x. to_span x (capped (end_of (start_of all m e q) q)) ∷ map capped_span (spans_from all m (end_of (start_of all m e q) q) (map kept_size ps))) from
    ∙ ap (λ x. to_span (capped (start_of all m f p)) x ∷ map capped_span (spans_from all m (end_of (start_of all m e q) q) (map kept_size ps))) to
    ∙ ap (λ xs. to_span (capped (start_of all m f p)) (capped (end_of (start_of all m f p) p)) ∷ xs) (kept-spans all m (end_of (start_of all m e q) q) (end_of (start_of all m f p) p) ps to)

kept-access : (ps : List Placement) → greatest_access (map kept_size ps) ≡ greatest_access ps
kept-access [] = refl
kept-access (p ∷ ps) = ap (λ x. max p.access x) (kept-access ps)

kept-container : (all : Option ℕ) (m : Mode) (ps : List Placement) → capped_layout (container all m (map kept_size ps)) ≡ capped_layout (container all m ps)
kept-container all m ps =
    let spans = kept-spans all m 0 0 ps refl in
    let size : capped (greatest_end (spans_from all m 0 (map kept_size ps))) ≡ capped (greatest_end (spans_from all m 0 ps)) =
    sym (greatest_capped (spans_from all m 0 (map kept_size ps))) ∙ ap greatest_end spans ∙ greatest_capped (spans_from all m 0 ps) in
    λ i. record { size = size i; access = kept-access ps i; spans = spans i }

-- the placements of the instances, as kept
kept-placements : (xs : List (Shell × Layout)) → map (λ (i : Member). i.placement) (map member (map capped_instance xs)) ≡ map kept_size (map (λ (i : Member). i.placement) (map member xs))
kept-placements [] = refl
kept-placements (x ∷ xs) = ap (λ ps. kept_size (placement x) ∷ ps) (kept-placements xs)

abbrev kept_bits : ℕ → List (Shell × Layout) → List Span
kept_bits next xs = map capped_span (bits_from next (map (λ (i : Member). i.bits) (map member xs)))

bits_alike : (x y w z : ℕ) (range : Option (ℕ × ℕ)) → Alike x y → Alike w z → capped_span (bits_by x w range) ≡ capped_span (bits_by y z range)
bits_alike x y w z (Some range) h g = refl
bits_alike x y w z None h g = ap (λ n. to_span n (capped (x + w))) h ∙ ap (λ n. to_span (capped y) n) (wider x y w z h g)
  where
    wider : (x y w z : ℕ) → Alike x y → Alike w z → Alike (x + w) (y + z)
    wider x y w z h g = omega arith

width_alike : (dims : List ℕ) (w : ℕ) → Alike (width_of dims (capped w)) (width_of dims w)
width_alike [] w = twice_capped w
width_alike (n ∷ ns) w = refl

kept-bits : (x y : ℕ) (xs : List (Shell × Layout)) → Alike x y → kept_bits x (map capped_instance xs) ≡ kept_bits y xs
kept-bits x y [] h = refl
kept-bits x y (i ∷ xs) h =
    let g = field_bits (capped_instance i) in
    let f = field_bits i in
    let one = bits_alike x y g.width f.width f.range h (width_alike i.0.dims i.1.size) in
    ap (λ s. s ∷ kept_bits (bits_of x g).end (map capped_instance xs)) one
    ∙ ap (λ ss. capped_span (bits_of y f) ∷ ss) (kept-bits (bits_of x g).end (bits_of y f).end xs (ap (λ (s : Span). s.end) one))

abbrev register : LayoutValues → List Span → Layout
register v spans = record { size = capped (bytes_of v.regwidth); access = bytes_of v.accesswidth; spans = spans }

pub kept-laid_out : (k : Kind) (v : LayoutValues) (m : Mode) (xs : List (Shell × Layout)) → capped_layout (laid_out k v m (map member (map capped_instance xs))) ≡ capped_layout (laid_out k v m (map member xs))
kept-laid_out Addrmap v m xs =
    ap (λ ps. capped_layout (container v.alignment m ps)) (kept-placements xs) ∙ kept-container v.alignment m (map (λ (i : Member). i.placement) (map member xs))
kept-laid_out Regfile v m xs =
    ap (λ ps. capped_layout (container v.alignment m ps)) (kept-placements xs) ∙ kept-container v.alignment m (map (λ (i : Member). i.placement) (map member xs))
kept-laid_out Reg v m xs = ap (register v) (kept-bits 0 0 xs refl)
kept-laid_out Field v m xs = refl
