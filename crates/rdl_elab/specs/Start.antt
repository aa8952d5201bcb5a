-- Where an instance begins.
-- SystemRDL 2.0: instance addresses (clause 5: `@`, `%=`), addressing modes and alignment (clause 13).
-- own: an address behind `@` is taken as it is; otherwise an instance begins at the least number that is at least the end of the
-- instance before it and a multiple of each of its alignments; which alignments these are; an alignment of 0 counts as 1.
use Rattle.std.specs.Prelude.{◌≡◌, ℕ, ◌*◌, ◌%◌, ◌≤◌, max, Bool, true, false, List, [], ◌∷◌, All, Option, Some, None, unwrap_or}
use Rattle.rdl_elab.specs.declared.layout.Mode.{Mode}
use Rattle.rdl_elab.specs.declared.layout.Mode.TheVariants.{Compact, Regalign, Fullalign}
use Rattle.rdl_elab.specs.declared.layout.Placement.{Placement}
use Rattle.rdl_elab.specs.declared.layout.Span.{Span}
use Rattle.rdl_elab.specs.Rounding.{next_multiple, power_up}
use Rattle.rdl_elab.specs.Size.{end_of}

-- fullalign: an array is aligned by the whole of it, rounded up to a power of two, whatever its stride
abbrev pub full_alignment : Bool → ℕ → ℕ → ℕ
full_alignment false elements size = size
full_alignment true elements size = power_up (size * elements)

-- the alignment of a mode
abbrev pub mode_alignment : Mode → Placement → ℕ
mode_alignment Compact p = p.access
mode_alignment Regalign p = p.size
mode_alignment Fullalign p = full_alignment p.is_array p.elements p.size

-- the least start at or after this end, by the number behind `%=`, or else by the mode and the alignment of the component around it
abbrev pub aligned_start : Option ℕ → Mode → ℕ → Placement → Option ℕ → ℕ
aligned_start around m end p (Some align) = next_multiple end (max 1 align) 1
aligned_start around m end p None = next_multiple end (max 1 (mode_alignment m p)) (max 1 (unwrap_or around 1))

abbrev pub start_by : Option ℕ → Mode → ℕ → Placement → Option ℕ → ℕ
start_by around m end p (Some address) = address
start_by around m end p None = aligned_start around m end p p.align

-- the start of an instance, where the one before it ends here
abbrev pub start_of : Option ℕ → Mode → ℕ → Placement → ℕ
start_of around m end p = start_by around m end p p.address

-- the instances of a component, one after the other
abbrev pub spans_from : Option ℕ → Mode → ℕ → List Placement → List Span
spans_from around m end [] = []
spans_from around m end (p ∷ ps) =
    let start = start_of around m end p in
    record { start = start; end = end_of start p } ∷ spans_from around m (end_of start p) ps

-- the same in words of the whole: all alignments of an instance, and the least number for them
abbrev pub also : Option ℕ → List ℕ
also None = []
also (Some a) = a ∷ []

abbrev pub alignments_by : Option ℕ → Mode → Placement → Option ℕ → List ℕ
alignments_by around m p (Some align) = align ∷ []
alignments_by around m p None = mode_alignment m p ∷ also around

abbrev pub alignments : Option ℕ → Mode → Placement → List ℕ
alignments around m p = alignments_by around m p p.align

abbrev pub IsMultiple : ℕ → ℕ → Type 0
IsMultiple n a = n % max 1 a ≡ 0

-- the least number that is at least this end and a multiple of each alignment
pub record IsLeast (end : ℕ) (aligns : List ℕ) (n : ℕ) : Type 0 where
  pub above : end ≤ n
  pub multiple : All (IsMultiple n) aligns
  pub least : (k : ℕ) → end ≤ k → All (IsMultiple k) aligns → n ≤ k
