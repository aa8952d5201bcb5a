-- The instances of a map of at most 2^40 bytes lie within it, so that what is kept of their spans is exact.
use Rattle.std.proofs.Common.{◌≡◌, ℕ, ◌+◌, ◌^◌, ◌≤◌, List, [], ◌∷◌, Option, Some, None, ◌⊎◌, inl, inr, refl, arith}
use Rattle.std.specs.Prelude.{max, map}
use Rattle.rdl_tree.specs.declared.shell.Kind.{Kind}
use Rattle.rdl_tree.specs.declared.shell.Kind.TheVariants.{Addrmap, Regfile, Reg, Field}
use Rattle.rdl_scope.specs.Closed.{Head, Parts, no_parts, part}
use Rattle.rdl_elab.specs.declared.layout.Mode.{Mode}
use Rattle.rdl_elab.specs.declared.layout.Span.{Span}
use Rattle.rdl_elab.specs.declared.layout.LayoutValues.{LayoutValues}
use Rattle.rdl_elab.specs.declared.layout.Member.{Member}
use Rattle.rdl_elab.specs.Size.{end_of, greatest_end}
use Rattle.rdl_elab.specs.Start.{spans_from, start_of}
use Rattle.rdl_elab.specs.Bits.{bits_by, bits_of, bits_from}
use Rattle.rdl_elab.specs.Layouts.{values_of, mode_inside, placement, field_bits, member, laid_out, layouts, layout_of}

-- in a register stand fields alone
abbrev pub FieldsIn : Kind → Parts → Type 0
FieldsIn k no_parts = Unit {0}
FieldsIn k (part at s h inside rest) = (k ≡ Reg → h.kind ≡ Field) × FieldsIn h.kind inside × FieldsIn k rest

-- the bytes of an instance in a component at this base
pub record BytesFit (m : Mode) (base : ℕ) (span : Span) (h : Head) (inside : Parts) : Type 0 where
  pub holds : span.start + (layout_of m h inside).size ≤ span.end
  pub room : base + span.end ≤ 2 ^ 40

pub record OneFits (m : Mode) (base : ℕ) (span : Span) (h : Head) (inside : Parts) : Type 0 where
  pub ordered : span.start ≤ span.end
  pub bytes : (h.kind ≡ Field) ⊎ BytesFit m base span h inside

-- the instances of a component at this base, which are placed in this mode
abbrev pub Fit : Mode → ℕ → List Span → Parts → Type 0
Fit m base spans no_parts = Unit {0}
Fit m base [] (part at s h inside rest) = Unit {0}
Fit m base (span ∷ spans) (part at s h inside rest) = OneFits m base span h inside × Fit m base spans rest

-- a span whose end is at most the greatest one
least-of-max : (a b e : ℕ) → max a b ≤ e → (a ≤ e) × (b ≤ e)
least-of-max a b e h = (omega (arith, h), omega (arith, h))

-- in an address map or a register file, each instance ends at or before the greatest end
container-fits : (m : Mode) (base size end : ℕ) (around : Option ℕ) (inside : Parts) → base + size ≤ 2 ^ 40
    → greatest_end (spans_from around m end (map (λ (i : Member). i.placement) (map member (layouts m inside)))) ≤ size
    → Fit m base (spans_from around m end (map (λ (i : Member). i.placement) (map member (layouts m inside)))) inside
container-fits m base size end around no_parts room last = tt
container-fits m base size end around (part at s h inside rest) room last =
    let p = placement (s, layout_of m h inside) in
    let start = start_of around m end p in
    let both = least-of-max (end_of start p) (greatest_end (spans_from around m (end_of start p) (map (λ (i : Member). i.placement) (map member (layouts m rest))))) size last in (
      record {
        ordered = omega arith;
        bytes = inr (record { holds = omega arith; room = omega (arith, both.0, room) });
      },
      container-fits m base size (end_of start p) around rest room both.1,
    )

bits-ordered : (next width : ℕ) (range : Option (ℕ × ℕ)) → (bits_by next width range).start ≤ (bits_by next width range).end
bits-ordered next width None = omega arith
bits-ordered next width (Some range) = omega arith

-- in a register, each instance is a field
register-fits : (m : Mode) (base next : ℕ) (inside : Parts) → FieldsIn Reg inside → Fit m base (bits_from next (map (λ (i : Member). i.bits) (map member (layouts m inside)))) inside
register-fits m base next no_parts f = tt
register-fits m base next (part at s h inside rest) f =
    let bits = field_bits (s, layout_of m h inside) in (
      record { ordered = bits-ordered next bits.width bits.range; bytes = inl (f.0 refl) },
      register-fits m base (bits_of next bits).end rest f.2,
    )

nothing-fits : (m : Mode) (base : ℕ) (inside : Parts) → Fit m base [] inside
nothing-fits m base no_parts = tt
nothing-fits m base (part at s h inside rest) = tt

fits-by-kind : (k : Kind) (v : LayoutValues) (m : Mode) (base : ℕ) (inside : Parts) → FieldsIn k inside
    → ((k ≡ Field) ⊎ (base + (laid_out k v m (map member (layouts m inside))).size ≤ 2 ^ 40)) → Fit m base (laid_out k v m (map member (layouts m inside))).spans inside
fits-by-kind Addrmap v m base inside f (inl e) = cc
fits-by-kind Addrmap v m base inside f (inr room) =
    container-fits m base (laid_out Addrmap v m (map member (layouts m inside))).size 0 v.alignment inside room (omega arith)
fits-by-kind Regfile v m base inside f (inl e) = cc
fits-by-kind Regfile v m base inside f (inr room) =
    container-fits m base (laid_out Regfile v m (map member (layouts m inside))).size 0 v.alignment inside room (omega arith)
fits-by-kind Reg v m base inside f room = register-fits m base 0 inside f
fits-by-kind Field v m base inside f room = nothing-fits m base inside

pub fits-inside : (m : Mode) (base : ℕ) (h : Head) (inside : Parts) → FieldsIn h.kind inside
    → ((h.kind ≡ Field) ⊎ (base + (layout_of m h inside).size ≤ 2 ^ 40)) → Fit (mode_inside h.kind (values_of h) m) base (layout_of m h inside).spans inside
fits-inside m base h inside f room = fits-by-kind h.kind (values_of h) (mode_inside h.kind (values_of h) m) base inside f room
