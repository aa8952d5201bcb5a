-- How instances are placed that say nothing but their names, where their components have one layout.
-- own: SystemRDL 2.0 places each instance by itself; those that are alike begin at multiples of one number.
use Rattle.std.specs.Prelude.{◌≡◌, ℕ, false, Option, None, unwrap_or, max}
use Rattle.rdl_elab.specs.declared.layout.Mode.{Mode}
use Rattle.rdl_elab.specs.declared.layout.Mode.TheVariants.{Compact, Regalign, Fullalign}
use Rattle.rdl_elab.specs.declared.layout.Placement.{Placement}
use Rattle.rdl_elab.specs.declared.layout.Layout.{Layout}
use Rattle.rdl_elab.specs.declared.layout.placing.BarePlace.{BarePlace}
use Rattle.rdl_elab.specs.Capped.{capped}
use Rattle.rdl_elab.specs.Rounding.{next_multiple}
use Rattle.rdl_elab.specs.Start.{start_of}

-- what is taken of an instance that says nothing but its name, and whose component has this layout
pub record IsBareItem (l : Layout) (p : Placement) : Type 0 where
  pub size : p.size ≡ l.size
  pub access : p.access ≡ l.access
  pub elements : p.elements ≡ 1
  pub single : p.is_array ≡ false
  pub address : p.address ≡ None
  pub align : p.align ≡ None

-- the alignment of a mode for such an instance
abbrev pub bare_alignment : Mode → Layout → ℕ
bare_alignment Compact l = l.access
bare_alignment Regalign l = l.size
bare_alignment Fullalign l = l.size

-- in a component with this alignment it begins at the next multiple of the step, as far as numbers are kept
abbrev pub IsBareStep : Option ℕ → Mode → Layout → ℕ → Type 0
IsBareStep around m l step = (end : ℕ) → capped (next_multiple end step 1) ≡ capped (next_multiple end (max 1 (bare_alignment m l)) (max 1 (unwrap_or around 1)))

-- an instance of which this is taken is placed so
pub record IsPlacedSo (around : Option ℕ) (m : Mode) (p : Placement) (place : BarePlace) : Type 0 where
  pub size : p.size ≡ place.size
  pub access : p.access ≡ place.access
  pub elements : p.elements ≡ 1
  pub starts : (end : ℕ) → capped (next_multiple end place.step 1) ≡ capped (start_of around m end p)

-- each is that says nothing but its name, and whose component has this layout
abbrev pub IsBarePlace : Option ℕ → Mode → Layout → BarePlace → Type 0
IsBarePlace around m l place = (p : Placement) → IsBareItem l p → IsPlacedSo around m p place
