-- Instances that say nothing but their names.
use Rattle.std.proofs.Common.{◌≡◌, ℕ, ◌+◌, ◌-◌, ◌*◌, ◌%◌, ◌^◌, ◌<◌, refl, ap, sym, ◌∙◌, arith, Option}
use Rattle.std.proofs.Math.Nat.{zero-mul}
use Rattle.std.specs.Prelude.{min, max, unwrap_or}
use Rattle.rdl_tree.specs.declared.shell.Shell.{Shell}
use Rattle.rdl_scope.specs.ItemFaults.{product}
use Rattle.rdl_elab.specs.declared.layout.Mode.{Mode}
use Rattle.rdl_elab.specs.declared.layout.Mode.TheVariants.{Compact, Regalign, Fullalign}
use Rattle.rdl_elab.specs.declared.layout.Placement.{Placement}
use Rattle.rdl_elab.specs.declared.layout.Layout.{Layout}
use Rattle.rdl_elab.specs.declared.layout.placing.BarePlace.{BarePlace}
use Rattle.rdl_elab.specs.Bare.{IsBare}
use Rattle.rdl_elab.specs.BarePlaces.{IsBareItem, IsBareStep, IsBarePlace, bare_alignment}
use Rattle.rdl_elab.specs.Capped.{capped}
use Rattle.rdl_elab.specs.Inside.{shown_placement}
use Rattle.rdl_elab.specs.Layouts.{is_array}
use Rattle.rdl_elab.specs.Rounding.{IsStep, next_multiple}
use Rattle.rdl_elab.specs.Size.{end_of, stride_of}
use Rattle.rdl_elab.specs.Start.{full_alignment, mode_alignment, aligned_start, start_by}
use Rattle.rdl_elab.proofs.CappedNumbers.{start_is}
use Rattle.rdl_elab.proofs.Rounding.{step_alone}

-- the step of such instances
pub bare_step : (around : Option ℕ) (b a x w s r : ℕ) → b ≡ unwrap_or around 1 → 0 < b → x ≡ capped a → w ≡ max x 1 → IsStep w b s → (s < 2 ^ 40 + 1 → s % b ≡ 0) → r ≡ min s (2 ^ 40 + 1) → (end : ℕ)
    → capped (next_multiple end r 1) ≡ capped (next_multiple end (max 1 a) (max 1 (unwrap_or around 1)))
bare_step around b a x w s r same pos h k t whole f end =
    step_alone end w b s r (omega arith) pos t whole f ∙ start_is end x a b w h pos (turn x w k) ∙ ap (λ z. capped (next_multiple end (max 1 a) (max 1 z))) same
  where
    turn : (x w : ℕ) → w ≡ max x 1 → max 1 x ≡ w
    turn x w k = omega arith

alignment_of : (m : Mode) (l : Layout) (p : Placement) → IsBareItem l p → mode_alignment m p ≡ bare_alignment m l
alignment_of Compact l p b = b.access
alignment_of Regalign l p b = b.size
alignment_of Fullalign l p b = ap (λ y. full_alignment y p.elements p.size) b.single ∙ b.size

pub placed_so : (around : Option ℕ) (m : Mode) (l : Layout) (place : BarePlace) → place.size ≡ l.size → place.access ≡ l.access → IsBareStep around m l place.step → IsBarePlace around m l place
placed_so around m l place size access step p b = record {
  size = b.size ∙ sym size;
  access = b.access ∙ sym access;
  elements = b.elements;
  starts = λ end. step end
      ∙ ap (λ a. capped (next_multiple end (max 1 a) (max 1 (unwrap_or around 1)))) (sym (alignment_of m l p b))
      ∙ ap (λ o. capped (aligned_start around m end p o)) (sym b.align)
      ∙ ap (λ o. capped (start_by around m end p o)) (sym b.address);
}

-- where such an instance ends
pub bare_end : (p : Placement) (start size t to : ℕ) → p.elements ≡ 1 → p.size ≡ size → t ≡ min (start + size) (2 ^ 64 - 1) → to ≡ min t (2 ^ 40 + 1) → to ≡ capped (end_of start p)
bare_end p start size t to one same h g = further ((p.elements - 1) * stride_of p) p.size (ap (λ n. (n - 1) * stride_of p) one ∙ zero-mul (stride_of p)) same
  where
    further : (x y : ℕ) → x ≡ 0 → y ≡ size → to ≡ capped (start + x + y)
    further x y a b = omega arith

-- what is taken of one
pub bare_item : (s : Shell) (l : Layout) → IsBare s → IsBareItem l (shown_placement (s, l))
bare_item s l b = record {
  size = refl;
  access = refl;
  elements = ap (λ ds. min (product ds) (2 ^ 128 - 1)) b.dims;
  single = ap is_array b.dims;
  address = b.address;
  align = b.align;
}
