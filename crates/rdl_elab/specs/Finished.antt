-- What is kept of a component, once for all its instances, and that it is that of the component.
-- own: SystemRDL 2.0 speaks of definitions and instances; a map whose instances multiply from level to level costs what its text costs.
use Rattle.std.specs.Prelude.{◌≡◌, ℕ, ◌<◌, List, [], ◌∷◌, Some, None, min, slice_get}
use Rattle.rdl_tree.specs.Items.{Items}
use Rattle.rdl_tree.specs.declared.shell.Shell.{Shell}
use Rattle.rdl_scope.specs.ItemFaults.{fault_of}
use Rattle.rdl_scope.specs.Closed.{Parts, no_parts, part, Made, component}
use Rattle.rdl_elab.specs.declared.layout.Mode.{Mode}
use Rattle.rdl_elab.specs.declared.layout.Mode.TheVariants.{Compact, Regalign, Fullalign}
use Rattle.rdl_elab.specs.declared.layout.Layout.{Layout}
use Rattle.rdl_elab.specs.Kept.{Layouts, Part}
use Rattle.rdl_elab.specs.declared.walk.finished.Finished.{Finished}
use Rattle.rdl_elab.specs.Layouts.{values_of, layout}
use Rattle.rdl_elab.specs.Capped.{capped_layout}
use Rattle.rdl_elab.specs.Shown.{shown_values}
use Rattle.rdl_elab.specs.Reaches.{reaches}
use Rattle.rdl_elab.specs.Faults.{levels, count, first_empty}

abbrev pub under : Mode → Layouts → Layout
under Compact l = l.compact
under Regalign l = l.regalign
under Fullalign l = l.fullalign

-- all but its instances; its assignments if the description has no fault
pub record IsKept (d : Items) (f : Finished) (c : Made) : Type 0 where
  pub kind : f.kind ≡ c.head.kind
  pub values : f.values ≡ values_of c.head
  pub shown : f.shown ≡ shown_values c.head
  pub assignments : fault_of d ≡ None → component d c.head.at ≡ Some c → f.assignments.items ≡ reaches d c.head.at 0 c.head.body
  pub layouts : (m : Mode) → under m f.layouts ≡ capped_layout (layout m c)
  pub levels : f.levels ≡ min (levels c.parts) 16
  pub rows : f.rows ≡ min (count c.parts) 65536
  pub first_empty : f.first_empty ≡ first_empty c.parts

-- an instance leads to what is kept of its component, which stands before number n
pub record IsPart (d : Items) (fs : List Finished) (n : ℕ) (p : Part) (at : List ℕ) (s : Shell) (c : Made) (Inside : Finished → Type 0) : Type 0 where
  pub place : p.at ≡ at
  pub shell : p.shell ≡ s
  pub before : p.component < n
  pub finished : Finished
  pub there : slice_get fs p.component ≡ Some finished
  pub kept : IsKept d finished c
  pub inside : Inside finished

-- the instances of a component, each with what is kept of its component
abbrev pub AreParts : Items → List Finished → ℕ → List Part → Parts → Type 0
AreParts d fs n [] no_parts = Unit {0}
AreParts d fs n (p ∷ ps) no_parts = ⊥
AreParts d fs n [] (part at s h inside rest) = ⊥
AreParts d fs n (p ∷ ps) (part at s h inside rest) =
    IsPart d fs n p at s (record { head = h; parts = inside }) (λ f. AreParts d fs p.component f.parts.items inside) × AreParts d fs n ps rest

-- number n of the finished components is this one
pub record IsFinished (d : Items) (fs : List Finished) (n : ℕ) (c : Made) : Type 0 where
  pub finished : Finished
  pub there : slice_get fs n ≡ Some finished
  pub kept : IsKept d finished c
  pub parts : AreParts d fs n finished.parts.items c.parts
