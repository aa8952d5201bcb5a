-- What a component takes of its instances, by what is kept of their components.
-- own: SystemRDL 2.0 has no limits; levels, rows and elements are counted as far as they are told apart.
use Rattle.std.specs.Prelude.{◌≡◌, ℕ, zero, ◌+◌, ◌-◌, ◌^◌, min, max, Bool, true, false, List, [], ◌∷◌, Option, Some, None, option_map, slice_get, if◌then◌else◌}
use Rattle.std.specs.Option.{option_or}
use Rattle.std.specs.List.{filter_map}
use Rattle.rdl_tree.specs.declared.shell.Kind.{Kind}
use Rattle.rdl_tree.specs.declared.shell.Kind.TheVariants.{Addrmap, Regfile}
use Rattle.rdl_tree.specs.declared.shell.Shell.{Shell}
use Rattle.rdl_elab.specs.declared.layout.Mode.{Mode}
use Rattle.rdl_elab.specs.declared.layout.Placement.{Placement}
use Rattle.rdl_elab.specs.declared.layout.Layout.{Layout}
use Rattle.rdl_elab.specs.Kept.{Part}
use Rattle.rdl_elab.specs.declared.walk.finished.Finished.{Finished}
use Rattle.rdl_elab.specs.declared.layout.Member.{Member}
use Rattle.rdl_elab.specs.Layouts.{placement, field_bits}
use Rattle.rdl_elab.specs.Finished.{under}

-- a placement whose elements are counted up to a limit
abbrev pub counted : Placement → Placement
counted p = record p { elements = min p.elements (2 ^ 128 - 1) }

-- what is taken of an instance for its place
abbrev pub shown_placement : Shell × Layout → Placement
shown_placement i = counted (placement i)

-- what a layout takes of an instance
abbrev pub shown_member : Shell × Layout → Member
shown_member i = record { placement = shown_placement i; bits = field_bits i }

-- an instance, with the kept layout of its component under a mode
abbrev pub kept_part : Mode → List Finished → Part → Option (Shell × Layout)
kept_part m fs p = option_map (λ (f : Finished). (p.shell, under m f.layouts)) (slice_get fs p.component)

abbrev pub kept_parts : Mode → List Finished → List Part → List (Shell × Layout)
kept_parts m fs ps = filter_map (kept_part m fs) ps

-- the names of the longest path that begins with this instance
abbrev pub part_levels : Option Finished → ℕ
part_levels None = 0
part_levels (Some f) = f.levels + 1

abbrev pub kept_levels : List Finished → List Part → ℕ
kept_levels fs [] = 0
kept_levels fs (p ∷ ps) = max (part_levels (slice_get fs p.component)) (kept_levels fs ps)

-- the rows of an instance and below it
abbrev pub part_rows : Option Finished → ℕ
part_rows None = 0
part_rows (Some f) = f.rows + 1

abbrev pub finished_rows : List Finished → List Part → ℕ
finished_rows fs [] = 0
finished_rows fs (p ∷ ps) = part_rows (slice_get fs p.component) + finished_rows fs ps

-- whether a component of this kind with so many rows below it is one that must not be without instances
abbrev pub lacks_rows : Kind → ℕ → Bool
lacks_rows Addrmap zero = true
lacks_rows Regfile zero = true
lacks_rows kind n = false

-- the instance, or the first below it, of a register file or address map without instances
abbrev pub part_empty : Part → Option Finished → Option (List ℕ)
part_empty p None = None
part_empty p (Some f) = option_or (if lacks_rows f.kind f.rows then Some p.at else None) f.first_empty

abbrev pub kept_empty : List Finished → List Part → Option (List ℕ)
kept_empty fs [] = None
kept_empty fs (p ∷ ps) = option_or (part_empty p (slice_get fs p.component)) (kept_empty fs ps)

-- such an instance brings no more than its rows to what these levels and this mark were gathered of
pub record IsCounted (o : Option Finished) (levels : ℕ) (has_empty : Bool) (rows : ℕ) : Type 0 where
  pub deep : min (max levels (part_levels o)) 16 ≡ levels
  pub many : min rows 65536 ≡ min (part_rows o) 65536
  pub full : has_empty ≡ false → (p : Part) → part_empty p o ≡ None
