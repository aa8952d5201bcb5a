-- Instances of one component that say nothing but their names.
-- own: how they are placed is asked once for neighbours.
use Rattle.std.specs.Prelude.{ℕ, List, Option, IsSomeAnd, slice_get}
use Rattle.rdl_elab.specs.declared.layout.Mode.{Mode}
use Rattle.rdl_elab.specs.declared.walk.finished.Finished.{Finished}
use Rattle.rdl_elab.specs.declared.walk.instances.Alike.{Alike}
use Rattle.rdl_elab.specs.BarePlaces.{IsBarePlace}
use Rattle.rdl_elab.specs.Finished.{under}

-- they are placed so in a component with this alignment
abbrev pub AreAlike : Option ℕ → Mode → List Finished → Alike → Type 0
AreAlike around m fs alike = IsSomeAnd (slice_get fs alike.component) (λ f. IsBarePlace around m (under m f.layouts) alike.place)
