-- The three layouts of a component, as they are kept.
-- own: how the code holds layouts.
use Rattle.rdl_nodes.specs.declared.layouts.ThreeLayouts.{ThreeLayouts}
use Rattle.rdl_nodes.specs.declared.layouts.EachMode.{EachMode}
use Rattle.rdl_nodes.specs.declared.layouts.EachMode.TheVariants.{Same, Each}
use Rattle.rdl_seen.specs.Layouts.{Layouts}

abbrev pub of_three : ThreeLayouts → Layouts
of_three t = record { compact = t.compact; regalign = t.regalign; fullalign = t.fullalign }

abbrev pub each_mode : EachMode → Layouts
each_mode (Same l) = record { compact = l; regalign = l; fullalign = l }
each_mode (Each t) = of_three t.value
