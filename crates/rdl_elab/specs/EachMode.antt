-- The three layouts of a component, as they are kept.
-- own: SystemRDL 2.0 speaks of definitions and instances.
use Rattle.rdl_elab.specs.declared.walk.finished.ThreeLayouts.{ThreeLayouts}
use Rattle.rdl_elab.specs.declared.walk.finished.EachMode.{EachMode}
use Rattle.rdl_elab.specs.declared.walk.finished.EachMode.TheVariants.{Same, Own}
use Rattle.rdl_elab.specs.Kept.{Layouts}

abbrev pub of_three : ThreeLayouts → Layouts
of_three t = record { compact = t.compact; regalign = t.regalign; fullalign = t.fullalign }

abbrev pub each_mode : EachMode → Layouts
each_mode (Same l) = record { compact = l; regalign = l; fullalign = l }
each_mode (Own t) = of_three t.value
