-- The modes of layouts, as they are seen.
-- SystemRDL 2.0, clause 13, addressing modes.
use Rattle.rdl_elab.specs.declared.layout.Mode.{Mode}
use Rattle.rdl_elab.specs.declared.layout.Mode.TheVariants.{Compact, Regalign, Fullalign}
use Rattle.rdl_seen.specs.declared.mode.Mode as seen
use Rattle.rdl_seen.specs.declared.mode.Mode.TheVariants as mode

abbrev pub seen_mode : Mode → seen.Mode
seen_mode Compact = mode.Compact
seen_mode Regalign = mode.Regalign
seen_mode Fullalign = mode.Fullalign

-- and back
abbrev pub layout_mode : seen.Mode → Mode
layout_mode mode.Compact = Compact
layout_mode mode.Regalign = Regalign
layout_mode mode.Fullalign = Fullalign
