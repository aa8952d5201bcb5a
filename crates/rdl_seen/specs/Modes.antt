-- The three modes, and a number for each.
-- SystemRDL 2.0, clause 13, addressing modes.
use Rattle.std.specs.Prelude.{ℕ, ◌&&◌, Bool}
use Rattle.rdl_seen.specs.declared.mode.Mode.{Mode}
use Rattle.rdl_seen.specs.declared.mode.Mode.TheVariants.{Compact, Regalign, Fullalign}
use Rattle.rdl_seen.specs.declared.seen.Modes.{Modes}
use Rattle.rdl_seen.specs.declared.seen.ByMode.{ByMode}

abbrev pub all_modes : Bool → Modes
all_modes b = record { compact = b; regalign = b; fullalign = b }

abbrev pub has_mode : Modes → Mode → Bool
has_mode s Compact = s.compact
has_mode s Regalign = s.regalign
has_mode s Fullalign = s.fullalign

-- the modes in both
abbrev pub and_modes : Modes → Modes → Modes
and_modes s t = record { compact = s.compact && t.compact; regalign = s.regalign && t.regalign; fullalign = s.fullalign && t.fullalign }

-- the same for each mode
abbrev pub same_number : ℕ → ByMode
same_number n = record { compact = n; regalign = n; fullalign = n }

abbrev pub number_under : ByMode → Mode → ℕ
number_under n Compact = n.compact
number_under n Regalign = n.regalign
number_under n Fullalign = n.fullalign
