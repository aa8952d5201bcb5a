-- Gaps hold no word.
-- own: SystemRDL 2.0 says nothing of what stands around statements.
use Rattle.std.specs.Prelude.{◌≡◌, ℕ, List, [], Some, Ok}
use Rattle.rdl_text.specs.Words.{words}
use Rattle.rdl_source.specs.declared.gap.Left.{Left}
use Rattle.rdl_source.specs.declared.gap.Right.{Right}
use Rattle.rdl_source.specs.declared.gap.Parts.{Parts}
use Rattle.rdl_source.specs.Gap.{gap_parts}

-- a text that is cut as a gap has no words
abbrev pub GapsHoldNoWord : Type 0
GapsHoldNoWord = (left : Left) (right : Right) (gap : List ℕ) (parts : Parts) → gap_parts left right gap ≡ Some parts → words gap ≡ Ok []
