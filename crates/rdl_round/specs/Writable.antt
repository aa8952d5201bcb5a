-- Which descriptions can be written and read back.
-- own: SystemRDL 2.0 says nothing of what a tool writes.
use Rattle.std.specs.Prelude.{◌≡◌, Ok}
use Rattle.rdl_tree.specs.Items.{Items}
use Rattle.rdl_tree.specs.Limits.{IsWithinLimits}
use Rattle.rdl_parse.specs.FirstFault.{parse_reading}
use Rattle.rdl_parse.specs.Places.{Located}
use Rattle.rdl_write.specs.MapText.{map_text}
use Rattle.rdl_round.specs.OfWords.{IsOfWords}
use Rattle.rdl_round.specs.Spellable.{IsSpellable}

-- the written text of the description is read as that description
abbrev pub ReadsBack : Items → Type 0
ReadsBack d = (p : Located) × (parse_reading (map_text d) ≡ Ok (d, p))

-- it is made of words, a text can spell it, and it is within the limits
pub record IsWritable (d : Items) : Type 0 where
  pub of_words : IsOfWords d
  pub spellable : IsSpellable d
  pub within : IsWithinLimits d
