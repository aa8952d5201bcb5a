-- What a text says of a map.
use Rattle.std.specs.Prelude.{◌≡◌, ℕ, List}
use Rattle.rdl_tree.specs.Items.{Items}
use Rattle.rdl_tree.specs.Limits.{IsWithinLimits}
use Rattle.rdl_parse.specs.Parsing.{SpellsText}
use Rattle.rdl_parse.specs.Places.{Located}
use Rattle.rdl_write.specs.MapText.{map_text}

-- the text spells a map within the limits, and this is the map's canonical text
pub record SpellsAs (canonical text : List ℕ) : Type 0 where
  pub map : Items
  pub places : Located
  pub spelled : SpellsText text map places
  pub within : IsWithinLimits map
  pub is : map_text map ≡ canonical

-- this is the map that the text spells, and no other is; its items have these places
pub record IsRead (text : List ℕ) (d : Items) (p : Located) : Type 0 where
  pub spelled : SpellsText text d p
  pub within : IsWithinLimits d
  pub only : (e : Items) (q : Located) → SpellsText text e q → IsWithinLimits e → (d ≡ e) × (p ≡ q)

-- the text spells no map within the limits
abbrev pub SpellsNone : List ℕ → Type 0
SpellsNone text = (e : Items) (q : Located) → SpellsText text e q → IsWithinLimits e → ⊥
