-- What reading the bytes of a map, or of one statement, answers. SystemRDL 2.0, lexical conventions; the faults are own.
-- Which of S9, S11 and S12 comes is left open, and shown by tests.
use Rattle.std.specs.Prelude.{◌≡◌, ◌⊎◌, ℕ, List, IsUtf8}
use Rattle.std.specs.Str.Lossy.{utf8_valid_len}
use Rattle.rdl_parse.specs.Parsing.{SpellsText, SpellsItemText, Refuses, RefusesItem}
use Rattle.rdl_parse.specs.Places.{Located}
use Rattle.rdl_parse.specs.declared.fault.ParseFault.{ParseFault}
use Rattle.rdl_parse.specs.declared.fault.ParseFaultKind.TheVariants.{Words}
use Rattle.rdl_text.specs.declared.fault.WordFault.TheVariants.{BadCharacter}
use Rattle.rdl_tree.specs.Items.{Items}
use Rattle.rdl_tree.specs.Limits.{IsWithinLimits}
use Rattle.rdl_tree.specs.View.{items_of}
use Rattle.rdl_tree.specs.declared.description.Item.{Item}

-- the bytes are a text that spells the description, whose items stand at these places
pub record ReadsMap (bytes : List ℕ) (d : Items) (places : Located) : Type 0 where
  pub text : IsUtf8 bytes
  pub spelled : SpellsText bytes d places
  pub is_within : IsWithinLimits d

-- they are a text that is exactly one statement, which stands for these items
pub record ReadsItems (bytes : List ℕ) (items : List Item) : Type 0 where
  pub text : IsUtf8 bytes
  pub spelled : SpellsItemText bytes items
  pub is_within : IsWithinLimits (items_of items)

-- they are no text: a bad character at the first byte that belongs to none
pub record IsNoText (bytes : List ℕ) (fault : ParseFault) : Type 0 where
  pub no_text : IsUtf8 bytes → ⊥
  pub first : fault ≡ record { kind = Words BadCharacter; offset = utf8_valid_len bytes }

-- they are a text that has this fault
pub record IsRefused (refuses : List ℕ → ParseFault → Type 0) (bytes : List ℕ) (fault : ParseFault) : Type 0 where
  pub text : IsUtf8 bytes
  pub refused : refuses bytes fault

abbrev pub RefusesMap : List ℕ → ParseFault → Type 0
RefusesMap bytes fault = IsNoText bytes fault ⊎ IsRefused Refuses bytes fault

abbrev pub RefusesItems : List ℕ → ParseFault → Type 0
RefusesItems bytes fault = IsNoText bytes fault ⊎ IsRefused RefusesItem bytes fault
