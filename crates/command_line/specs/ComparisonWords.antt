-- What the words behind the name of `regdiff` mean. Own; how `clap` finds arguments among words is of its own definitions.
use Rattle.std.specs.Prelude.{◌≡◌, ◌⊎◌, ◌==◌, ⊤, List, [], ◌∷◌, map, Option, Some, None, is_some, true, bytes_eq, codes, string_bytes, if◌then◌else◌, IfSome, IsSomeAnd}
use Rattle.std.specs.List.{slice_split}
use Rattle.clap.specs.Words.{Kinds, Row, Text, fault_of, matches_of, takes}
use Rattle.rdl_text.specs.Name.{IsName}
use Rattle.rdl_tree.specs.Properties.{property_of}
use Rattle.rdl_tree.specs.declared.property.Property.{Property}
use Rattle.command_line.specs.Arguments.{regdiff_command}
use Rattle.command_line.specs.Faults.{HasFault, value}
use Rattle.command_line.specs.Faults as of_words
use Rattle.command_line.specs.Words.{says_true}
use Rattle.command_line.specs.declared.comparison.Comparison.{Comparison}
use Rattle.command_line.specs.declared.comparison.ComparisonFault.{ComparisonFault}
use Rattle.command_line.specs.declared.comparison.ComparisonFault.TheVariants as faults
use Rattle.command_line.specs.declared.format.Format.{Format}
use Rattle.command_line.specs.declared.format.Format.TheVariants as formats

-- the arguments that are found among the words, each with its values
abbrev pub found : List Text → List Row
found words = matches_of regdiff_command words

-- what is told of the words: nothing where `clap` takes them, else the kind of the first thing that it doesn't take, where
-- `--help` and `--version` are such things
abbrev pub mistakes : List Text → Kinds
mistakes words = fault_of regdiff_command words

-- `clap` takes the words
abbrev pub AreTaken : List Text → Type 0
AreTaken words = takes regdiff_command words ≡ true

-- names with commas between them
abbrev pub names_in : Text → List Text
names_in text = slice_split (λ b. b == 44) text

-- the properties of names with commas between them
abbrev pub ArePropertiesOf : Option Text → List Property → Type 0
ArePropertiesOf None ps = ps ≡ []
ArePropertiesOf (Some text) ps = map Some ps ≡ map property_of (names_in text)

-- how lines are written, by the name of that
abbrev pub format_named : Text → Option Format
format_named name =
    if bytes_eq name (codes "text") then Some formats.Text
    else if bytes_eq name (codes "markdown") then Some formats.Markdown
    else if bytes_eq name (codes "json") then Some formats.Json
    else None

-- where it isn't given, as text
abbrev pub format_of : Option Text → Option Format
format_of None = Some formats.Text
format_of (Some name) = format_named name

-- each part of the line is the value of its argument
pub record Means (rows : List Row) (line : Comparison) : Type 0 where
  pub old : value (codes "old") rows ≡ Some (string_bytes line.old)
  pub new : value (codes "new") rows ≡ Some (string_bytes line.new)
  pub top : value (codes "top") rows ≡ line.top
  pub top_is_name : IfSome line.top IsName
  pub each : line.each ≡ says_true (value (codes "each") rows)
  pub breaking : line.breaking ≡ says_true (value (codes "breaking") rows)
  pub ignored : ArePropertiesOf (value (codes "ignore") rows) line.ignored.items
  pub format : format_of (value (codes "format") rows) ≡ Some line.format

-- both operands have a value, which is so where `clap` takes the words
pub record HasOperands (rows : List Row) : Type 0 where
  pub old : is_some (value (codes "old") rows) ≡ true
  pub new : is_some (value (codes "new") rows) ≡ true

-- ---- Why words are none.

-- one of the names is that of no property
abbrev pub IsUnknownAmong : List Text → Type 0
IsUnknownAmong [] = ⊥
IsUnknownAmong (name ∷ names) = (property_of name ≡ None) ⊎ IsUnknownAmong names

-- properties to ignore are given, and one of the names is that of none
abbrev pub HasBadProperty : List Row → Type 0
HasBadProperty rows = IsSomeAnd (value (codes "ignore") rows) (λ text. IsUnknownAmong (names_in text))

-- a format is given, and it is none
abbrev pub HasBadFormat : List Row → Type 0
HasBadFormat rows = format_of (value (codes "format") rows) ≡ None

-- the words give what the fault says
abbrev pub Refuses : List Text → ComparisonFault → Type 0
Refuses words (faults.Words fault) = HasFault (mistakes words) (found words) fault
Refuses words faults.BadProperty = (mistakes words ≡ []) × HasBadProperty (found words)
Refuses words faults.BadFormat = (mistakes words ≡ []) × HasBadFormat (found words)

-- what a fault behind `clap` says of what is found
abbrev pub RefusesFound : List Row → ComparisonFault → Type 0
RefusesFound rows (faults.Words fault) = of_words.RefusesFound rows fault
RefusesFound rows faults.BadProperty = HasBadProperty rows
RefusesFound rows faults.BadFormat = HasBadFormat rows

-- a fault of words that `clap` takes
abbrev pub IsBehindClap : ComparisonFault → Type 0
IsBehindClap (faults.Words fault) = of_words.IsBehindClap fault
IsBehindClap faults.BadProperty = ⊤
IsBehindClap faults.BadFormat = ⊤
