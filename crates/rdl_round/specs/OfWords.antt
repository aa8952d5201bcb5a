-- Which descriptions are made of words: their names are identifiers, their numbers have the bits of a number, and their strings
-- can stand between quotes.
-- SystemRDL 2.0, lexical conventions.
use Rattle.std.specs.Prelude.{ℕ, ◌<◌, ◌^◌, List, [], ◌∷◌, Option, Some, None}
use Rattle.rdl_text.specs.Name.{IsName}
use Rattle.rdl_text.specs.Number.{number_bits}
use Rattle.rdl_text.specs.Raw.{IsRaw}
use Rattle.rdl_tree.specs.Items.{Items, no_items, plain, holder, Plain, named, own, default, dynamic, Holder, define, anonymous}
use Rattle.rdl_tree.specs.declared.shell.Shell.{Shell}
use Rattle.rdl_tree.specs.declared.value.Value.{Value}
use Rattle.rdl_tree.specs.declared.value.Value.TheVariants.{Number, Text, Bool as Boolean, Word}

abbrev pub IsNumber : ℕ → Type 0
IsNumber n = n < 2 ^ number_bits

abbrev pub AreNumbers : List ℕ → Type 0
AreNumbers [] = Unit {0}
AreNumbers (n ∷ ns) = IsNumber n × AreNumbers ns

-- where it is there
abbrev pub IsPart : Option ℕ → Type 0
IsPart None = Unit {0}
IsPart (Some n) = IsNumber n

abbrev pub IsRange : Option (ℕ × ℕ) → Type 0
IsRange None = Unit {0}
IsRange (Some r) = IsNumber r.0 × IsNumber r.1

abbrev pub AreNames : List (List ℕ) → Type 0
AreNames [] = Unit {0}
AreNames (name ∷ names) = IsName name × AreNames names

abbrev pub IsValue : Value → Type 0
IsValue (Number n) = IsNumber n
IsValue (Text t) = IsRaw t
IsValue (Boolean b) = Unit {0}
IsValue (Word w) = Unit {0}

pub record IsShellOfWords (s : Shell) : Type 0 where
  pub name : IsName s.name
  pub dims : AreNumbers s.dims
  pub range : IsRange s.range
  pub reset : IsPart s.reset
  pub address : IsPart s.address
  pub stride : IsPart s.stride
  pub align : IsPart s.align

abbrev pub IsPlainOfWords : Plain → Type 0
IsPlainOfWords (named s type) = IsShellOfWords s × IsName type
IsPlainOfWords (own p v) = IsName p × IsValue v
IsPlainOfWords (default p v) = IsName p × IsValue v
IsPlainOfWords (dynamic target p v) = AreNames target × IsName p × IsValue v

abbrev pub IsHolderOfWords : Holder → Type 0
IsHolderOfWords (define name k) = IsName name
IsHolderOfWords (anonymous s k) = IsShellOfWords s

abbrev pub IsOfWords : Items → Type 0
IsOfWords no_items = Unit {0}
IsOfWords (plain p rest) = IsPlainOfWords p × IsOfWords rest
IsOfWords (holder h body rest) = IsHolderOfWords h × IsOfWords body × IsOfWords rest
