-- Which descriptions a text can spell.
-- SystemRDL 2.0, keywords and reserved words, component definitions and instances, property assignments.
use Rattle.std.specs.Prelude.{◌≡◌, ◌⊎◌, ℕ, List, [], ◌∷◌, Option, Some, None}
use Rattle.rdl_tree.specs.Items.{Items, no_items, plain, holder, Plain, named, own, default, dynamic, Holder, define, anonymous}
use Rattle.rdl_tree.specs.declared.shell.Shell.{Shell}
use Rattle.rdl_parse.specs.Class.{class}
use Rattle.rdl_parse.specs.Symbol.{property_text}
use Rattle.rdl_parse.specs.declared.class.Class.TheVariants.{Name}
use Rattle.rdl_parse.specs.declared.class.ReservedProperty.{ReservedProperty}

-- an identifier that isn't reserved
abbrev pub IsFree : List ℕ → Type 0
IsFree name = class name ≡ Name

-- one that isn't reserved, or a reserved word that is a property
abbrev pub IsProperty : List ℕ → Type 0
IsProperty name = IsFree name ⊎ ((p : ReservedProperty) × (name ≡ property_text p))

abbrev pub AreFree : List (List ℕ) → Type 0
AreFree [] = Unit {0}
AreFree (name ∷ names) = IsFree name × AreFree names

-- the names of a target, of which there is one at least
abbrev pub IsTarget : List (List ℕ) → Type 0
IsTarget [] = ⊥
IsTarget (name ∷ names) = IsFree name × AreFree names

-- an instance with a range has no sizes
abbrev pub AreBrackets : (dims : List ℕ) → (range : Option (ℕ × ℕ)) → Type 0
AreBrackets dims None = Unit {0}
AreBrackets [] (Some r) = Unit {0}
AreBrackets (n ∷ ns) (Some r) = ⊥

pub record IsShell (s : Shell) : Type 0 where
  pub free : IsFree s.name
  pub brackets : AreBrackets s.dims s.range

abbrev pub IsPlain : Plain → Type 0
IsPlain (named s type) = IsFree type × IsShell s
IsPlain (own p v) = IsProperty p
IsPlain (default p v) = IsProperty p
IsPlain (dynamic target p v) = IsTarget target × IsProperty p

abbrev pub IsHolder : Holder → Type 0
IsHolder (define name k) = IsFree name
IsHolder (anonymous s k) = IsShell s

abbrev pub IsSpellable : Items → Type 0
IsSpellable no_items = Unit {0}
IsSpellable (plain p rest) = IsPlain p × IsSpellable rest
IsSpellable (holder h body rest) = IsHolder h × IsSpellable body × IsSpellable rest
