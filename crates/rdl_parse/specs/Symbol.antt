-- A word as the grammar sees it, without its place.
-- SystemRDL 2.0, lexical conventions.
use Rattle.std.specs.Prelude.{ℕ, ◌-◌, Bool, List, length, take, drop, map, codes}
use Rattle.rdl_text.specs.Word.{Word}
use Rattle.rdl_text.specs.declared.token.Mark.{Mark}
use Rattle.rdl_text.specs.declared.token.TokenKind.{TokenKind}
use Rattle.rdl_text.specs.declared.token.TokenKind.TheVariants as kinds
use Rattle.rdl_tree.specs.declared.shell.Kind.{Kind}
use Rattle.rdl_tree.specs.declared.shell.Outside.{Outside}
use Rattle.rdl_tree.specs.declared.value.Word.{Word as ValueWord}
use Rattle.rdl_parse.specs.declared.class.ReservedProperty.{ReservedProperty}
use Rattle.rdl_parse.specs.declared.class.ReservedProperty.TheVariants.{Sw, Hw, Rclr, Rset, Woset, Woclr}
use Rattle.rdl_parse.specs.declared.class.Class.{Class}
use Rattle.rdl_parse.specs.declared.class.Class.TheVariants as classes
use Rattle.rdl_parse.specs.Class.{class}

pub data Symbol : Type 0 where
  kind : Kind → Symbol
  -- `external` or `internal`
  outside : Outside → Symbol
  default : Symbol
  truth : Bool → Symbol
  -- a reserved word that is a property
  property : ReservedProperty → Symbol
  -- a word that is a value and nothing else
  word : ValueWord → Symbol
  reserved : Symbol
  -- an identifier that isn't reserved
  name : List ℕ → Symbol
  number : ℕ → Symbol
  -- a string, by what stands between its quotes
  text : List ℕ → Symbol
  mark : Mark → Symbol

abbrev pub inside : List ℕ → List ℕ
inside source = take (length source - 2) (drop 1 source)

-- an identifier of a class that is spelled so
abbrev pub class_symbol : Class → List ℕ → Symbol
class_symbol (classes.Kind k) source = kind k
class_symbol (classes.Outside o) source = outside o
class_symbol classes.Default source = default
class_symbol (classes.Truth b) source = truth b
class_symbol (classes.Property p) source = property p
class_symbol (classes.Word w) source = word w
class_symbol classes.Reserved source = reserved
class_symbol classes.Name source = name source

-- a word of a kind that is spelled so
abbrev pub symbol_by : TokenKind → List ℕ → Symbol
symbol_by kinds.Identifier source = class_symbol (class source) source
symbol_by (kinds.Number n) source = number n
symbol_by kinds.Text source = text (inside source)
symbol_by (kinds.Mark m) source = mark m

abbrev pub symbol : Word → Symbol
symbol w = symbol_by w.kind w.source

abbrev pub symbols : List Word → List Symbol
symbols ws = map symbol ws

-- how a property that is a reserved word is spelled
abbrev pub property_text : ReservedProperty → List ℕ
property_text Sw = codes "sw"
property_text Hw = codes "hw"
property_text Rclr = codes "rclr"
property_text Rset = codes "rset"
property_text Woset = codes "woset"
property_text Woclr = codes "woclr"
