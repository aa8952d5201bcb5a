-- Which words spell which description.
-- SystemRDL 2.0, component definitions and instances, property assignments; the profile, the places and the limits are own.
use Rattle.std.specs.Prelude.{◌≡◌, ℕ, true, List, [], ◌∷◌, ◌++◌, length, map, codes, Option, Some, None}
use Rattle.rdl_text.specs.declared.token.Mark.{Mark}
use Rattle.rdl_text.specs.declared.token.Mark.TheVariants.{OpenBrace, CloseBrace, OpenBracket, CloseBracket, Colon, Semicolon, Comma, Dot, Equals, At, PlusEquals, PercentEquals, Arrow}
use Rattle.rdl_tree.specs.Items.{Items}
use Rattle.rdl_tree.specs.View.{items_of}
use Rattle.rdl_tree.specs.declared.description.Component.{Component}
use Rattle.rdl_tree.specs.declared.description.Item.{Item}
use Rattle.rdl_tree.specs.declared.description.Item.TheVariants.{Define, Instance, Own, Default, Dynamic}
use Rattle.rdl_tree.specs.declared.description.Of.{Of}
use Rattle.rdl_tree.specs.declared.description.Of.TheVariants.{Named, Anonymous}
use Rattle.rdl_tree.specs.declared.shell.Kind.{Kind}
use Rattle.rdl_tree.specs.declared.shell.Outside.{Outside}
use Rattle.rdl_tree.specs.declared.shell.Outside.TheVariants.{Unsaid}
use Rattle.rdl_tree.specs.declared.shell.Shell.{Shell}
use Rattle.rdl_tree.specs.declared.value.Value.{Value}
use Rattle.rdl_tree.specs.declared.value.Value.TheVariants as values
use Rattle.rdl_tree.specs.declared.value.Word.{Word as ValueWord}
use Rattle.rdl_tree.specs.declared.value.Word.TheVariants as word
use Rattle.rdl_parse.specs.Finds.{spot}
use Rattle.rdl_parse.specs.Symbol as symbol
use Rattle.rdl_parse.specs.Symbol.{Symbol, kind, outside, name, number, mark, property_text, symbols}
use Rattle.rdl_parse.specs.declared.class.ReservedProperty.{ReservedProperty}
use Rattle.rdl_parse.specs.declared.class.ReservedProperty.TheVariants as property
use Rattle.rdl_parse.specs.declared.found.Spot.{Spot}

-- ---- Statements, as they are written.

-- [number] any number of times, or one [high : low]
pub data Brackets : Type 0 where
  sizes : List ℕ → Brackets
  range : (high low : ℕ) → Brackets

-- NAME, then brackets, then = number, @ number, += number and %= number, or without some of them
pub record Inst : Type 0 where
  pub name : List ℕ
  pub brackets : Brackets
  pub reset : Option ℕ
  pub address : Option ℕ
  pub stride : Option ℕ
  pub align : Option ℕ

-- nowhere, at the front of the statement or directly before its first INST: external or internal
pub data Out : Type 0 where
  nowhere : Out
  front : Outside → Out
  late : Outside → Out

-- an identifier that isn't reserved, or a reserved word
pub data Prop : Type 0 where
  free : List ℕ → Prop
  reserved : ReservedProperty → Prop

-- one constructor for each form of a statement; where it has instances, the first and the others
mutual
  pub data Statement : Type 0 where
    define : Kind → (name : List ℕ) → (body : Statements) → Statement
    define_with : Out → Kind → (name : List ℕ) → (body : Statements) → Inst → List Inst → Statement
    anonymous : Out → Kind → (body : Statements) → Inst → List Inst → Statement
    named : Option Outside → (type : List ℕ) → Inst → List Inst → Statement
    own : Prop → Option Value → Statement
    default : Prop → Option Value → Statement
    dynamic : (first : List ℕ) → (others : List (List ℕ)) → Prop → Option Value → Statement

  pub data Statements : Type 0 where
    none : Statements
    one : Statement → Statements → Statements

-- ---- The words of each form, and behind them these.

abbrev pub sizes_words : List ℕ → List Symbol → List Symbol
sizes_words [] after = after
sizes_words (n ∷ ns) after = mark OpenBracket ∷ number n ∷ mark CloseBracket ∷ sizes_words ns after

abbrev pub brackets_words : Brackets → List Symbol → List Symbol
brackets_words (sizes ns) after = sizes_words ns after
brackets_words (range h l) after = mark OpenBracket ∷ number h ∷ mark Colon ∷ number l ∷ mark CloseBracket ∷ after

abbrev pub part_words : Mark → Option ℕ → List Symbol → List Symbol
part_words m None after = after
part_words m (Some n) after = mark m ∷ number n ∷ after

abbrev pub inst_words : Inst → List Symbol → List Symbol
inst_words i after =
    name i.name
    ∷ brackets_words i.brackets
    (part_words Equals i.reset (part_words At i.address (part_words PlusEquals i.stride (part_words PercentEquals i.align after))))

abbrev pub others_words : List Inst → List Symbol → List Symbol
others_words [] after = after
others_words (i ∷ is) after = mark Comma ∷ inst_words i (others_words is after)

abbrev pub insts_words : Inst → List Inst → List Symbol → List Symbol
insts_words i is after = inst_words i (others_words is (mark Semicolon ∷ after))

abbrev pub outside_words : Option Outside → List Symbol → List Symbol
outside_words None after = after
outside_words (Some o) after = outside o ∷ after

abbrev pub at_front : Out → Option Outside
at_front nowhere = None
at_front (front o) = Some o
at_front (late o) = None

abbrev pub at_late : Out → Option Outside
at_late nowhere = None
at_late (front o) = None
at_late (late o) = Some o

abbrev pub prop_symbol : Prop → Symbol
prop_symbol (free n) = name n
prop_symbol (reserved p) = symbol.property p

-- a word that is a value: two of them are names, four properties, and the others nothing else
abbrev pub word_symbol : ValueWord → Symbol
word_symbol word.R = name (codes "r")
word_symbol word.W = name (codes "w")
word_symbol word.Rclr = symbol.property property.Rclr
word_symbol word.Rset = symbol.property property.Rset
word_symbol word.Woset = symbol.property property.Woset
word_symbol word.Woclr = symbol.property property.Woclr
word_symbol w = symbol.word w

abbrev pub value_symbol : Value → Symbol
value_symbol (values.Number n) = number n
value_symbol (values.Text t) = symbol.text t
value_symbol (values.Bool b) = symbol.truth b
value_symbol (values.Word w) = word_symbol w

abbrev pub equals_words : Option Value → List Symbol → List Symbol
equals_words None after = after
equals_words (Some v) after = mark Equals ∷ value_symbol v ∷ after

-- PROP, or PROP = VALUE
abbrev pub assigned_words : Prop → Option Value → List Symbol → List Symbol
assigned_words p v after = prop_symbol p ∷ equals_words v (mark Semicolon ∷ after)

abbrev pub dots_words : List (List ℕ) → List Symbol → List Symbol
dots_words [] after = after
dots_words (n ∷ ns) after = mark Dot ∷ name n ∷ dots_words ns after

abbrev mutual
  pub statement_words : Statement → List Symbol → List Symbol
  statement_words (define k n body) after =
      kind k ∷ name n ∷ mark OpenBrace ∷ words body (mark CloseBrace ∷ mark Semicolon ∷ after)
  statement_words (define_with o k n body i is) after =
      outside_words (at_front o)
      (kind k ∷ name n ∷ mark OpenBrace ∷ words body (mark CloseBrace ∷ outside_words (at_late o) (insts_words i is after)))
  statement_words (anonymous o k body i is) after =
      outside_words (at_front o)
      (kind k ∷ mark OpenBrace ∷ words body (mark CloseBrace ∷ outside_words (at_late o) (insts_words i is after)))
  statement_words (named o n i is) after = outside_words o (name n ∷ insts_words i is after)
  statement_words (own p v) after = assigned_words p v after
  statement_words (default p v) after = symbol.default ∷ assigned_words p v after
  statement_words (dynamic n ns p v) after = name n ∷ dots_words ns (mark Arrow ∷ assigned_words p v after)

  pub words : Statements → List Symbol → List Symbol
  words none after = after
  words (one s ss) after = statement_words s (words ss after)

-- ---- The items that each form stands for.

abbrev pub dims_of : Brackets → List ℕ
dims_of (sizes ns) = ns
dims_of (range h l) = []

abbrev pub range_of : Brackets → Option (ℕ × ℕ)
range_of (sizes ns) = None
range_of (range h l) = Some (h, l)

abbrev pub shell_of : Outside → Inst → Shell
shell_of o i = record { name = i.name; outside = o; dims = dims_of i.brackets; range = range_of i.brackets; reset = i.reset; address = i.address; stride = i.stride; align = i.align }

abbrev pub instance : Outside → Of → Inst → Item
instance o of i = Instance (shell_of o i) of

abbrev pub instances : Outside → Of → Inst → List Inst → List Item
instances o of i is = map (instance o of) (i ∷ is)

abbrev pub said : Option Outside → Outside
said None = Unsaid
said (Some o) = o

abbrev pub out_of : Out → Outside
out_of nowhere = Unsaid
out_of (front o) = o
out_of (late o) = o

abbrev pub prop_text : Prop → List ℕ
prop_text (free n) = n
prop_text (reserved p) = property_text p

abbrev pub value_of : Option Value → Value
value_of None = values.Bool true
value_of (Some v) = v

abbrev pub component : Kind → Items → Component
component k b = record { kind = k; body = b }

abbrev mutual
  pub statement_items : Statement → List Item
  statement_items (define k n body) = Define n (component k (items_of (items body))) ∷ []
  statement_items (define_with o k n body i is) =
      Define n (component k (items_of (items body))) ∷ instances (out_of o) (Named n) i is
  statement_items (anonymous o k body i is) = instances (out_of o) (Anonymous (component k (items_of (items body)))) i is
  statement_items (named o n i is) = instances (said o) (Named n) i is
  statement_items (own p v) = Own (prop_text p) (value_of v) ∷ []
  statement_items (default p v) = Default (prop_text p) (value_of v) ∷ []
  statement_items (dynamic n ns p v) = Dynamic (n ∷ ns) (prop_text p) (value_of v) ∷ []

  pub items : Statements → List Item
  items none = []
  items (one s ss) = statement_items s ++ items ss

-- ---- Where the word of each item stands, in pre-order: how many words there are from it on.

-- an instance stands at its name, and has inside it what its body has
abbrev pub inst_spots : List Spot → Inst → List Symbol → List Spot
inst_spots inner i after = spot (length (inst_words i after)) inner ∷ inner

abbrev pub others_spots : List Spot → List Inst → List Symbol → List Spot
others_spots inner [] after = []
others_spots inner (i ∷ is) after = inst_spots inner i (others_words is after) ++ others_spots inner is after

abbrev pub insts_spots : List Spot → Inst → List Inst → List Symbol → List Spot
insts_spots inner i is after =
    inst_spots inner i (others_words is (mark Semicolon ∷ after)) ++ others_spots inner is (mark Semicolon ∷ after)

-- every other item stands at the first word of its statement
abbrev pub first_spots : List Spot → Statement → List Symbol → List Spot
first_spots inner st after = spot (length (statement_words st after)) inner ∷ inner

abbrev mutual
  pub statement_spots : Statement → List Symbol → List Spot
  statement_spots (define k n body) after =
      first_spots (spots body (mark CloseBrace ∷ mark Semicolon ∷ after)) (define k n body) after
  statement_spots (define_with o k n body i is) after =
      first_spots (spots body (mark CloseBrace ∷ outside_words (at_late o) (insts_words i is after))) (define_with o k n body i is) after
      ++ insts_spots [] i is after
  statement_spots (anonymous o k body i is) after =
      insts_spots (spots body (mark CloseBrace ∷ outside_words (at_late o) (insts_words i is after))) i is after
  statement_spots (named o n i is) after = insts_spots [] i is after
  statement_spots (own p v) after = first_spots [] (own p v) after
  statement_spots (default p v) after = first_spots [] (default p v) after
  statement_spots (dynamic n ns p v) after = first_spots [] (dynamic n ns p v) after

  pub spots : Statements → List Symbol → List Spot
  spots none after = []
  spots (one s ss) after = statement_spots s (words ss after) ++ spots ss after

-- ---- A text, and one statement.

-- the words spell the description, whose items stand at these places
abbrev pub Spells : List Symbol → Items → List Spot → Type 0
Spells ws d at = (t : Statements) × (ws ≡ words t []) × (d ≡ items_of (items t)) × (at ≡ spots t [])

-- the words are exactly one statement, which stands for these items
abbrev pub SpellsItems : List Symbol → List Item → Type 0
SpellsItems ws xs = (s : Statement) × (ws ≡ statement_words s []) × (xs ≡ statement_items s)
