-- What reading a text answers: what it spells within the limits, or its first fault.
-- Own; which of S9 to S12 stands, and where S9 stands, is as in Reading.
use Rattle.std.specs.Prelude.{◌≡◌, ◌≤◌, ◌<◌, ◌+◌, ℕ, List, ◌∷◌, ◌++◌, length, Ok, Err}
use Rattle.rdl_text.specs.Word.{Word}
use Rattle.rdl_text.specs.Words.{words}
use Rattle.rdl_text.specs.declared.token.Mark.TheVariants.{OpenBrace, Semicolon}
use Rattle.rdl_tree.specs.Items.{Items}
use Rattle.rdl_tree.specs.View.{items_of}
use Rattle.rdl_tree.specs.Limits.{IsWithinLimits}
use Rattle.rdl_tree.specs.declared.description.Item.{Item}
use Rattle.rdl_parse.specs.declared.found.Spot.{Spot}
use Rattle.rdl_parse.specs.declared.fault.ParseFault.{ParseFault}
use Rattle.rdl_parse.specs.declared.fault.ParseFaultKind.{ParseFaultKind}
use Rattle.rdl_parse.specs.declared.fault.ParseFaultKind.TheVariants.{Words, UnexpectedWord, UnexpectedEnd, TooDeep, TooLarge, TooLong}
use Rattle.rdl_text.specs.declared.fault.WordFault.{WordFault}
use Rattle.rdl_parse.specs.Faults.{max_text}
use Rattle.rdl_parse.specs.Places.{Located, located}
use Rattle.rdl_parse.specs.Spelling.{Spells, SpellsItems}
use Rattle.rdl_parse.specs.Reading.{limit}
use Rattle.rdl_parse.specs.Stands.{opens, closes, Opened, opened_words, before_last, with_last, HasRoom}
use Rattle.rdl_parse.specs.Symbol.{Symbol, symbol, symbols, mark}

-- the text isn't too long, and these are its words
pub record HasWords (text : List ℕ) (ws : List Word) : Type 0 where
  pub short : length text ≤ max_text
  pub cut : words text ≡ Ok ws

-- the text spells the description, whose items have these places
pub record SpellsText (text : List ℕ) (d : Items) (p : Located) : Type 0 where
  pub ws : List Word
  pub spots : List Spot
  pub has_words : HasWords text ws
  pub spelled : Spells (symbols ws) d spots
  pub places_are : p ≡ located text ws spots

-- the text is exactly one statement, which stands for these items
pub record SpellsItemText (text : List ℕ) (xs : List Item) : Type 0 where
  pub ws : List Word
  pub has_words : HasWords text ws
  pub spelled : SpellsItems (symbols ws) xs

-- ---- Faults.

-- the words spell nothing within the limits
abbrev pub SpellsNone : {X : Type 0} → (List Symbol → X → Type 0) → (X → Type 0) → List Word → Type 0
SpellsNone {X} spells within ws = (x : X) → spells (symbols ws) x → within x → ⊥

-- at one of the words
pub record IsAtWord (ws : List Word) (offset : ℕ) : Type 0 where
  pub before : List Word
  pub word : Word
  pub after : List Word
  pub parts : ws ≡ before ++ word ∷ after
  pub offset_is : offset ≡ word.start

-- at a brace with sixteen open before it
pub record IsAtDeepBrace (ws : List Word) (offset : ℕ) : Type 0 where
  pub at : IsAtWord ws offset
  pub brace : symbol at.word ≡ mark OpenBrace
  pub opened : opens (symbols at.before) ≡ closes (symbols at.before) + 16

-- at the semicolon of the first finished statement for which there is no room: with its items the limits are passed, without them they aren't
pub record IsAtLargeStatement (ws : List Word) (offset : ℕ) : Type 0 where
  pub at : IsAtWord ws offset
  pub semicolon : symbol at.word ≡ mark Semicolon
  pub opened : Opened
  pub words_are : symbols ws ≡ opened_words opened (symbols at.after)
  pub fitted : HasRoom limit (before_last opened)
  pub full : HasRoom limit (with_last opened) → ⊥

-- the text has words that spell nothing within the limits, and the fault stands so
pub record HasStatementFault {X : Type 0} (spells : List Symbol → X → Type 0) (within : X → Type 0) (stands : List Word → ℕ → Type 0) (text : List ℕ) (offset : ℕ) : Type 0 where
  pub ws : List Word
  pub has_words : HasWords text ws
  pub none : SpellsNone spells within ws
  pub stands_so : stands ws offset

-- the text isn't too long, and its words have this first fault
pub record HasWordFault (text : List ℕ) (kind : WordFault) (offset : ℕ) : Type 0 where
  pub short : length text ≤ max_text
  pub fault : words text ≡ Err (record { kind = kind; offset = offset })

-- the fault is the text's, by what is to be spelled and the limits of it
abbrev pub RefusesBy : {X : Type 0} → (List Symbol → X → Type 0) → (X → Type 0) → List ℕ → ParseFaultKind → ℕ → Type 0
RefusesBy spells within text TooLong offset = (max_text < length text) × (offset ≡ 0)
RefusesBy spells within text (Words kind) offset = HasWordFault text kind offset
RefusesBy spells within text UnexpectedWord offset = HasStatementFault spells within IsAtWord text offset
RefusesBy spells within text UnexpectedEnd offset = HasStatementFault spells within (λ ws at. at ≡ length text) text offset
RefusesBy spells within text TooDeep offset = HasStatementFault spells within IsAtDeepBrace text offset
RefusesBy spells within text TooLarge offset = HasStatementFault spells within IsAtLargeStatement text offset

-- the words spell the description
abbrev pub SpellsSomewhere : List Symbol → Items → Type 0
SpellsSomewhere ws d = (at : List Spot) × Spells ws d at

-- the text is no description within the limits, and this is its fault
abbrev pub Refuses : List ℕ → ParseFault → Type 0
Refuses text f = RefusesBy SpellsSomewhere IsWithinLimits text f.kind f.offset

-- the text is no statement within the limits, and this is its fault
abbrev pub RefusesItem : List ℕ → ParseFault → Type 0
RefusesItem text f = RefusesBy SpellsItems (λ xs. IsWithinLimits (items_of xs)) text f.kind f.offset
