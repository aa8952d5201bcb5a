-- Every description that the words of a text spell is made of words.
use Rattle.std.proofs.Common.{◌≡◌, ℕ, List, [], ◌∷◌, Option, Some, None, Ok, inl, inr, ap, sym, subst, ◌∙◌}
use Rattle.std.specs.Prelude.{IfSome}
use Rattle.rdl_text.specs.Name.{IsName}
use Rattle.rdl_text.specs.Raw.{IsRaw}
use Rattle.rdl_text.specs.Spelling.{IsSpelled}
use Rattle.rdl_text.specs.WellSpelled.{IsBounded, AreWellSpelled}
use Rattle.rdl_text.specs.Word.{Word}
use Rattle.rdl_text.specs.Words as cutting
use Rattle.rdl_text.specs.declared.token.TokenKind.{TokenKind}
use Rattle.rdl_text.specs.declared.token.TokenKind.TheVariants as kinds
use Rattle.rdl_text.proofs.Bounds.{words_are_well_spelled}
use Rattle.rdl_tree.specs.Items.{Items, Plain, named, own, default, dynamic, Holder, define, anonymous}
use Rattle.rdl_tree.specs.View.{items_of}
use Rattle.rdl_tree.specs.declared.description.Item.{Item}
use Rattle.rdl_tree.specs.declared.shell.Shell.{Shell}
use Rattle.rdl_tree.specs.declared.value.Value.{Value}
use Rattle.rdl_tree.specs.declared.value.Value.TheVariants as values
use Rattle.rdl_parse.specs.declared.found.Spot.{Spot}
use Rattle.rdl_parse.specs.Symbol.{Symbol, inside, symbols}
use Rattle.rdl_parse.specs.Spelling.{Spells, SpellsItems}
use Rattle.rdl_parse.proofs.Words.{property_is_name}
use Rattle.rdl_round.specs.OfWords.{IsNumber, AreNumbers, IsPart, IsRange, AreNames, IsValue, IsShellOfWords, IsPlainOfWords, IsHolderOfWords, IsOfWords}
use Rattle.rdl_round.proofs.Bodies.{of-words-each}
use Rattle.rdl_round.proofs.Each.{weaker}
use Rattle.rdl_round.proofs.Parts.{inside-quoted}
use Rattle.rdl_round.proofs.Suits.{Asks, Every, SuitsKind, SuitsWord, Suits, AllSuit, SuitsShell, SuitsProperty, SuitsValue, SuitsTarget, SuitsPlain, SuitsHolder, SuitsItems, symbols-suit, spelled-suits, spelled-items-suit}

-- a name is an identifier, a string can stand between quotes, and a number has the bits of one
abbrev asks_words : Asks
asks_words = record { of_name = IsName; of_string = IsRaw; of_number = IsNumber }

-- ---- The words of a text are well spelled, as the grammar sees them too.

abbrev pub IsWell : Symbol → Type 0
IsWell w = Suits asks_words w

abbrev pub AreWell : List Symbol → Type 0
AreWell ws = AllSuit asks_words ws

kind-well : (k : TokenKind) (source : List ℕ) → IsSpelled k source → IsBounded k → SuitsKind asks_words k source
kind-well kinds.Identifier source h b = λ free. h
kind-well (kinds.Number n) source h b = b
kind-well kinds.Text source h b = subst IsRaw (sym (ap inside h.1.quoted ∙ inside-quoted h.0)) h.1.raw
kind-well (kinds.Mark m) source h b = tt

words-well : (ws : List Word) → AreWellSpelled ws → Every (SuitsWord asks_words) ws
words-well [] h = tt
words-well (w ∷ ws) h = (kind-well w.kind w.source h.0.0 h.0.1, words-well ws h.1)

pub symbols-well : (ws : List Word) → AreWellSpelled ws → AreWell (symbols ws)
symbols-well ws h = symbols-suit asks_words ws (words-well ws h)

-- ---- So is what they spell.

numbers-made : (ns : List ℕ) → Every IsNumber ns → AreNumbers ns
numbers-made [] h = tt
numbers-made (n ∷ ns) h = (h.0, numbers-made ns h.1)

part-made : (o : Option ℕ) → IfSome o IsNumber → IsPart o
part-made None h = tt
part-made (Some n) h = h

range-made : (o : Option (ℕ × ℕ)) → IfSome o (λ r. IsNumber r.0 × IsNumber r.1) → IsRange o
range-made None h = tt
range-made (Some r) h = h

names-made : (ns : List (List ℕ)) → Every IsName ns → AreNames ns
names-made [] h = tt
names-made (n ∷ ns) h = (h.0, names-made ns h.1)

shell-made : (s : Shell) → SuitsShell asks_words s → IsShellOfWords s
shell-made s h = record {
  name = h.name;
  dims = numbers-made s.dims h.dims;
  range = range-made s.range h.range;
  reset = part-made s.reset h.reset;
  address = part-made s.address h.address;
  stride = part-made s.stride h.stride;
  align = part-made s.align h.align;
}

property-made : (p : List ℕ) → SuitsProperty asks_words p → IsName p
property-made p (inl h) = h
property-made p (inr reserved) = subst IsName (sym reserved.1) (property_is_name reserved.0)

value-made : (v : Value) → SuitsValue asks_words v → IsValue v
value-made (values.Number n) h = h
value-made (values.Text t) h = h
value-made (values.Bool b) h = h
value-made (values.Word w) h = h

target-made : (t : List (List ℕ)) → SuitsTarget asks_words t → AreNames t
target-made [] h = absurd h
target-made (n ∷ ns) h = (h.0, names-made ns h.1)

plain-made : (p : Plain) → SuitsPlain asks_words p → IsPlainOfWords p
plain-made (named s t) h = (shell-made s h.0, h.1)
plain-made (own p v) h = (property-made p h.0, value-made v h.1)
plain-made (default p v) h = (property-made p h.0, value-made v h.1)
plain-made (dynamic t p v) h = (target-made t h.0, property-made p h.1, value-made v h.2)

holder-made : (h : Holder) → SuitsHolder asks_words h → IsHolderOfWords h
holder-made (define n k) h = h
holder-made (anonymous s k) h = shell-made s h

made : (d : Items) → SuitsItems asks_words d → IsOfWords d
made d h = of-words-each d (weaker (SuitsPlain asks_words) IsPlainOfWords (SuitsHolder asks_words) IsHolderOfWords plain-made holder-made d h)

pub spelled-made : (s : List ℕ) (ws : List Word) (d : Items) (at : List Spot) → cutting.words s ≡ Ok ws → Spells (symbols ws) d at → IsOfWords d
spelled-made s ws d at cut spelled = made d (spelled-suits asks_words ws d at (words-well ws (words_are_well_spelled s ws cut)) spelled)

pub statement-of-words : (s : List ℕ) (ws : List Word) (xs : List Item) → cutting.words s ≡ Ok ws → SpellsItems (symbols ws) xs → IsOfWords (items_of xs)
statement-of-words s ws xs cut spelled = made (items_of xs) (spelled-items-suit asks_words ws xs (words-well ws (words_are_well_spelled s ws cut)) spelled)
