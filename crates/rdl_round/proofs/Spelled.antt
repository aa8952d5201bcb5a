-- Every description that words of a text spell is one that a text can spell: its names aren't reserved.
use Rattle.std.proofs.Common.{ℕ, List, [], ◌∷◌}
use Rattle.rdl_text.specs.Word.{Word}
use Rattle.rdl_text.specs.declared.token.TokenKind.{TokenKind}
use Rattle.rdl_text.specs.declared.token.TokenKind.TheVariants as kinds
use Rattle.rdl_tree.specs.Items.{Items, Plain, named, own, default, dynamic, Holder, define, anonymous}
use Rattle.rdl_tree.specs.View.{items_of}
use Rattle.rdl_tree.specs.declared.description.Item.{Item}
use Rattle.rdl_tree.specs.declared.shell.Shell.{Shell}
use Rattle.rdl_parse.specs.declared.found.Spot.{Spot}
use Rattle.rdl_parse.specs.Symbol.{symbols}
use Rattle.rdl_parse.specs.Spelling.{Spells, SpellsItems}
use Rattle.rdl_round.specs.Spellable.{IsFree, AreFree, IsTarget, IsShell, IsPlain, IsHolder, IsSpellable}
use Rattle.rdl_round.proofs.Bodies.{spellable-each}
use Rattle.rdl_round.proofs.Each.{weaker}
use Rattle.rdl_round.proofs.Suits.{Asks, Any, Every, SuitsKind, SuitsWord, SuitsShell, SuitsTarget, SuitsPlain, SuitsHolder, SuitsItems, spelled-suits, spelled-items-suit}

-- a name isn't reserved
abbrev asks_free : Asks
asks_free = record { of_name = IsFree; of_string = Any; of_number = Any }

kind-free : (k : TokenKind) (source : List ℕ) → SuitsKind asks_free k source
kind-free kinds.Identifier source = λ free. free
kind-free (kinds.Number n) source = tt
kind-free kinds.Text source = tt
kind-free (kinds.Mark m) source = tt

words-free : (ws : List Word) → Every (SuitsWord asks_free) ws
words-free [] = tt
words-free (w ∷ ws) = (kind-free w.kind w.source, words-free ws)

names-free : (ns : List (List ℕ)) → Every IsFree ns → AreFree ns
names-free [] h = tt
names-free (n ∷ ns) h = (h.0, names-free ns h.1)

shell-fits : (s : Shell) → SuitsShell asks_free s → IsShell s
shell-fits s h = record { free = h.name; brackets = h.brackets }

target-fits : (t : List (List ℕ)) → SuitsTarget asks_free t → IsTarget t
target-fits [] h = h
target-fits (n ∷ ns) h = (h.0, names-free ns h.1)

plain-fits : (p : Plain) → SuitsPlain asks_free p → IsPlain p
plain-fits (named s t) h = (h.1, shell-fits s h.0)
plain-fits (own p v) h = h.0
plain-fits (default p v) h = h.0
plain-fits (dynamic t p v) h = (target-fits t h.0, h.1)

holder-fits : (h : Holder) → SuitsHolder asks_free h → IsHolder h
holder-fits (define n k) h = h
holder-fits (anonymous s k) h = shell-fits s h

fits : (d : Items) → SuitsItems asks_free d → IsSpellable d
fits d h = spellable-each d (weaker (SuitsPlain asks_free) IsPlain (SuitsHolder asks_free) IsHolder plain-fits holder-fits d h)

pub spelled-spellable : (ws : List Word) (d : Items) (at : List Spot) → Spells (symbols ws) d at → IsSpellable d
spelled-spellable ws d at s = fits d (spelled-suits asks_free ws d at (words-free ws) s)

pub statement-spellable : (ws : List Word) (xs : List Item) → SpellsItems (symbols ws) xs → IsSpellable (items_of xs)
statement-spellable ws xs s = fits (items_of xs) (spelled-items-suit asks_free ws xs (words-free ws) s)
