-- The strings of what a UTF-8 text spells are UTF-8.
use Rattle.std.proofs.Common.{◌≡◌, ℕ, ◌<◌, List, [], ◌∷◌, ◌++◌, length, get_or, Ok, refl, ap, sym, subst, ◌∙◌, arith}
use Rattle.std.proofs.lemmas.List.{length-append}
use Rattle.std.proofs.lemmas.Str.{IsUtf8-take, IsUtf8-drop, IsCharBoundary-after_ascii, IsCharBoundary-before_ascii}
use Rattle.std.specs.Prelude.{IsUtf8}
use Rattle.rdl_text.specs.Spelling.{IsSpelled}
use Rattle.rdl_text.specs.WellSpelled.{AreWellSpelled}
use Rattle.rdl_text.specs.Word.{Word}
use Rattle.rdl_text.specs.Words as cutting
use Rattle.rdl_text.specs.declared.token.TokenKind.{TokenKind}
use Rattle.rdl_text.specs.declared.token.TokenKind.TheVariants as kinds
use Rattle.rdl_text.proofs.Bounds.{words_are_well_spelled}
use Rattle.rdl_text.proofs.Sources.{AreUtf8 as SourcesUtf8, words_are_utf8}
use Rattle.rdl_tree.specs.Items.{Items, Plain, named, own, default, dynamic}
use Rattle.rdl_tree.specs.View.{items_of}
use Rattle.rdl_tree.specs.declared.description.Item.{Item}
use Rattle.rdl_tree.specs.declared.value.Value.{Value}
use Rattle.rdl_tree.specs.declared.value.Value.TheVariants as values
use Rattle.rdl_parse.specs.declared.found.Spot.{Spot}
use Rattle.rdl_parse.specs.Symbol.{inside, symbols}
use Rattle.rdl_parse.specs.Spelling.{Spells, SpellsItems}
use Rattle.rdl_round.proofs.Each.{weaker}
use Rattle.rdl_session.proofs.Endings.{take_front}
use Rattle.rdl_round.proofs.Parts.{inside-quoted}
use Rattle.rdl_round.proofs.Suits.{Asks, Any, Every, SuitsKind, SuitsWord, SuitsValue, SuitsPlain, SuitsHolder, SuitsItems, spelled-suits, spelled-items-suit}
use Rattle.rdl_session.proofs.Utf8.{IsUtf8Value, IsUtf8Plain, IsUtf8Holder, AreUtf8}

-- a string is UTF-8
abbrev asks_utf8 : Asks
asks_utf8 = record { of_name = Any; of_string = IsUtf8; of_number = Any }

-- ---- The strings among the words of a UTF-8 text.

-- what stands between quotes
byte-at : (t rest : List ℕ) → get_or (t ++ 34 ∷ rest) (length t) 0 ≡ 34
byte-at [] rest = refl
byte-at (c ∷ cs) rest = byte-at cs rest

between : (t : List ℕ) → IsUtf8 (34 ∷ (t ++ (34 ∷ []))) → IsUtf8 t
between t u =
    let whole = 34 ∷ (t ++ (34 ∷ [])) in
    let long = length-append t (34 ∷ []) in
    let tail = IsUtf8-drop whole 1 u (IsCharBoundary-after_ascii whole 0 u (omega arith) (omega arith)) in
    let small : get_or (t ++ 34 ∷ []) (length t) 0 < 128 = rw (byte-at t []) (omega arith) in
    let end = IsCharBoundary-before_ascii (t ++ 34 ∷ []) (length t) (omega (arith, long)) small in
    subst IsUtf8 (take_front t (34 ∷ [])) (IsUtf8-take (t ++ 34 ∷ []) (length t) tail end)

kind-utf8 : (k : TokenKind) (source : List ℕ) → IsSpelled k source → IsUtf8 source → SuitsKind asks_utf8 k source
kind-utf8 kinds.Identifier source h u = λ free. tt
kind-utf8 (kinds.Number n) source h u = tt
kind-utf8 kinds.Text source h u = subst IsUtf8 (sym (ap inside h.1.quoted ∙ inside-quoted h.0)) (between h.0 (subst IsUtf8 h.1.quoted u))
kind-utf8 (kinds.Mark m) source h u = tt

words-utf8 : (ws : List Word) → AreWellSpelled ws → SourcesUtf8 ws → Every (SuitsWord asks_utf8) ws
words-utf8 [] h u = tt
words-utf8 (w ∷ ws) h u = (kind-utf8 w.kind w.source h.0.0 u.0, words-utf8 ws h.1 u.1)

text-utf8 : (s : List ℕ) (ws : List Word) → cutting.words s ≡ Ok ws → IsUtf8 s → Every (SuitsWord asks_utf8) ws
text-utf8 s ws e u = words-utf8 ws (words_are_well_spelled s ws e) (words_are_utf8 s ws e u)

-- ---- So are those of what they spell.

value-utf8 : (v : Value) → SuitsValue asks_utf8 v → IsUtf8Value v
value-utf8 (values.Number n) h = tt
value-utf8 (values.Text t) h = h
value-utf8 (values.Bool b) h = tt
value-utf8 (values.Word w) h = tt

plain-utf8 : (p : Plain) → SuitsPlain asks_utf8 p → IsUtf8Plain p
plain-utf8 (named s t) h = tt
plain-utf8 (own p v) h = value-utf8 v h.1
plain-utf8 (default p v) h = value-utf8 v h.1
plain-utf8 (dynamic t p v) h = value-utf8 v h.2

fine : (d : Items) → SuitsItems asks_utf8 d → AreUtf8 d
fine d h = weaker (SuitsPlain asks_utf8) IsUtf8Plain (SuitsHolder asks_utf8) IsUtf8Holder plain-utf8 (λ k suits. tt) d h

pub strings-utf8 : (s : List ℕ) (ws : List Word) (d : Items) (at : List Spot) → cutting.words s ≡ Ok ws → IsUtf8 s → Spells (symbols ws) d at → AreUtf8 d
strings-utf8 s ws d at e u spelled = fine d (spelled-suits asks_utf8 ws d at (text-utf8 s ws e u) spelled)

pub item-strings-utf8 : (s : List ℕ) (ws : List Word) (xs : List Item) → cutting.words s ≡ Ok ws → IsUtf8 s → SpellsItems (symbols ws) xs → AreUtf8 (items_of xs)
item-strings-utf8 s ws xs e u spelled = fine (items_of xs) (spelled-items-suit asks_utf8 ws xs (text-utf8 s ws e u) spelled)
