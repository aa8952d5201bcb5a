-- What suits each word of a text suits what the words spell: a name, a number and a string each have something that is asked of
-- them, and the items that a statement stands for are made of the names, numbers and strings of its words.
use Rattle.std.proofs.Common.{◌≡◌, ◌⊎◌, ℕ, List, [], ◌∷◌, map, Option, Some, None, inl, inr, refl, sym, subst}
use Rattle.std.specs.Prelude.{IfSome}
use Rattle.rdl_text.specs.Word.{Word}
use Rattle.rdl_text.specs.declared.token.Mark.{Mark}
use Rattle.rdl_text.specs.declared.token.Mark.TheVariants.{CloseBrace, Semicolon, Equals, At, PlusEquals, PercentEquals, Arrow}
use Rattle.rdl_text.specs.declared.token.TokenKind.{TokenKind}
use Rattle.rdl_text.specs.declared.token.TokenKind.TheVariants as kinds
use Rattle.rdl_tree.specs.Items.{Items, Plain, Holder}
use Rattle.rdl_tree.specs.Items as items
use Rattle.rdl_tree.specs.View.{items_of}
use Rattle.rdl_tree.specs.declared.description.Item.{Item}
use Rattle.rdl_tree.specs.declared.description.Of.TheVariants.{Named, Anonymous}
use Rattle.rdl_tree.specs.declared.shell.Kind.{Kind}
use Rattle.rdl_tree.specs.declared.shell.Outside.{Outside}
use Rattle.rdl_tree.specs.declared.shell.Shell.{Shell}
use Rattle.rdl_tree.specs.declared.value.Value.{Value}
use Rattle.rdl_tree.specs.declared.value.Value.TheVariants as values
use Rattle.rdl_parse.specs.Class.{class}
use Rattle.rdl_parse.specs.declared.class.Class.{Class}
use Rattle.rdl_parse.specs.declared.class.Class.TheVariants as classes
use Rattle.rdl_parse.specs.declared.class.ReservedProperty.{ReservedProperty}
use Rattle.rdl_parse.specs.declared.found.Spot.{Spot}
use Rattle.rdl_parse.specs.Symbol.{Symbol, name, number, text, mark, inside, property_text, class_symbol, symbol_by, symbols}
use Rattle.rdl_parse.specs.Spelling.{Brackets, sizes, range, Inst, Prop, free, reserved, Statement, define, define_with, anonymous, named, own, default, dynamic, Statements, none, one, sizes_words, brackets_words, part_words, inst_words, others_words, insts_words, outside_words, at_front, at_late, equals_words, assigned_words, dots_words, statement_words, words, dims_of, range_of, shell_of, instance, said, out_of, prop_text, value_of, component, statement_items, items, Spells, SpellsItems}
use Rattle.rdl_round.specs.Spellable.{AreBrackets}
use Rattle.rdl_round.proofs.Each.{Each, together}

-- ---- What is asked of a name, a string and a number.

pub record Asks : Type 1 where
  pub of_name : List ℕ → Type 0
  pub of_string : List ℕ → Type 0
  pub of_number : ℕ → Type 0

-- nothing
abbrev pub Any : {X : Type 0} → X → Type 0
Any x = Unit {0}

abbrev pub Every : {X : Type 0} → (X → Type 0) → List X → Type 0
Every P [] = Unit {0}
Every P (x ∷ xs) = P x × Every P xs

-- ---- Of a word, as it stands in the text and as the grammar sees it.

abbrev pub SuitsKind : Asks → TokenKind → (source : List ℕ) → Type 0
SuitsKind a kinds.Identifier source = class source ≡ classes.Name → a.of_name source
SuitsKind a (kinds.Number n) source = a.of_number n
SuitsKind a kinds.Text source = a.of_string (inside source)
SuitsKind a (kinds.Mark m) source = Unit {0}

abbrev pub SuitsWord : Asks → Word → Type 0
SuitsWord a w = SuitsKind a w.kind w.source

abbrev pub Suits : Asks → Symbol → Type 0
Suits a (name n) = a.of_name n
Suits a (number n) = a.of_number n
Suits a (text t) = a.of_string t
Suits a w = Unit {0}

abbrev pub AllSuit : Asks → List Symbol → Type 0
AllSuit a [] = Unit {0}
AllSuit a (w ∷ ws) = Suits a w × AllSuit a ws

-- ---- Of items.

pub record SuitsShell (a : Asks) (s : Shell) : Type 0 where
  pub name : a.of_name s.name
  pub dims : Every a.of_number s.dims
  pub range : IfSome s.range (λ r. a.of_number r.0 × a.of_number r.1)
  pub reset : IfSome s.reset a.of_number
  pub address : IfSome s.address a.of_number
  pub stride : IfSome s.stride a.of_number
  pub align : IfSome s.align a.of_number
  pub brackets : AreBrackets s.dims s.range

-- a name, or a reserved word that is a property
abbrev pub SuitsProperty : Asks → List ℕ → Type 0
SuitsProperty a p = a.of_name p ⊎ ((q : ReservedProperty) × (p ≡ property_text q))

abbrev pub SuitsValue : Asks → Value → Type 0
SuitsValue a (values.Number n) = a.of_number n
SuitsValue a (values.Text t) = a.of_string t
SuitsValue a (values.Bool b) = Unit {0}
SuitsValue a (values.Word w) = Unit {0}

abbrev pub SuitsTarget : Asks → List (List ℕ) → Type 0
SuitsTarget a [] = ⊥
SuitsTarget a (n ∷ ns) = a.of_name n × Every a.of_name ns

abbrev pub SuitsPlain : Asks → Plain → Type 0
SuitsPlain a (items.named s t) = SuitsShell a s × a.of_name t
SuitsPlain a (items.own p v) = SuitsProperty a p × SuitsValue a v
SuitsPlain a (items.default p v) = SuitsProperty a p × SuitsValue a v
SuitsPlain a (items.dynamic t p v) = SuitsTarget a t × SuitsProperty a p × SuitsValue a v

abbrev pub SuitsHolder : Asks → Holder → Type 0
SuitsHolder a (items.define n k) = a.of_name n
SuitsHolder a (items.anonymous s k) = SuitsShell a s

abbrev pub SuitsItems : Asks → Items → Type 0
SuitsItems a d = Each (SuitsPlain a) (SuitsHolder a) d

-- ---- The words of a text, as the grammar sees them.

class-suits : (a : Asks) (c : Class) (n : List ℕ) → (c ≡ classes.Name → a.of_name n) → Suits a (class_symbol c n)
class-suits a (classes.Kind k) n h = tt
class-suits a (classes.Outside o) n h = tt
class-suits a classes.Default n h = tt
class-suits a (classes.Truth b) n h = tt
class-suits a (classes.Property p) n h = tt
class-suits a (classes.Word w) n h = tt
class-suits a classes.Reserved n h = tt
class-suits a classes.Name n h = h refl

kind-suits : (a : Asks) (k : TokenKind) (source : List ℕ) → SuitsKind a k source → Suits a (symbol_by k source)
kind-suits a kinds.Identifier source h = class-suits a (class source) source h
kind-suits a (kinds.Number n) source h = h
kind-suits a kinds.Text source h = h
kind-suits a (kinds.Mark m) source h = tt

pub symbols-suit : (a : Asks) (ws : List Word) → Every (SuitsWord a) ws → AllSuit a (symbols ws)
symbols-suit a [] h = tt
symbols-suit a (w ∷ ws) h = (kind-suits a w.kind w.source h.0, symbols-suit a ws h.1)

module _ (a : Asks) where
  -- ---- So are those of each part of a statement, and those behind it.

  past-sizes : (ns : List ℕ) (after : List Symbol) → AllSuit a (sizes_words ns after) → Every a.of_number ns × AllSuit a after
  past-sizes [] after h = (tt, h)
  past-sizes (n ∷ ns) after h = let others = past-sizes ns after h.1.1.1 in ((h.1.0, others.0), others.1)

  abbrev AreInBrackets : Brackets → Type 0
  AreInBrackets b = Every a.of_number (dims_of b) × IfSome (range_of b) (λ r. a.of_number r.0 × a.of_number r.1)

  past-brackets : (b : Brackets) (after : List Symbol) → AllSuit a (brackets_words b after) → AreInBrackets b × AllSuit a after
  past-brackets (sizes ns) after h = let p = past-sizes ns after h in ((p.0, tt), p.1)
  past-brackets (range high low) after h = ((tt, (h.1.0, h.1.1.1.0)), h.1.1.1.1.1)

  past-part : (m : Mark) (o : Option ℕ) (after : List Symbol) → AllSuit a (part_words m o after) → IfSome o a.of_number × AllSuit a after
  past-part m None after h = (tt, h)
  past-part m (Some n) after h = (h.1.0, h.1.1)

  brackets-fit : (b : Brackets) → AreBrackets (dims_of b) (range_of b)
  brackets-fit (sizes ns) = tt
  brackets-fit (range high low) = tt

  -- the shell of an instance, whatever stands before its type
  abbrev IsInst : Inst → Type 0
  IsInst i = (o : Outside) → SuitsShell a (shell_of o i)

  past-inst : (i : Inst) (after : List Symbol) → AllSuit a (inst_words i after) → IsInst i × AllSuit a after
  past-inst i after h =
      let l = part_words PercentEquals i.align after in
      let s = part_words PlusEquals i.stride l in
      let at = part_words At i.address s in
      let r = part_words Equals i.reset at in
      let brackets = past-brackets i.brackets r h.1 in
      let reset = past-part Equals i.reset at brackets.1 in
      let address = past-part At i.address s reset.1 in
      let stride = past-part PlusEquals i.stride l address.1 in
      let align = past-part PercentEquals i.align after stride.1 in (
        (λ o. record { name = h.0; dims = brackets.0.0; range = brackets.0.1; reset = reset.0; address = address.0; stride = stride.0; align = align.0; brackets = brackets-fit i.brackets }),
        align.1,
      )

  past-others : (is : List Inst) (after : List Symbol) → AllSuit a (others_words is after) → Every IsInst is × AllSuit a after
  past-others [] after h = (tt, h)
  past-others (i ∷ is) after h =
      let first = past-inst i (others_words is after) h.1 in
      let others = past-others is after first.1 in
      ((first.0, others.0), others.1)

  past-insts : (i : Inst) (is : List Inst) (after : List Symbol) → AllSuit a (insts_words i is after) → Every IsInst (i ∷ is) × AllSuit a after
  past-insts i is after h =
      let first = past-inst i (others_words is (mark Semicolon ∷ after)) h in
      let others = past-others is (mark Semicolon ∷ after) first.1 in
      ((first.0, others.0), others.1.1)

  past-outside : (o : Option Outside) (after : List Symbol) → AllSuit a (outside_words o after) → AllSuit a after
  past-outside None after h = h
  past-outside (Some o) after h = h.1

  past-value : (v : Option Value) (after : List Symbol) → AllSuit a (equals_words v (mark Semicolon ∷ after)) → SuitsValue a (value_of v) × AllSuit a after
  past-value None after h = (tt, h.1)
  past-value (Some (values.Number n)) after h = (h.1.0, h.1.1.1)
  past-value (Some (values.Text t)) after h = (h.1.0, h.1.1.1)
  past-value (Some (values.Bool b)) after h = (tt, h.1.1.1)
  past-value (Some (values.Word w)) after h = (tt, h.1.1.1)

  past-assigned : (p : Prop) (v : Option Value) (after : List Symbol) → AllSuit a (assigned_words p v after) → SuitsProperty a (prop_text p) × SuitsValue a (value_of v) × AllSuit a after
  past-assigned (free n) v after h = let w = past-value v after h.1 in (inl h.0, w.0, w.1)
  past-assigned (reserved p) v after h = let w = past-value v after h.1 in (inr (p, refl), w.0, w.1)

  past-dots : (ns : List (List ℕ)) (after : List Symbol) → AllSuit a (dots_words ns after) → Every a.of_name ns × AllSuit a after
  past-dots [] after h = (tt, h)
  past-dots (n ∷ ns) after h = let others = past-dots ns after h.1.1 in ((h.1.0, others.0), others.1)

  -- ---- What instances and statements stand for.

  named-suit : (o : Outside) (n : List ℕ) (is : List Inst) → a.of_name n → Every IsInst is → SuitsItems a (items_of (map (instance o (Named n)) is))
  named-suit o n [] f h = tt
  named-suit o n (i ∷ is) f h = ((h.0 o, f), named-suit o n is f h.1)

  anonymous-suit : (o : Outside) (k : Kind) (body : Items) (is : List Inst) → SuitsItems a body → Every IsInst is → SuitsItems a (items_of (map (instance o (Anonymous (component k body))) is))
  anonymous-suit o k body [] b h = tt
  anonymous-suit o k body (i ∷ is) b h = (h.0 o, b, anonymous-suit o k body is b h.1)

  mutual
    statement-suits : (s : Statement) (after : List Symbol) → AllSuit a (statement_words s after) → SuitsItems a (items_of (statement_items s)) × AllSuit a after
    statement-suits (define k n body) after h =
        let b = statements-suit body (mark CloseBrace ∷ mark Semicolon ∷ after) h.1.1.1 in
        ((h.1.0, b.0, tt), b.1.1.1)
    statement-suits (define_with o k n body i is) after h =
        let g = past-outside (at_front o) _ h in
        let b = statements-suit body (mark CloseBrace ∷ outside_words (at_late o) (insts_words i is after)) g.1.1.1 in
        let p = past-insts i is after (past-outside (at_late o) (insts_words i is after) b.1.1) in
        ((g.1.0, b.0, named-suit (out_of o) n (i ∷ is) g.1.0 p.0), p.1)
    statement-suits (anonymous o k body i is) after h =
        let g = past-outside (at_front o) _ h in
        let b = statements-suit body (mark CloseBrace ∷ outside_words (at_late o) (insts_words i is after)) g.1.1 in
        let p = past-insts i is after (past-outside (at_late o) (insts_words i is after) b.1.1) in
        (anonymous-suit (out_of o) k (items_of (items body)) (i ∷ is) b.0 p.0, p.1)
    statement-suits (named o n i is) after h =
        let g = past-outside o (name n ∷ insts_words i is after) h in
        let p = past-insts i is after g.1 in
        (named-suit (said o) n (i ∷ is) g.0 p.0, p.1)
    statement-suits (own p v) after h = let w = past-assigned p v after h in (((w.0, w.1), tt), w.2)
    statement-suits (default p v) after h = let w = past-assigned p v after h.1 in (((w.0, w.1), tt), w.2)
    statement-suits (dynamic n ns p v) after h =
        let d = past-dots ns (mark Arrow ∷ assigned_words p v after) h.1 in
        let w = past-assigned p v after d.1.1 in
        ((((h.0, d.0), w.0, w.1), tt), w.2)

    statements-suit : (t : Statements) (after : List Symbol) → AllSuit a (words t after) → SuitsItems a (items_of (items t)) × AllSuit a after
    statements-suit none after h = (tt, h)
    statements-suit (one s ss) after h =
        let first = statement-suits s (words ss after) h in
        let others = statements-suit ss after first.1 in
        (together (SuitsPlain a) (SuitsHolder a) (statement_items s) (items ss) first.0 others.0, others.1)

  pub spelled-suits : (ws : List Word) (d : Items) (at : List Spot) → Every (SuitsWord a) ws → Spells (symbols ws) d at → SuitsItems a d
  spelled-suits ws d at h s = subst (SuitsItems a) (sym s.2) (statements-suit s.0 [] (subst (AllSuit a) s.1 (symbols-suit a ws h))).0

  pub spelled-items-suit : (ws : List Word) (xs : List Item) → Every (SuitsWord a) ws → SpellsItems (symbols ws) xs → SuitsItems a (items_of xs)
  spelled-items-suit ws xs h s = subst (λ ys. SuitsItems a (items_of ys)) (sym s.2) (statement-suits s.0 [] (subst (AllSuit a) s.1 (symbols-suit a ws h))).0
