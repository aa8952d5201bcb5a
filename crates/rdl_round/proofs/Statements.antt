-- The statements that a written map has, their words, and the items for which they stand.
use Rattle.std.proofs.Common.{◌≡◌, ℕ, List, [], ◌∷◌, ◌++◌, Option, Some, None, refl, ap, ◌∙◌}
use Rattle.rdl_text.specs.declared.token.Mark.TheVariants.{OpenBrace, CloseBrace, Semicolon, Dot, Equals, At, PlusEquals, PercentEquals, Arrow}
use Rattle.rdl_tree.specs.Items.{Items, no_items, plain, holder, Plain, Holder}
use Rattle.rdl_tree.specs.Items as items
use Rattle.rdl_tree.specs.View.{items_of}
use Rattle.rdl_tree.specs.declared.description.Item.{Item}
use Rattle.rdl_tree.specs.declared.description.Item.TheVariants.{Define, Instance, Own, Default, Dynamic}
use Rattle.rdl_tree.specs.declared.description.Of.TheVariants.{Named, Anonymous}
use Rattle.rdl_tree.specs.declared.shell.Kind.{Kind}
use Rattle.rdl_tree.specs.declared.shell.Outside.{Outside}
use Rattle.rdl_tree.specs.declared.shell.Outside.TheVariants.{Unsaid, External, Internal}
use Rattle.rdl_tree.specs.declared.shell.Shell.{Shell}
use Rattle.rdl_tree.specs.declared.value.Value.{Value}
use Rattle.rdl_parse.specs.declared.found.Spot.{Spot}
use Rattle.rdl_parse.specs.Symbol.{Symbol, mark, name, kind}
use Rattle.rdl_parse.specs.Spelling as grammar
use Rattle.rdl_parse.specs.Spelling.{Brackets, sizes, range, Inst, Out, nowhere, front, Statement, Statements, none, one, sizes_words, brackets_words, part_words, inst_words, at_front, out_of, said, dims_of, range_of, shell_of, component, prop_symbol, assigned_words, dots_words, Spells, SpellsItems}
use Rattle.rdl_round.specs.Spellable.{AreFree, IsProperty, AreBrackets, IsShell, IsPlain, IsHolder, IsSpellable}
use Rattle.rdl_round.specs.WrittenWords.{assignment_words, dotted_words, outside_words, range_words, shell_words, statement_words, open_words, close_words, body_words, map_words}
use Rattle.rdl_round.proofs.Classes.{free-is, kind-is, default-is, external-is, internal-is, value-is, prop_of, prop-word-is, prop-text-is}

-- ---- Instances.

abbrev pub brackets : List ℕ → Option (ℕ × ℕ) → Brackets
brackets dims None = sizes dims
brackets dims (Some r) = range r.0 r.1

abbrev pub inst : Shell → Inst
inst s = record { name = s.name; brackets = brackets s.dims s.range; reset = s.reset; address = s.address; stride = s.stride; align = s.align }

brackets-words : (dims : List ℕ) (r : Option (ℕ × ℕ)) (after : List Symbol) → AreBrackets dims r → sizes_words dims (range_words r after) ≡ brackets_words (brackets dims r) after
brackets-words dims None after h = refl
brackets-words [] (Some r) after h = refl
brackets-words (n ∷ ns) (Some r) after h = absurd h

dims-are : (dims : List ℕ) (r : Option (ℕ × ℕ)) → AreBrackets dims r → dims ≡ dims_of (brackets dims r)
dims-are dims None h = refl
dims-are [] (Some r) h = refl
dims-are (n ∷ ns) (Some r) h = absurd h

range-is : (dims : List ℕ) (r : Option (ℕ × ℕ)) → r ≡ range_of (brackets dims r)
range-is dims None = refl
range-is dims (Some r) = refl

abbrev behind : Shell → List Symbol → List Symbol
behind s after = part_words Equals s.reset (part_words At s.address (part_words PlusEquals s.stride (part_words PercentEquals s.align after)))

shell-words : (s : Shell) (after : List Symbol) → IsShell s → shell_words s after ≡ inst_words (inst s) after
shell-words s after h = λ i. free-is s.name h.free i ∷ brackets-words s.dims s.range (behind s after) h.brackets i

shell-is : (s : Shell) (o : Outside) → IsShell s → s.outside ≡ o → s ≡ shell_of o (inst s)
shell-is s o h e = λ i. record { name = s.name; outside = e i; dims = dims-are s.dims s.range h.brackets i; range = range-is s.dims s.range i; reset = s.reset; address = s.address; stride = s.stride; align = s.align }

-- ---- `external` and `internal`.

abbrev pub outside : Outside → Option Outside
outside Unsaid = None
outside External = Some External
outside Internal = Some Internal

outside-said : (o : Outside) → o ≡ said (outside o)
outside-said Unsaid = refl
outside-said External = refl
outside-said Internal = refl

outside-words : (o : Outside) (after : List Symbol) → outside_words o after ≡ grammar.outside_words (outside o) after
outside-words Unsaid after = refl
outside-words External after = ap (λ w. w ∷ after) external-is
outside-words Internal after = ap (λ w. w ∷ after) internal-is

abbrev pub out : Outside → Out
out Unsaid = nowhere
out External = front External
out Internal = front Internal

out-of : (o : Outside) → o ≡ out_of (out o)
out-of Unsaid = refl
out-of External = refl
out-of Internal = refl

-- ---- Statements without a body.

abbrev pub plain_statement : (p : Plain) → IsPlain p → Statement
plain_statement (items.named s type) h = grammar.named (outside s.outside) type (inst s) []
plain_statement (items.own p v) h = grammar.own (prop_of p h) (Some v)
plain_statement (items.default p v) h = grammar.default (prop_of p h) (Some v)
plain_statement (items.dynamic [] p v) h = absurd h.0
plain_statement (items.dynamic (n ∷ ns) p v) h = grammar.dynamic n ns (prop_of p h.1) (Some v)

assignment-words : (p : List ℕ) (v : Value) (after : List Symbol) (h : IsProperty p) → assignment_words p v (mark Semicolon ∷ after) ≡ assigned_words (prop_of p h) (Some v) after
assignment-words p v after h = λ i. prop-word-is p h i ∷ mark Equals ∷ value-is v i ∷ mark Semicolon ∷ after

dotted-words : (ns : List (List ℕ)) (after : List Symbol) → AreFree ns → dotted_words ns after ≡ dots_words ns after
dotted-words [] after h = refl
dotted-words (n ∷ ns) after h = λ i. mark Dot ∷ free-is n h.0 i ∷ dotted-words ns after h.1 i

pub plain-words : (p : Plain) (after : List Symbol) (h : IsPlain p) → statement_words p (mark Semicolon ∷ after) ≡ grammar.statement_words (plain_statement p h) after
plain-words (items.named s type) after h =
    outside-words s.outside _ ∙ ap (grammar.outside_words (outside s.outside)) (λ i. free-is type h.0 i ∷ shell-words s (mark Semicolon ∷ after) h.1 i)
plain-words (items.own p v) after h = assignment-words p v after h
plain-words (items.default p v) after h = λ i. default-is i ∷ assignment-words p v after h i
plain-words (items.dynamic [] p v) after h = absurd h.0
plain-words (items.dynamic (n ∷ ns) p v) after h =
    (λ i. free-is n h.0.0 i ∷ dotted-words ns (mark Arrow ∷ assignment_words p v (mark Semicolon ∷ after)) h.0.1 i)
    ∙ ap (λ ws. name n ∷ dots_words ns (mark Arrow ∷ ws)) (assignment-words p v after h.1)

abbrev pub plain_item : Plain → Item
plain_item (items.named s type) = Instance s (Named type)
plain_item (items.own p v) = Own p v
plain_item (items.default p v) = Default p v
plain_item (items.dynamic target p v) = Dynamic target p v

pub plain-items : (p : Plain) (h : IsPlain p) → plain_item p ∷ [] ≡ grammar.statement_items (plain_statement p h)
plain-items (items.named s type) h = ap (λ t. Instance t (Named type) ∷ []) (shell-is s (said (outside s.outside)) h.1 (outside-said s.outside))
plain-items (items.own p v) h = ap (λ n. Own n v ∷ []) (prop-text-is p h)
plain-items (items.default p v) h = ap (λ n. Default n v ∷ []) (prop-text-is p h)
plain-items (items.dynamic [] p v) h = absurd h.0
plain-items (items.dynamic (n ∷ ns) p v) h = ap (λ m. Dynamic (n ∷ ns) m v ∷ []) (prop-text-is p h.1)

-- ---- Statements with a body.

abbrev pub holder_statement : Holder → Statements → Statement
holder_statement (items.define n k) body = grammar.define k n body
holder_statement (items.anonymous s k) body = grammar.anonymous (out s.outside) k body (inst s) []

-- what stands before the body, and behind it
pub holder-words : (h : Holder) (body : Statements) (inside : List Symbol → List Symbol) (after : List Symbol) → IsHolder h → ((ws : List Symbol) → inside ws ≡ grammar.words body ws)
    → open_words h (inside (close_words h (mark Semicolon ∷ after))) ≡ grammar.statement_words (holder_statement h body) after
holder-words (items.define n k) body inside after h e = λ i. kind-is k i ∷ free-is n h i ∷ mark OpenBrace ∷ e (mark CloseBrace ∷ mark Semicolon ∷ after) i
holder-words (items.anonymous s k) body inside after h e =
    let behind_body : close_words (items.anonymous s k) (mark Semicolon ∷ after) ≡ mark CloseBrace ∷ grammar.insts_words (inst s) [] after =
    ap (λ ws. mark CloseBrace ∷ ws) (shell-words s (mark Semicolon ∷ after) h) in
    outside-words s.outside _
    ∙ ap (grammar.outside_words (outside s.outside)) ((λ i. kind-is k i ∷ mark OpenBrace ∷ e (close_words (items.anonymous s k) (mark Semicolon ∷ after)) i) ∙ ap (λ ws. kind k ∷ mark OpenBrace ∷ grammar.words body ws) behind_body)
    ∙ front-words s.outside k body (inst s) after
  where
    front-words : (o : Outside) (k : Kind) (body : Statements) (i : Inst) (after : List Symbol)
        → grammar.outside_words (outside o) (kind k ∷ mark OpenBrace ∷ grammar.words body (mark CloseBrace ∷ grammar.insts_words i [] after))
        ≡ grammar.statement_words (grammar.anonymous (out o) k body i []) after
    front-words Unsaid k body i after = refl
    front-words External k body i after = refl
    front-words Internal k body i after = refl

abbrev pub holder_item : Holder → Items → Item
holder_item (items.define n k) body = Define n (component k body)
holder_item (items.anonymous s k) body = Instance s (Anonymous (component k body))

pub holder-items : (h : Holder) (body : Statements) (d : Items) → IsHolder h → d ≡ items_of (grammar.items body) → holder_item h d ∷ [] ≡ grammar.statement_items (holder_statement h body)
holder-items (items.define n k) body d h e = ap (λ b. Define n (component k b) ∷ []) e
holder-items (items.anonymous s k) body d h e = λ i. Instance (shell-is s (out_of (out s.outside)) h (out-of s.outside) i) (Anonymous (component k (e i))) ∷ []

-- ---- Bodies.

abbrev pub statements : (d : Items) → IsSpellable d → Statements
statements no_items h = none
statements (plain p rest) h = one (plain_statement p h.0) (statements rest h.1)
statements (holder k body rest) h = one (holder_statement k (statements body h.1)) (statements rest h.2)

pub words-are : (d : Items) (after : List Symbol) (h : IsSpellable d) → body_words d after ≡ grammar.words (statements d h) after
words-are no_items after h = refl
words-are (plain p rest) after h = plain-words p (body_words rest after) h.0 ∙ ap (grammar.statement_words (plain_statement p h.0)) (words-are rest after h.1)
words-are (holder k body rest) after h =
    holder-words k (statements body h.1) (body_words body) (body_words rest after) h.0 (λ ws. words-are body ws h.1)
    ∙ ap (grammar.statement_words (holder_statement k (statements body h.1))) (words-are rest after h.2)

plain-first : (p : Plain) (rest : Items) (ys : List Item) → rest ≡ items_of ys → plain p rest ≡ items_of (plain_item p ∷ ys)
plain-first (items.named s type) rest ys e = ap (plain (items.named s type)) e
plain-first (items.own p v) rest ys e = ap (plain (items.own p v)) e
plain-first (items.default p v) rest ys e = ap (plain (items.default p v)) e
plain-first (items.dynamic target p v) rest ys e = ap (plain (items.dynamic target p v)) e

holder-first : (k : Holder) (body rest : Items) (ys : List Item) → rest ≡ items_of ys → holder k body rest ≡ items_of (holder_item k body ∷ ys)
holder-first (items.define n k) body rest ys e = ap (holder (items.define n k) body) e
holder-first (items.anonymous s k) body rest ys e = ap (holder (items.anonymous s k) body) e

pub items-are : (d : Items) (h : IsSpellable d) → d ≡ items_of (grammar.items (statements d h))
items-are no_items h = refl
items-are (plain p rest) h =
    let after = grammar.items (statements rest h.1) in
    plain-first p rest after (items-are rest h.1) ∙ ap (λ xs. items_of (xs ++ after)) (plain-items p h.0)
items-are (holder k body rest) h =
    let after = grammar.items (statements rest h.2) in
    holder-first k body rest after (items-are rest h.2)
    ∙ ap (λ xs. items_of (xs ++ after)) (holder-items k (statements body h.1) body h.0 (items-are body h.1))

pub written-words-spell : (d : Items) → IsSpellable d → (at : List Spot) × Spells (map_words d) d at
written-words-spell d h = (grammar.spots (statements d h) [], (statements d h, words-are d [] h, items-are d h, refl))

-- ---- One item.

plain-spells : (p : Plain) → IsSpellable (plain p no_items) → SpellsItems (map_words (plain p no_items)) (plain_item p ∷ [])
plain-spells p h = (plain_statement p h.0, plain-words p [] h.0, plain-items p h.0)

holder-spells : (k : Holder) (body : Items) → IsSpellable (holder k body no_items) → SpellsItems (map_words (holder k body no_items)) (holder_item k body ∷ [])
holder-spells k body h =
    let inside = statements body h.1 in
    (holder_statement k inside, holder-words k inside (body_words body) [] h.0 (λ ws. words-are body ws h.1), holder-items k inside body h.0 (items-are body h.1))

-- the words of an item by itself are a statement that stands for it
pub written-item-spells : (x : Item) → IsSpellable (items_of (x ∷ [])) → SpellsItems (map_words (items_of (x ∷ []))) (x ∷ [])
written-item-spells (Define n c) h = holder-spells (items.define n c.kind) c.body h
written-item-spells (Instance s (Named t)) h = plain-spells (items.named s t) h
written-item-spells (Instance s (Anonymous c)) h = holder-spells (items.anonymous s c.kind) c.body h
written-item-spells (Own p v) h = plain-spells (items.own p v) h
written-item-spells (Default p v) h = plain-spells (items.default p v) h
written-item-spells (Dynamic t p v) h = plain-spells (items.dynamic t p v) h
