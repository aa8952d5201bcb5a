-- The words of statements stand before whatever follows them, and so statements stand one behind another.
use Rattle.std.proofs.Common.{◌≡◌, ℕ, List, [], ◌∷◌, ◌++◌, Option, Some, None, refl, ap, sym, ◌∙◌, append_assoc}
use Rattle.rdl_text.specs.declared.token.Mark.{Mark}
use Rattle.rdl_text.specs.declared.token.Mark.TheVariants.{OpenBrace, CloseBrace, OpenBracket, CloseBracket, Semicolon, Comma, Dot, Equals, At, PlusEquals, PercentEquals, Arrow}
use Rattle.rdl_tree.specs.declared.shell.Outside.{Outside}
use Rattle.rdl_tree.specs.declared.value.Value.{Value}
use Rattle.rdl_parse.specs.Symbol as symbol
use Rattle.rdl_parse.specs.Symbol.{Symbol, kind, outside, name, number, mark}
use Rattle.rdl_parse.specs.Spelling.{Brackets, sizes, range, Inst, Prop, Statement, Statements, define, define_with, anonymous, named, own, default, dynamic, none, one, sizes_words, brackets_words, part_words, inst_words, others_words, insts_words, outside_words, at_front, at_late, prop_symbol, equals_words, assigned_words, dots_words, statement_words, words, statement_items, items}

abbrev pub Goes : (List Symbol → List Symbol) → Type 0
Goes f = (after : List Symbol) → f after ≡ f [] ++ after

pub both : (f g : List Symbol → List Symbol) → Goes f → Goes g → Goes (λ ws. f (g ws))
both f g p q after =
    p (g after) ∙ (ap (λ ws. f [] ++ ws) (q after) ∙ (sym (append_assoc (f []) (g []) after) ∙ ap (λ ws. ws ++ after) (sym (p (g [])))))

word : (w : Symbol) → Goes (λ ws. w ∷ ws)
word w after = refl

-- ---- Parts.

pub sizes_go : (ns : List ℕ) → Goes (sizes_words ns)
sizes_go [] after = refl
sizes_go (n ∷ ns) after = ap (λ ws. mark OpenBracket ∷ number n ∷ mark CloseBracket ∷ ws) (sizes_go ns after)

pub brackets_go : (b : Brackets) → Goes (brackets_words b)
brackets_go (sizes ns) after = sizes_go ns after
brackets_go (range h l) after = refl

pub part_goes : (m : Mark) (o : Option ℕ) → Goes (part_words m o)
part_goes m None after = refl
part_goes m (Some n) after = refl

pub inst_goes : (i : Inst) → Goes (inst_words i)
inst_goes i after =
    ap (λ ws. name i.name ∷ ws)
    (both (brackets_words i.brackets) _ (brackets_go i.brackets)
    (both (part_words Equals i.reset) _ (part_goes Equals i.reset)
    (both (part_words At i.address) _ (part_goes At i.address)
    (both (part_words PlusEquals i.stride) (part_words PercentEquals i.align) (part_goes PlusEquals i.stride) (part_goes PercentEquals i.align)))) after)

pub others_go : (is : List Inst) → Goes (others_words is)
others_go [] after = refl
others_go (i ∷ is) after = ap (λ ws. mark Comma ∷ ws) (both (inst_words i) (others_words is) (inst_goes i) (others_go is) after)

insts_go : (i : Inst) (is : List Inst) → Goes (insts_words i is)
insts_go i is =
    both (inst_words i) (λ ws. others_words is (mark Semicolon ∷ ws)) (inst_goes i) (both (others_words is) (λ ws. mark Semicolon ∷ ws) (others_go is) (word (mark Semicolon)))

pub outside_goes : (o : Option Outside) → Goes (outside_words o)
outside_goes None after = refl
outside_goes (Some o) after = refl

pub equals_go : (v : Option Value) → Goes (equals_words v)
equals_go None after = refl
equals_go (Some v) after = refl

assigned_goes : (p : Prop) (v : Option Value) → Goes (assigned_words p v)
assigned_goes p v after =
    ap (λ ws. prop_symbol p ∷ ws) (both (equals_words v) (λ ws. mark Semicolon ∷ ws) (equals_go v) (word (mark Semicolon)) after)

pub dots_go : (ns : List (List ℕ)) → Goes (dots_words ns)
dots_go [] after = refl
dots_go (n ∷ ns) after = ap (λ ws. mark Dot ∷ name n ∷ ws) (dots_go ns after)

-- ---- Statements.

mutual
  pub statement_goes : (s : Statement) → Goes (statement_words s)
  statement_goes (define k n body) after =
      ap (λ ws. kind k ∷ name n ∷ mark OpenBrace ∷ ws) (both (words body) (λ ws. mark CloseBrace ∷ mark Semicolon ∷ ws) (words_go body) (λ a. refl) after)
  statement_goes (define_with o k n body i is) after =
      both (outside_words (at_front o)) (λ ws. kind k ∷ name n ∷ mark OpenBrace ∷ words body (mark CloseBrace ∷ outside_words (at_late o) (insts_words i is ws))) (outside_goes (at_front o))
      (λ a. ap (λ ws. kind k ∷ name n ∷ mark OpenBrace ∷ ws)
      (both (words body) (λ ws. mark CloseBrace ∷ outside_words (at_late o) (insts_words i is ws)) (words_go body)
      (λ b. ap (λ ws. mark CloseBrace ∷ ws) (both (outside_words (at_late o)) (insts_words i is) (outside_goes (at_late o)) (insts_go i is) b)) a)) after
  statement_goes (anonymous o k body i is) after =
      both (outside_words (at_front o)) (λ ws. kind k ∷ mark OpenBrace ∷ words body (mark CloseBrace ∷ outside_words (at_late o) (insts_words i is ws))) (outside_goes (at_front o))
      (λ a. ap (λ ws. kind k ∷ mark OpenBrace ∷ ws)
      (both (words body) (λ ws. mark CloseBrace ∷ outside_words (at_late o) (insts_words i is ws)) (words_go body)
      (λ b. ap (λ ws. mark CloseBrace ∷ ws) (both (outside_words (at_late o)) (insts_words i is) (outside_goes (at_late o)) (insts_go i is) b)) a)) after
  statement_goes (named o n i is) after =
      both (outside_words o) (λ ws. name n ∷ insts_words i is ws) (outside_goes o) (λ a. ap (λ ws. name n ∷ ws) (insts_go i is a)) after
  statement_goes (own p v) after = assigned_goes p v after
  statement_goes (default p v) after = ap (λ ws. symbol.default ∷ ws) (assigned_goes p v after)
  statement_goes (dynamic n ns p v) after =
      ap (λ ws. name n ∷ ws) (both (dots_words ns) (λ ws. mark Arrow ∷ assigned_words p v ws) (dots_go ns) (λ a. ap (λ ws. mark Arrow ∷ ws) (assigned_goes p v a)) after)

  pub words_go : (t : Statements) → Goes (words t)
  words_go none after = refl
  words_go (one s ss) after = both (statement_words s) (words ss) (statement_goes s) (words_go ss) after

-- these statements, and then those
abbrev pub joined : Statements → Statements → Statements
joined none u = u
joined (one s ss) u = one s (joined ss u)

joined_words : (t u : Statements) (after : List Symbol) → words (joined t u) after ≡ words t (words u after)
joined_words none u after = refl
joined_words (one s ss) u after = ap (statement_words s) (joined_words ss u after)

pub words_joined : (t u : Statements) → words (joined t u) [] ≡ words t [] ++ words u []
words_joined t u = joined_words t u [] ∙ words_go t (words u [])

pub items_joined : (t u : Statements) → items (joined t u) ≡ items t ++ items u
items_joined none u = refl
items_joined (one s ss) u = ap (λ xs. statement_items s ++ xs) (items_joined ss u) ∙ sym (append_assoc (statement_items s) (items ss) (items u))
