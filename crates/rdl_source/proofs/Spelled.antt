-- The words of a statement, by where its braces and its semicolon stand, and the places of its items among them.
use Rattle.std.proofs.Common.{◌≡◌, ℕ, zero, suc, ◌+◌, ◌<◌, ◌≤◌, List, [], ◌∷◌, ◌++◌, length, map, Option, Some, None, refl, sym, ◌∙◌, ap, subst, arith, append_assoc}
use Rattle.std.proofs.lemmas.List.{append-nil, length-append}
use Rattle.rdl_text.specs.declared.token.Mark.{Mark}
use Rattle.rdl_text.specs.declared.token.Mark.TheVariants.{OpenBrace, CloseBrace, Semicolon, Equals, At, PlusEquals, PercentEquals, Arrow}
use Rattle.rdl_tree.specs.View.{items_of}
use Rattle.rdl_tree.specs.declared.description.Of.{Of}
use Rattle.rdl_tree.specs.declared.description.Of.TheVariants.{Named, Anonymous}
use Rattle.rdl_tree.specs.declared.shell.Outside.{Outside}
use Rattle.rdl_tree.specs.declared.value.Value.{Value}
use Rattle.rdl_tree.specs.declared.value.Value.TheVariants as values
use Rattle.rdl_tree.specs.declared.value.Word.TheVariants as value_word
use Rattle.rdl_tree.specs.declared.value.Word.{Word as ValueWord}
use Rattle.rdl_parse.specs.declared.found.Spot.{Spot}
use Rattle.rdl_parse.specs.Finds.{spot}
use Rattle.rdl_parse.specs.Symbol as symbol
use Rattle.rdl_parse.specs.Symbol.{Symbol, kind, outside, name, number, mark}
use Rattle.rdl_parse.specs.Spelling.{Brackets, sizes, range, Inst, Prop, free, reserved, Statement, Statements, define, define_with, anonymous, named, own, default, dynamic, none, one, sizes_words, brackets_words, part_words, inst_words, others_words, insts_words, outside_words, at_front, at_late, prop_symbol, value_symbol, word_symbol, equals_words, assigned_words, dots_words, statement_words, words, out_of, said, instance, instances, component, statement_items, items, inst_spots, others_spots, insts_spots, first_spots, statement_spots, spots}
use Rattle.rdl_source.proofs.Appended.{Goes, both, brackets_go, part_goes, inst_goes, others_go, outside_goes, equals_go, dots_go, statement_goes, words_go}
use Rattle.rdl_source.proofs.Marked.{symbol_stop}

-- ---- Words without a semicolon and a brace.

abbrev pub Calm : List Symbol → Type 0
Calm [] = Unit {0}
Calm (w ∷ ws) = (symbol_stop w ≡ None) × Calm ws

calm-append : (xs ys : List Symbol) → Calm xs → Calm ys → Calm (xs ++ ys)
calm-append [] ys h k = k
calm-append (x ∷ xs) ys h k = (h.0, calm-append xs ys h.1 k)

-- the same in front of words that are calm
abbrev Calms : (List Symbol → List Symbol) → Type 0
Calms f = (after : List Symbol) → Calm after → Calm (f after)

calm-sizes : (ns : List ℕ) → Calms (sizes_words ns)
calm-sizes [] after h = h
calm-sizes (n ∷ ns) after h = (refl, (refl, (refl, calm-sizes ns after h)))

calm-brackets : (b : Brackets) → Calms (brackets_words b)
calm-brackets (sizes ns) after h = calm-sizes ns after h
calm-brackets (range x y) after h = (refl, (refl, (refl, (refl, (refl, h)))))

calm-part : (m : Mark) (o : Option ℕ) → symbol_stop (mark m) ≡ None → Calms (part_words m o)
calm-part m None e after h = h
calm-part m (Some n) e after h = (e, (refl, h))

calm-inst : (i : Inst) → Calms (inst_words i)
calm-inst i after h =
    (refl, calm-brackets i.brackets _ (calm-part Equals i.reset refl _ (calm-part At i.address refl _ (calm-part PlusEquals i.stride refl _ (calm-part PercentEquals i.align refl after h)))))

calm-others : (is : List Inst) → Calms (others_words is)
calm-others [] after h = h
calm-others (i ∷ is) after h = (refl, calm-inst i _ (calm-others is after h))

calm-outside : (o : Option Outside) → Calms (outside_words o)
calm-outside None after h = h
calm-outside (Some o) after h = (refl, h)

calm-prop : (p : Prop) → symbol_stop (prop_symbol p) ≡ None
calm-prop (free n) = refl
calm-prop (reserved p) = refl

calm-word : (w : ValueWord) → symbol_stop (word_symbol w) ≡ None
calm-word value_word.R = refl
calm-word value_word.W = refl
calm-word value_word.Rclr = refl
calm-word value_word.Rset = refl
calm-word value_word.Woset = refl
calm-word value_word.Woclr = refl
calm-word w = refl

calm-value : (v : Value) → symbol_stop (value_symbol v) ≡ None
calm-value (values.Number n) = refl
calm-value (values.Text t) = refl
calm-value (values.Bool b) = refl
calm-value (values.Word w) = calm-word w

calm-equals : (v : Option Value) → Calms (equals_words v)
calm-equals None after h = h
calm-equals (Some v) after h = (refl, (calm-value v, h))

calm-dots : (ns : List (List ℕ)) → Calms (dots_words ns)
calm-dots [] after h = h
calm-dots (n ∷ ns) after h = (refl, (refl, calm-dots ns after h))

-- ---- The form of a statement.

abbrev insts : Inst → List Inst → List Symbol → List Symbol
insts i is after = inst_words i (others_words is after)

insts_goes : (i : Inst) (is : List Inst) → Goes (insts i is)
insts_goes i is = both (inst_words i) (others_words is) (inst_goes i) (others_go is)

abbrev pub body_of : Statement → Option Statements
body_of (define k n body) = Some body
body_of (define_with o k n body i is) = Some body
body_of (anonymous o k body i is) = Some body
body_of (named o n i is) = None
body_of (own p v) = None
body_of (default p v) = None
body_of (dynamic n ns p v) = None

abbrev pub front_of : Statement → List Symbol
front_of (define k n body) = kind k ∷ name n ∷ []
front_of (define_with o k n body i is) = outside_words (at_front o) (kind k ∷ name n ∷ [])
front_of (anonymous o k body i is) = outside_words (at_front o) (kind k ∷ [])
front_of (named o n i is) = outside_words o (name n ∷ insts i is [])
front_of (own p v) = prop_symbol p ∷ equals_words v []
front_of (default p v) = symbol.default ∷ prop_symbol p ∷ equals_words v []
front_of (dynamic n ns p v) = name n ∷ dots_words ns (mark Arrow ∷ prop_symbol p ∷ equals_words v [])

abbrev pub back_of : Statement → List Symbol
back_of (define k n body) = []
back_of (define_with o k n body i is) = outside_words (at_late o) (insts i is [])
back_of (anonymous o k body i is) = outside_words (at_late o) (insts i is [])
back_of st = []

pub calm-front : (st : Statement) → Calm (front_of st)
calm-front (define k n body) = (refl, (refl, tt))
calm-front (define_with o k n body i is) = calm-outside (at_front o) _ (refl, (refl, tt))
calm-front (anonymous o k body i is) = calm-outside (at_front o) _ (refl, tt)
calm-front (named o n i is) = calm-outside o _ (refl, calm-inst i _ (calm-others is [] tt))
calm-front (own p v) = (calm-prop p, calm-equals v [] tt)
calm-front (default p v) = (refl, (calm-prop p, calm-equals v [] tt))
calm-front (dynamic n ns p v) = (refl, calm-dots ns _ (refl, (calm-prop p, calm-equals v [] tt)))

pub calm-back : (st : Statement) → Calm (back_of st)
calm-back (define k n body) = tt
calm-back (define_with o k n body i is) = calm-outside (at_late o) _ (calm-inst i _ (calm-others is [] tt))
calm-back (anonymous o k body i is) = calm-outside (at_late o) _ (calm-inst i _ (calm-others is [] tt))
calm-back (named o n i is) = tt
calm-back (own p v) = tt
calm-back (default p v) = tt
calm-back (dynamic n ns p v) = tt

outside_insts : (o : Option Outside) (i : Inst) (is : List Inst) (after : List Symbol) → outside_words o (insts i is after) ≡ outside_words o (insts i is []) ++ after
outside_insts o i is after = both (outside_words o) (insts i is) (outside_goes o) (insts_goes i is) after

no_body : (b : Statements) → ◌≡◌ {A = Option Statements} (Some b) None → ⊥
no_body b e = cc

pub form_plain : (st : Statement) (a : List Symbol) → body_of st ≡ None → statement_words st a ≡ front_of st ++ (mark Semicolon ∷ a)
form_plain (define k n body) a e = absurd (no_body body e)
form_plain (define_with o k n body i is) a e = absurd (no_body body e)
form_plain (anonymous o k body i is) a e = absurd (no_body body e)
form_plain (named o n i is) a e =
    both (outside_words o) (λ ws. name n ∷ insts i is ws) (outside_goes o) (λ x. ap (λ ws. name n ∷ ws) (insts_goes i is x)) (mark Semicolon ∷ a)
form_plain (own p v) a e = ap (λ ws. prop_symbol p ∷ ws) (equals_go v (mark Semicolon ∷ a))
form_plain (default p v) a e = ap (λ ws. symbol.default ∷ prop_symbol p ∷ ws) (equals_go v (mark Semicolon ∷ a))
form_plain (dynamic n ns p v) a e =
    ap (λ ws. name n ∷ ws)
    (both (dots_words ns) (λ ws. mark Arrow ∷ prop_symbol p ∷ equals_words v ws) (dots_go ns) (λ x. ap (λ ws. mark Arrow ∷ prop_symbol p ∷ ws) (equals_go v x)) (mark Semicolon ∷ a))

some_same : (a b : Statements) → ◌≡◌ {A = Option Statements} (Some a) (Some b) → a ≡ b
some_same a b e = cc

-- what stands behind the brace that closes the body
abbrev pub closed : Statement → List Symbol → List Symbol
closed st a = mark CloseBrace ∷ (back_of st ++ (mark Semicolon ∷ a))

abbrev Held : Statement → List Symbol → Statements → Type 0
Held st a b = statement_words st a ≡ front_of st ++ (mark OpenBrace ∷ words b (closed st a))

pub form_body : (st : Statement) (b : Statements) (a : List Symbol) → body_of st ≡ Some b → statement_words st a ≡ front_of st ++ (mark OpenBrace ∷ words b (closed st a))
form_body (define k n body) b a e = subst (Held (define k n body) a) (some_same body b e) refl
form_body (define_with o k n body i is) b a e =
    subst (Held (define_with o k n body i is) a) (some_same body b e)
    (outside_goes (at_front o) (kind k ∷ name n ∷ mark OpenBrace ∷ words body (mark CloseBrace ∷ outside_words (at_late o) (insts i is (mark Semicolon ∷ a))))
    ∙ (ap (λ ws. outside_words (at_front o) [] ++ (kind k ∷ name n ∷ mark OpenBrace ∷ words body (mark CloseBrace ∷ ws))) (outside_insts (at_late o) i is (mark Semicolon ∷ a))
    ∙ (sym (append_assoc (outside_words (at_front o) []) (kind k ∷ name n ∷ []) (mark OpenBrace ∷ words body (closed (define_with o k n body i is) a)))
    ∙ ap (λ ws. ws ++ (mark OpenBrace ∷ words body (closed (define_with o k n body i is) a))) (sym (outside_goes (at_front o) (kind k ∷ name n ∷ []))))))
form_body (anonymous o k body i is) b a e =
    subst (Held (anonymous o k body i is) a) (some_same body b e)
    (outside_goes (at_front o) (kind k ∷ mark OpenBrace ∷ words body (mark CloseBrace ∷ outside_words (at_late o) (insts i is (mark Semicolon ∷ a))))
    ∙ (ap (λ ws. outside_words (at_front o) [] ++ (kind k ∷ mark OpenBrace ∷ words body (mark CloseBrace ∷ ws))) (outside_insts (at_late o) i is (mark Semicolon ∷ a))
    ∙ (sym (append_assoc (outside_words (at_front o) []) (kind k ∷ []) (mark OpenBrace ∷ words body (closed (anonymous o k body i is) a)))
    ∙ ap (λ ws. ws ++ (mark OpenBrace ∷ words body (closed (anonymous o k body i is) a))) (sym (outside_goes (at_front o) (kind k ∷ []))))))
form_body (named o n i is) b a e = cc
form_body (own p v) b a e = cc
form_body (default p v) b a e = cc
form_body (dynamic n ns p v) b a e = cc

-- ---- Where the words of items stand.

-- so many words are left from each on, more than lo and at most hi
abbrev pub InRange : (lo hi : ℕ) → List Spot → Type 0
InRange lo hi [] = Unit {0}
InRange lo hi (s ∷ ss) = (lo < s.left) × (s.left ≤ hi) × InRange lo hi ss

pub wider : (lo hi low high : ℕ) (ss : List Spot) → low ≤ lo → hi ≤ high → InRange lo hi ss → InRange low high ss
wider lo hi low high [] h k r = tt
wider lo hi low high (s ∷ ss) h k r = (omega (arith, h, r.0), omega (arith, k, r.1), wider lo hi low high ss h k r.2)

range-append : (lo hi : ℕ) (ss ts : List Spot) → InRange lo hi ss → InRange lo hi ts → InRange lo hi (ss ++ ts)
range-append lo hi [] ts h k = k
range-append lo hi (s ∷ ss) ts h k = (h.0, h.1, range-append lo hi ss ts h.2 k)

len : (f : List Symbol → List Symbol) → Goes f → (after : List Symbol) → length (f after) ≡ length (f []) + length after
len f g after = ap length (g after) ∙ length-append (f []) after

inst-some : (i : Inst) (after : List Symbol) → length after < length (inst_words i after)
inst-some i after =
    let tail = both (brackets_words i.brackets) _ (brackets_go i.brackets)
    (both (part_words Equals i.reset) _ (part_goes Equals i.reset)
    (both (part_words At i.address) _ (part_goes At i.address)
    (both (part_words PlusEquals i.stride) (part_words PercentEquals i.align) (part_goes PlusEquals i.stride) (part_goes PercentEquals i.align)))) in
    omega (arith, ap length (tail after), length-append (brackets_words i.brackets (part_words Equals i.reset (part_words At i.address (part_words PlusEquals i.stride (part_words PercentEquals i.align []))))) after)

others-low : (is : List Inst) (after : List Symbol) → length after ≤ length (others_words is after)
others-low is after = omega (arith, len (others_words is) (others_go is) after)

inst-range : (inner : List Spot) (i : Inst) (after : List Symbol) (lo hi : ℕ) → lo ≤ length after → length (inst_words i after) ≤ hi → InRange lo hi inner → InRange lo hi (inst_spots inner i after)
inst-range inner i after lo hi h k r = (omega (arith, h, inst-some i after), k, r)

others-range : (inner : List Spot) (is : List Inst) (after : List Symbol) (lo hi : ℕ) → lo ≤ length after → length (others_words is after) ≤ hi → InRange lo hi inner → InRange lo hi (others_spots inner is after)
others-range inner [] after lo hi h k r = tt
others-range inner (i ∷ is) after lo hi h k r =
    let low = others-low is after in
    let some = inst-some i (others_words is after) in
    range-append lo hi (inst_spots inner i (others_words is after)) (others_spots inner is after)
    (inst-range inner i (others_words is after) lo hi (omega (arith, h, low)) (omega (arith, k)) r) (others-range inner is after lo hi h (omega (arith, k, some)) r)

insts-range : (inner : List Spot) (i : Inst) (is : List Inst) (a : List Symbol) (lo hi : ℕ) → lo ≤ length a → length (insts_words i is a) ≤ hi → InRange lo hi inner → InRange lo hi (insts_spots inner i is a)
insts-range inner i is a lo hi h k r =
    let low = others-low is (mark Semicolon ∷ a) in
    let some = inst-some i (others_words is (mark Semicolon ∷ a)) in
    range-append lo hi (inst_spots inner i (others_words is (mark Semicolon ∷ a))) (others_spots inner is (mark Semicolon ∷ a))
    (inst-range inner i (others_words is (mark Semicolon ∷ a)) lo hi (omega (arith, h, low)) k r) (others-range inner is (mark Semicolon ∷ a) lo hi (omega (arith, h)) (omega (arith, k, some)) r)

outside-low : (o : Option Outside) (ws : List Symbol) → length ws ≤ length (outside_words o ws)
outside-low o ws = omega (arith, len (outside_words o) (outside_goes o) ws)

insts-low : (i : Inst) (is : List Inst) (a : List Symbol) → length a ≤ length (insts_words i is a)
insts-low i is a = omega (arith, inst-some i (others_words is (mark Semicolon ∷ a)), others-low is (mark Semicolon ∷ a))

words-low : (t : Statements) (after : List Symbol) → length after ≤ length (words t after)
words-low t after = omega (arith, len (words t) (words_go t) after)

statement-low : (st : Statement) (a : List Symbol) → length a ≤ length (statement_words st a)
statement-low st a = omega (arith, len (statement_words st) (statement_goes st) a)

equals-low : (v : Option Value) (ws : List Symbol) → length ws ≤ length (equals_words v ws)
equals-low v ws = omega (arith, len (equals_words v) (equals_go v) ws)

dots-low : (ns : List (List ℕ)) (ws : List Symbol) → length ws ≤ length (dots_words ns ws)
dots-low ns ws = omega (arith, len (dots_words ns) (dots_go ns) ws)

mutual
  pub statement-range : (st : Statement) (a : List Symbol) → InRange (length a) (length (statement_words st a)) (statement_spots st a)
  statement-range (define k n body) a =
      let W = mark CloseBrace ∷ mark Semicolon ∷ a in
      let low = words-low body W in
      (omega (arith, low), omega arith, wider (length W) (length (words body W)) (length a) (length (statement_words (define k n body) a)) (spots body W) (omega arith) (omega arith) (spots-range body W))
  statement-range (define_with o k n body i is) a =
      let W = mark CloseBrace ∷ outside_words (at_late o) (insts_words i is a) in
      let low = words-low body W in
      let late = outside-low (at_late o) (insts_words i is a) in
      let first = outside-low (at_front o) (kind k ∷ name n ∷ mark OpenBrace ∷ words body W) in
      let insts = insts-low i is a in
      range-append (length a) (length (statement_words (define_with o k n body i is) a)) (first_spots (spots body W) (define_with o k n body i is) a) (insts_spots [] i is a) (
        omega (arith, low, late, first, insts),
        omega arith,
        wider (length W) (length (words body W)) (length a) (length (statement_words (define_with o k n body i is) a)) (spots body W) (omega (arith, late, insts)) (omega (arith, first)) (spots-range body W),
      )
      (insts-range [] i is a (length a) (length (statement_words (define_with o k n body i is) a)) (omega arith) (omega (arith, low, late, first)) tt)
  statement-range (anonymous o k body i is) a =
      let W = mark CloseBrace ∷ outside_words (at_late o) (insts_words i is a) in
      let low = words-low body W in
      let late = outside-low (at_late o) (insts_words i is a) in
      let first = outside-low (at_front o) (kind k ∷ mark OpenBrace ∷ words body W) in
      let insts = insts-low i is a in
      insts-range (spots body W) i is a (length a) (length (statement_words (anonymous o k body i is) a)) (omega arith) (omega (arith, low, late, first))
      (wider (length W) (length (words body W)) (length a) (length (statement_words (anonymous o k body i is) a)) (spots body W) (omega (arith, late, insts)) (omega (arith, first)) (spots-range body W))
  statement-range (named o n i is) a =
      let first = outside-low o (name n ∷ insts_words i is a) in
      insts-range [] i is a (length a) (length (statement_words (named o n i is) a)) (omega arith) (omega (arith, first)) tt
  statement-range (own p v) a = (omega (arith, equals-low v (mark Semicolon ∷ a)), omega arith, tt)
  statement-range (default p v) a = (omega (arith, equals-low v (mark Semicolon ∷ a)), omega arith, tt)
  statement-range (dynamic n ns p v) a =
      (omega (arith, dots-low ns (mark Arrow ∷ assigned_words p v a), equals-low v (mark Semicolon ∷ a)), omega arith, tt)

  pub spots-range : (t : Statements) (after : List Symbol) → InRange (length after) (length (words t after)) (spots t after)
  spots-range none after = tt
  spots-range (one st ss) after =
      let rest = words ss after in
      let low = words-low ss after in
      let high = statement-low st rest in
      range-append (length after) (length (statement_words st rest)) (statement_spots st rest) (spots ss after)
      (wider (length rest) (length (statement_words st rest)) (length after) (length (statement_words st rest)) (statement_spots st rest) low (omega arith) (statement-range st rest))
      (wider (length after) (length rest) (length after) (length (statement_words st rest)) (spots ss after) (omega arith) high (spots-range ss after))

-- ---- The items of a statement, one behind another.

-- so many items, each with those inside it
abbrev pub Blocks : ℕ → List Spot → Type 0
Blocks zero ss = ss ≡ []
Blocks (suc n) ss = (s : Spot) × (inner : List Spot) × (rest : List Spot) × (ss ≡ s ∷ (inner ++ rest)) × (s.inside ≡ length inner) × Blocks n rest

one_block : (left : ℕ) (inner : List Spot) → Blocks 1 (spot left inner ∷ inner)
one_block left inner = (spot left inner, inner, [], ap (λ ss. spot left inner ∷ ss) (sym (append-nil inner)), refl, refl)

more_blocks : (left : ℕ) (inner rest : List Spot) (n : ℕ) → Blocks n rest → Blocks (suc n) ((spot left inner ∷ inner) ++ rest)
more_blocks left inner rest n h = (spot left inner, inner, rest, refl, refl, h)

others_blocks : (inner : List Spot) (of : Outside) (o : Of) (is : List Inst) (after : List Symbol) → Blocks (length (map (instance of o) is)) (others_spots inner is after)
others_blocks inner of o [] after = refl
others_blocks inner of o (i ∷ is) after =
    more_blocks (length (inst_words i (others_words is after))) inner (others_spots inner is after) (length (map (instance of o) is)) (others_blocks inner of o is after)

insts_blocks : (inner : List Spot) (of : Outside) (o : Of) (i : Inst) (is : List Inst) (a : List Symbol) → Blocks (length (instances of o i is)) (insts_spots inner i is a)
insts_blocks inner of o i is a =
    more_blocks (length (insts_words i is a)) inner (others_spots inner is (mark Semicolon ∷ a)) (length (map (instance of o) is)) (others_blocks inner of o is (mark Semicolon ∷ a))

pub statement_blocks : (st : Statement) (a : List Symbol) → Blocks (length (statement_items st)) (statement_spots st a)
statement_blocks (define k n body) a = one_block (length (statement_words (define k n body) a)) (spots body (mark CloseBrace ∷ mark Semicolon ∷ a))
statement_blocks (define_with o k n body i is) a =
    let W = mark CloseBrace ∷ outside_words (at_late o) (insts_words i is a) in
    more_blocks (length (statement_words (define_with o k n body i is) a)) (spots body W) (insts_spots [] i is a) (length (instances (out_of o) (Named n) i is)) (insts_blocks [] (out_of o) (Named n) i is a)
statement_blocks (anonymous o k body i is) a =
    insts_blocks (spots body (mark CloseBrace ∷ outside_words (at_late o) (insts_words i is a))) (out_of o) (Anonymous (component k (items_of (items body)))) i is a
statement_blocks (named o n i is) a = insts_blocks [] (said o) (Named n) i is a
statement_blocks (own p v) a = one_block (length (statement_words (own p v) a)) []
statement_blocks (default p v) a = one_block (length (statement_words (default p v) a)) []
statement_blocks (dynamic n ns p v) a = one_block (length (statement_words (dynamic n ns p v) a)) []

pub some_items : (st : Statement) → 0 < length (statement_items st)
some_items (define k n body) = omega arith
some_items (define_with o k n body i is) = omega arith
some_items (anonymous o k body i is) = omega arith
some_items (named o n i is) = omega arith
some_items (own p v) = omega arith
some_items (default p v) = omega arith
some_items (dynamic n ns p v) = omega arith

-- what is inside its first item
back_same : (o : Option Outside) (i : Inst) (is : List Inst) (a : List Symbol) → mark CloseBrace ∷ outside_words o (insts_words i is a) ≡ mark CloseBrace ∷ (outside_words o (insts i is []) ++ (mark Semicolon ∷ a))
back_same o i is a = ap (λ ws. mark CloseBrace ∷ ws) (outside_insts o i is (mark Semicolon ∷ a))

pub record FirstInside (st : Statement) (b : Statements) (a : List Symbol) : Type 0 where
  pub first : Spot
  pub rest : List Spot
  pub parts : statement_spots st a ≡ first ∷ (spots b (closed st a) ++ rest)
  pub size : first.inside ≡ length (spots b (closed st a))

first_inside_of : (st : Statement) (b : Statements) (a W : List Symbol) (s : Spot) (rest : List Spot) → statement_spots st a ≡ s ∷ (spots b W ++ rest) → s.inside ≡ length (spots b W) → W ≡ closed st a → FirstInside st b a
first_inside_of st b a W s rest e f w = record {
  first = s;
  rest = rest;
  parts = e ∙ ap (λ v. s ∷ (spots b v ++ rest)) w;
  size = f ∙ ap (λ v. length (spots b v)) w;
}

pub first_inside : (st : Statement) (b : Statements) (a : List Symbol) → body_of st ≡ Some b → FirstInside st b a
first_inside (define k n body) b a e =
    let W = mark CloseBrace ∷ mark Semicolon ∷ a in
    let left = length (statement_words (define k n body) a) in
    subst (λ c. FirstInside (define k n body) c a) (some_same body b e)
    (first_inside_of (define k n body) body a W (spot left (spots body W)) [] (ap (λ ss. spot left (spots body W) ∷ ss) (sym (append-nil (spots body W)))) refl refl)
first_inside (define_with o k n body i is) b a e =
    let W = mark CloseBrace ∷ outside_words (at_late o) (insts_words i is a) in
    subst (λ c. FirstInside (define_with o k n body i is) c a) (some_same body b e)
    (first_inside_of (define_with o k n body i is) body a W (spot (length (statement_words (define_with o k n body i is) a)) (spots body W)) (insts_spots [] i is a) refl refl (back_same (at_late o) i is a))
first_inside (anonymous o k body i is) b a e =
    let W = mark CloseBrace ∷ outside_words (at_late o) (insts_words i is a) in
    subst (λ c. FirstInside (anonymous o k body i is) c a) (some_same body b e)
    (first_inside_of (anonymous o k body i is) body a W (spot (length (insts_words i is a)) (spots body W)) (others_spots (spots body W) is (mark Semicolon ∷ a)) refl refl (back_same (at_late o) i is a))
first_inside (named o n i is) b a e = cc
first_inside (own p v) b a e = cc
first_inside (default p v) b a e = cc
first_inside (dynamic n ns p v) b a e = cc
