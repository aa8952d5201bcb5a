-- Words that were passed, with their braces in pairs, and the faults behind them.
use Rattle.std.proofs.Common.{◌≡◌, ℕ, suc, ◌+◌, ◌<◌, ◌≤◌, List, [], ◌∷◌, ◌++◌, length, Option, Some, None, Result, refl, ap, sym, ◌∙◌, arith, append_assoc}
use Rattle.std.proofs.lemmas.List.{length-append}
use Rattle.rdl_text.specs.declared.token.Mark.{Mark}
use Rattle.rdl_text.specs.declared.token.Mark.TheVariants.{OpenBrace, CloseBrace, Semicolon, Equals, At, PlusEquals, PercentEquals}
use Rattle.rdl_tree.specs.declared.shell.Outside.{Outside}
use Rattle.rdl_tree.specs.declared.value.Value.{Value}
use Rattle.rdl_tree.specs.declared.value.Value.TheVariants as values
use Rattle.rdl_tree.specs.declared.value.Word.TheVariants as word
use Rattle.rdl_parse.specs.declared.fault.Fault.{Fault}
use Rattle.rdl_parse.specs.declared.fault.Fault.TheVariants.{Unexpected, End, TooDeep, TooLarge}
use Rattle.rdl_parse.specs.Symbol.{Symbol, kind, mark}
use Rattle.rdl_parse.specs.Spelling.{Brackets, sizes, range, Inst, Prop, free, reserved, Statement, define, define_with, anonymous, named, own, default, dynamic, Statements, none, one, sizes_words, brackets_words, part_words, inst_words, others_words, insts_words, outside_words, at_front, at_late, prop_symbol, value_symbol, equals_words, assigned_words, dots_words, statement_words, words}
use Rattle.rdl_parse.specs.declared.room.Room.{Room}
use Rattle.rdl_tree.specs.declared.shell.Kind.{Kind}
use Rattle.rdl_parse.specs.Stands.{opens, closes, name_words, inside, IsWord, IsTooDeep, IsTooLarge, Stands}
use Rattle.rdl_parse.proofs.Outcome.{Outcome, weaker}

-- ws are some words with their braces in pairs, and behind them rest
pub record Passes (ws rest : List Symbol) : Type 0 where
  pub before : List Symbol
  pub parts : ws ≡ before ++ rest
  pub even : opens before ≡ closes before

opens-append : (xs ys : List Symbol) → opens (xs ++ ys) ≡ opens xs + opens ys
opens-append [] ys = omega arith
opens-append (mark OpenBrace ∷ xs) ys = omega (arith, opens-append xs ys)
opens-append (x ∷ xs) ys = opens-append xs ys

closes-append : (xs ys : List Symbol) → closes (xs ++ ys) ≡ closes xs + closes ys
closes-append [] ys = omega arith
closes-append (mark CloseBrace ∷ xs) ys = omega (arith, closes-append xs ys)
closes-append (x ∷ xs) ys = closes-append xs ys

-- a word that is no brace
abbrev pub Plain : Symbol → Type 0
Plain (mark OpenBrace) = ⊥
Plain (mark CloseBrace) = ⊥
Plain w = Unit {0}

plain-opens : (w : Symbol) (ws : List Symbol) → Plain w → opens (w ∷ ws) ≡ opens ws
plain-opens (mark OpenBrace) ws p = absurd p
plain-opens (mark CloseBrace) ws p = absurd p
plain-opens w ws p = refl

plain-closes : (w : Symbol) (ws : List Symbol) → Plain w → closes (w ∷ ws) ≡ closes ws
plain-closes (mark OpenBrace) ws p = absurd p
plain-closes (mark CloseBrace) ws p = absurd p
plain-closes w ws p = refl

pub passes-none : {ws : List Symbol} → Passes ws ws
passes-none = record { before = []; parts = refl; even = refl }

pub passes-then : {a b c : List Symbol} → Passes a b → Passes b c → Passes a c
passes-then {a} {b} {c} p q = record {
  before = p.before ++ q.before;
  parts = p.parts ∙ ap (λ us. p.before ++ us) q.parts ∙ sym (append_assoc p.before q.before c);
  even = omega (arith, opens-append p.before q.before, closes-append p.before q.before, p.even, q.even);
}

-- a word, and then
pub passes-word : {ws rest : List Symbol} (w : Symbol) → Plain w → Passes ws rest → Passes (w ∷ ws) rest
passes-word w h p = record { before = w ∷ p.before; parts = ap (λ us. w ∷ us) p.parts; even = plain-opens w p.before h ∙ p.even ∙ sym (plain-closes w p.before h) }

pub passes-from : {a b c : List Symbol} → a ≡ b → Passes b c → Passes a c
passes-from e p = record { before = p.before; parts = e ∙ p.parts; even = p.even }

pub passes-braces : {ws rest : List Symbol} → Passes ws (mark CloseBrace ∷ rest) → Passes (mark OpenBrace ∷ ws) rest
passes-braces {ws} {rest} p = record {
  before = mark OpenBrace ∷ p.before ++ mark CloseBrace ∷ [];
  parts = ap (λ us. mark OpenBrace ∷ us) (p.parts ∙ sym (append_assoc p.before (mark CloseBrace ∷ []) rest));
  even = omega (arith, opens-append p.before (mark CloseBrace ∷ []), closes-append p.before (mark CloseBrace ∷ []), p.even);
}

pub passes-length : {ws rest : List Symbol} → Passes ws rest → length rest ≤ length ws
passes-length {ws} {rest} p = omega (arith, ap (λ us. length us) p.parts, length-append p.before rest)

-- ---- The words of each form.

pub sizes-pass : (ns : List ℕ) (ws : List Symbol) → Passes (sizes_words ns ws) ws
sizes-pass [] ws = passes-none
sizes-pass (n ∷ ns) ws = passes-word _ tt (passes-word _ tt (passes-word _ tt (sizes-pass ns ws)))

pub brackets-pass : (b : Brackets) (ws : List Symbol) → Passes (brackets_words b ws) ws
brackets-pass (sizes ns) ws = sizes-pass ns ws
brackets-pass (range h l) ws = passes-word _ tt (passes-word _ tt (passes-word _ tt (passes-word _ tt (passes-word _ tt passes-none))))

pub part-passes : (m : Mark) (o : Option ℕ) (ws : List Symbol) → Plain (mark m) → Passes (part_words m o ws) ws
part-passes m None ws h = passes-none
part-passes m (Some n) ws h = passes-word _ h (passes-word _ tt passes-none)

pub inst-passes : (i : Inst) (ws : List Symbol) → Passes (inst_words i ws) ws
inst-passes i ws =
    passes-word _ tt
    (passes-then (brackets-pass i.brackets _)
    (passes-then (part-passes Equals i.reset _ tt)
    (passes-then (part-passes At i.address _ tt)
    (passes-then (part-passes PlusEquals i.stride _ tt)
    (part-passes PercentEquals i.align ws tt)))))

pub others-pass : (is : List Inst) (ws : List Symbol) → Passes (others_words is ws) ws
others-pass [] ws = passes-none
others-pass (i ∷ is) ws = passes-word _ tt (passes-then (inst-passes i _) (others-pass is ws))

-- all but the semicolon
pub insts-reach : (i : Inst) (is : List Inst) (ws : List Symbol) → Passes (insts_words i is ws) (mark Semicolon ∷ ws)
insts-reach i is ws = passes-then (inst-passes i _) (others-pass is _)

pub outside-passes : (o : Option Outside) (ws : List Symbol) → Passes (outside_words o ws) ws
outside-passes None ws = passes-none
outside-passes (Some o) ws = passes-word _ tt passes-none

prop-plain : (p : Prop) → Plain (prop_symbol p)
prop-plain (free n) = tt
prop-plain (reserved p) = tt

pub prop-passes : (p : Prop) (ws : List Symbol) → Passes (prop_symbol p ∷ ws) ws
prop-passes p ws = passes-word _ (prop-plain p) passes-none

pub value-plain : (v : Value) → Plain (value_symbol v)
value-plain (values.Number n) = tt
value-plain (values.Text t) = tt
value-plain (values.Bool b) = tt
value-plain (values.Word word.R) = tt
value-plain (values.Word word.W) = tt
value-plain (values.Word word.Rclr) = tt
value-plain (values.Word word.Rset) = tt
value-plain (values.Word word.Woset) = tt
value-plain (values.Word word.Woclr) = tt
value-plain (values.Word w) = tt

pub equals-pass : (v : Option Value) (ws : List Symbol) → Passes (equals_words v ws) ws
equals-pass None ws = passes-none
equals-pass (Some v) ws = passes-word _ tt (passes-word _ (value-plain v) passes-none)

pub assigned-reach : (p : Prop) (v : Option Value) (ws : List Symbol) → Passes (assigned_words p v ws) (mark Semicolon ∷ ws)
assigned-reach p v ws = passes-word _ (prop-plain p) (equals-pass v _)

pub dots-pass : (ns : List (List ℕ)) (ws : List Symbol) → Passes (dots_words ns ws) ws
dots-pass [] ws = passes-none
dots-pass (n ∷ ns) ws = passes-word _ tt (passes-word _ tt (dots-pass ns ws))

mutual
  pub statement-reach : (st : Statement) (ws : List Symbol) → Passes (statement_words st ws) (mark Semicolon ∷ ws)
  statement-reach (define k n body) ws = passes-word _ tt (passes-word _ tt (passes-braces (words-pass body _)))
  statement-reach (define_with o k n body i is) ws =
      passes-then (outside-passes (at_front o) _)
      (passes-word _ tt (passes-word _ tt (passes-then (passes-braces (words-pass body _)) (passes-then (outside-passes (at_late o) _) (insts-reach i is ws)))))
  statement-reach (anonymous o k body i is) ws =
      passes-then (outside-passes (at_front o) _)
      (passes-word _ tt (passes-then (passes-braces (words-pass body _)) (passes-then (outside-passes (at_late o) _) (insts-reach i is ws))))
  statement-reach (named o n i is) ws = passes-then (outside-passes o _) (passes-word _ tt (insts-reach i is ws))
  statement-reach (own p v) ws = assigned-reach p v ws
  statement-reach (default p v) ws = passes-word _ tt (assigned-reach p v ws)
  statement-reach (dynamic n ns p v) ws = passes-word _ tt (passes-then (dots-pass ns _) (passes-word _ tt (assigned-reach p v ws)))

  pub words-pass : (t : Statements) (ws : List Symbol) → Passes (words t ws) ws
  words-pass none ws = passes-none
  words-pass (one s ss) ws = passes-then (statement-reach s _) (passes-word _ tt (words-pass ss ws))

pub statement-passes : (st : Statement) (ws : List Symbol) → Passes (statement_words st ws) ws
statement-passes st ws = passes-then (statement-reach st ws) (passes-word _ tt passes-none)

pub statement-shorter : (st : Statement) (ws : List Symbol) → length ws < length (statement_words st ws)
statement-shorter st ws = omega (arith, passes-length (statement-reach st ws))

pub name-passes : (n : Option (List ℕ)) (ws : List Symbol) → Passes (name_words n ws) ws
name-passes None ws = passes-none
name-passes (Some n) ws = passes-word _ tt passes-none

-- what stands before a brace
pub head-passes : (o : Option Outside) (k : Kind) (n : Option (List ℕ)) (ws : List Symbol) → Passes (outside_words o (kind k ∷ name_words n ws)) ws
head-passes o k n ws = passes-then (outside-passes o _) (passes-word _ tt (name-passes n ws))

-- ---- Faults further on.

-- a fault at a word, or at the end
abbrev pub Mild : List Symbol → Fault → Type 0
Mild ws (Unexpected left) = IsWord ws left
Mild ws End = Unit {0}
Mild ws (TooDeep left) = ⊥
Mild ws (TooLarge left) = ⊥

word-along : (ws rest : List Symbol) (left : ℕ) → Passes ws rest → IsWord rest left → IsWord ws left
word-along ws rest left p h = record {
  before = p.before ++ h.before;
  word = h.word;
  after = h.after;
  parts = p.parts ∙ ap (λ us. p.before ++ us) h.parts ∙ sym (append_assoc p.before h.before (h.word ∷ h.after));
  left_is = h.left_is;
}

deep-along : (levels : ℕ) (ws rest : List Symbol) (left : ℕ) → Passes ws rest → IsTooDeep levels rest left → IsTooDeep levels ws left
deep-along levels ws rest left p h = record {
  before = p.before ++ h.before;
  after = h.after;
  parts = p.parts ∙ ap (λ us. p.before ++ us) h.parts ∙ sym (append_assoc p.before h.before (mark OpenBrace ∷ h.after));
  left_is = h.left_is;
  opened = omega (arith, opens-append p.before h.before, closes-append p.before h.before, p.even, h.opened);
}

pub mild-along : (ws rest : List Symbol) → Passes ws rest → (f : Fault) → Mild rest f → Mild ws f
mild-along ws rest p (Unexpected left) h = word-along ws rest left p h
mild-along ws rest p End h = tt
mild-along ws rest p (TooDeep left) h = h
mild-along ws rest p (TooLarge left) h = h

-- a mild fault of the words behind those that were passed
pub past : {A : Type 0} {P : A → Type 0} {ws rest : List Symbol} {r : Result A Fault} → Passes ws rest → Outcome P (Mild rest) r → Outcome P (Mild ws) r
past {A} {P} {ws} {rest} p h = weaker h (λ x q. q) (mild-along ws rest p)

mild-stands : (levels : ℕ) (room : Room) (ws rest : List Symbol) → Passes ws rest → (f : Fault) → Mild rest f → Stands levels room ws f
mild-stands levels room ws rest p (Unexpected left) h = word-along ws rest left p h
mild-stands levels room ws rest p End h = tt
mild-stands levels room ws rest p (TooDeep left) h = absurd h
mild-stands levels room ws rest p (TooLarge left) h = absurd h

pub mildly : {A : Type 0} {P : A → Type 0} {levels : ℕ} {room : Room} {ws rest : List Symbol} {r : Result A Fault} → Passes ws rest → Outcome P (Mild rest) r → Outcome P (Stands levels room ws) r
mildly {A} {P} {levels} {room} {ws} {rest} p h = weaker h (λ x q. q) (mild-stands levels room ws rest p)

-- a fault behind words that were passed, where one of size is one of them too
pub along : (levels : ℕ) (room rest_room : Room) (ws rest : List Symbol) → Passes ws rest → ((left : ℕ) → IsTooLarge rest_room rest left → IsTooLarge room ws left) → (f : Fault) → Stands levels rest_room rest f → Stands levels room ws f
along levels room rest_room ws rest p k (Unexpected left) h = word-along ws rest left p h
along levels room rest_room ws rest p k End h = tt
along levels room rest_room ws rest p k (TooDeep left) h = deep-along levels ws rest left p h
along levels room rest_room ws rest p k (TooLarge left) h = k left h

-- ---- A fault in a body that begins with a brace.

abbrev pub InBody : ℕ → Room → List Symbol → Fault → Type 0
InBody levels room ws (Unexpected left) = IsWord ws left
InBody levels room ws End = Unit {0}
InBody levels room ws (TooDeep left) = IsTooDeep levels ws left
InBody levels room ws (TooLarge left) = (rest : List Symbol) × (ws ≡ mark OpenBrace ∷ rest) × IsTooLarge room rest left

-- a brace deeper
pub deeper : (levels : ℕ) (room : Room) (ws rest : List Symbol) → ws ≡ mark OpenBrace ∷ rest → (f : Fault) → Stands levels room rest f → InBody (suc levels) room ws f
deeper levels room ws rest e (Unexpected left) h = record { before = mark OpenBrace ∷ h.before; word = h.word; after = h.after; parts = e ∙ ap (λ us. mark OpenBrace ∷ us) h.parts; left_is = h.left_is }
deeper levels room ws rest e End h = tt
deeper levels room ws rest e (TooDeep left) h = record {
  before = mark OpenBrace ∷ h.before;
  after = h.after;
  parts = e ∙ ap (λ us. mark OpenBrace ∷ us) h.parts;
  left_is = h.left_is;
  opened = omega (arith, h.opened);
}
deeper levels room ws rest e (TooLarge left) h = (rest, e, h)

mild-in_body : (levels : ℕ) (room : Room) (ws rest : List Symbol) → Passes ws rest → (f : Fault) → Mild rest f → InBody levels room ws f
mild-in_body levels room ws rest p (Unexpected left) h = word-along ws rest left p h
mild-in_body levels room ws rest p End h = tt
mild-in_body levels room ws rest p (TooDeep left) h = absurd h
mild-in_body levels room ws rest p (TooLarge left) h = absurd h

pub mildly-in_body : {A : Type 0} {P : A → Type 0} {levels : ℕ} {room : Room} {ws rest : List Symbol} {r : Result A Fault} → Passes ws rest → Outcome P (Mild rest) r → Outcome P (InBody levels room ws) r
mildly-in_body {A} {P} {levels} {room} {ws} {rest} p h = weaker h (λ x q. q) (mild-in_body levels room ws rest p)

-- the statement with this body is a body further out
pub from-body : (levels : ℕ) (room : Room) (o : Option Outside) (k : Kind) (n : Option (List ℕ)) (ws : List Symbol) (f : Fault) → InBody levels room ws f → Stands levels room (outside_words o (kind k ∷ name_words n ws)) f
from-body levels room o k n ws (Unexpected left) h = word-along _ ws left (head-passes o k n ws) h
from-body levels room o k n ws End h = tt
from-body levels room o k n ws (TooDeep left) h = deep-along levels _ ws left (head-passes o k n ws) h
from-body levels room o k n ws (TooLarge left) h = record {
  opened = inside none o k n h.2.opened;
  after = h.2.after;
  words_are = ap (λ us. outside_words o (kind k ∷ name_words n us)) (h.1 ∙ ap (λ us. mark OpenBrace ∷ us) h.2.words_are);
  left_is = h.2.left_is;
  fitted = h.2.fitted;
  full = h.2.full;
}
