-- What is spelled within the limits is read.
use Rattle.std.proofs.Common.{◌≡◌, ℕ, zero, suc, ◌+◌, ◌≤◌, max, true, false, List, [], ◌∷◌, ◌++◌, length, map, Option, Some, None, Ok, refl, ap, sym, ◌∙◌, arith}
use Rattle.std.proofs.lemmas.List.{length-append}
use Rattle.std.proofs.lemmas.List.Sums.{sum_by-cons, sum_by-append}
use Rattle.rdl_text.specs.declared.token.Mark.TheVariants.{OpenBrace, CloseBrace, Semicolon, Comma, Arrow}
use Rattle.rdl_tree.specs.Items.{Items, count}
use Rattle.rdl_tree.specs.View.{items_of}
use Rattle.rdl_tree.specs.Depth.{depth}
use Rattle.rdl_tree.specs.Weight.{weight}
use Rattle.rdl_tree.specs.ItemWeight.{item_weight}
use Rattle.rdl_tree.proofs.Rounds.{weight-items_of}
use Rattle.rdl_tree.proofs.Sizes.{depth-append}
use Rattle.rdl_tree.specs.declared.shell.Kind.{Kind}
use Rattle.rdl_tree.specs.declared.shell.Outside.{Outside}
use Rattle.rdl_tree.specs.declared.shell.Outside.TheVariants.{Unsaid}
use Rattle.rdl_tree.specs.declared.description.Item.{Item}
use Rattle.rdl_tree.specs.declared.description.Item.TheVariants.{Define}
use Rattle.rdl_tree.specs.declared.description.Of.{Of}
use Rattle.rdl_tree.specs.declared.description.Of.TheVariants.{Named, Anonymous}
use Rattle.rdl_tree.specs.declared.value.Value.{Value}
use Rattle.rdl_parse.specs.declared.found.Spot.{Spot}
use Rattle.rdl_parse.specs.declared.room.Room.{Room}
use Rattle.rdl_parse.specs.Finds.{Finds, nothing, single, joined, weight_of, fits, less}
use Rattle.rdl_parse.specs.Symbol.{Symbol, name, mark}
use Rattle.rdl_parse.specs.Spelling.{Inst, Out, nowhere, front, late, Prop, free, reserved, Statement, define, define_with, anonymous, named, own, default, dynamic, Statements, none, one, inst_words, others_words, insts_words, outside_words, at_front, at_late, equals_words, assigned_words, dots_words, statement_words, words, instance, instances, out_of, prop_text, component, statement_items, items, spots, Spells, SpellsItems}
use Rattle.rdl_parse.specs.Reading.{begins, Finished, finish_at, more_at, next_at, others_at, insts_at, own_at, default_at, dynamic_at, named_at, block, late_at, late_insts_at, defined_at, component_at, fronted_at, statement_at, goes_on, following_one_at, following_at, statements_at, body_at, end_at, text_at, items_at}
use Rattle.rdl_parse.proofs.Outcome.{outcome-ok, bind-ok, cond-true}
use Rattle.rdl_parse.proofs.Turns.{Shortens, repeated-done, repeated-next}
use Rattle.rdl_parse.proofs.Passing.{passes-length, inst-passes, statement-shorter}
use Rattle.rdl_parse.proofs.WordAgain.{Behind, others-behind, mark-again, value-again, prop-again, inst-again, dots-again}
use Rattle.rdl_parse.proofs.TextRead.{next-reads, body-reads, one-follows, Held}
use Rattle.rdl_parse.proofs.Forms.{one_finds, others_finds, insts_finds, statement_finds, finds, joined-nothing, joined-assoc, fits-both, statement-counted, count-append}

-- ---- The INSTs of a statement, and its end.

more-again : (o : Outside) (of : Of) (inner : List Spot) (found : Finds) (i : Inst) (ws : List Symbol) → Behind ws → more_at o of inner found (inst_words i ws) ≡ Ok (joined found (one_finds o of inner i ws), ws)
unfolding more_at
more-again o of inner found i ws h = bind-ok _ _ (inst-again o i ws h)

pub next-shortens : (o : Outside) (of : Of) (inner : List Spot) → Shortens (begins Comma) (next_at o of inner)
unfolding begins
next-shortens o of inner = record {
  ends = refl;
  shorter = λ xs ws x e. let p = outcome-ok x e (next-reads o of inner xs ws) in omega (arith, ap length p.words_are, passes-length (inst-passes p.inst x.1));
}

next-again : (o : Outside) (of : Of) (inner : List Spot) (found : Finds) (i : Inst) (ws : List Symbol) → Behind ws → next_at o of inner found (mark Comma ∷ inst_words i ws) ≡ Ok (joined found (one_finds o of inner i ws), ws)
unfolding next_at
next-again o of inner found i ws h = bind-ok _ _ (mark-again Comma (inst_words i ws)) ∙ more-again o of inner found i ws h

others-again : (o : Outside) (of : Of) (inner : List Spot) (found : Finds) (is : List Inst) (ws : List Symbol)
    → others_at o of inner found (others_words is (mark Semicolon ∷ ws)) ≡ Ok (joined found (others_finds o of inner is (mark Semicolon ∷ ws)), mark Semicolon ∷ ws)
unfolding begins
others-again o of inner found [] ws = repeated-done (next-shortens o of inner) found (mark Semicolon ∷ ws) refl ∙ ap (λ f. Ok (f, mark Semicolon ∷ ws)) (joined-nothing found)
others-again o of inner found (i ∷ is) ws =
    let rest = others_words is (mark Semicolon ∷ ws) in
    repeated-next (next-shortens o of inner) found (others_words (i ∷ is) (mark Semicolon ∷ ws)) (joined found (one_finds o of inner i rest), rest) refl (next-again o of inner found i rest (others-behind is ws))
    ∙ others-again o of inner (joined found (one_finds o of inner i rest)) is ws
    ∙ ap (λ f. Ok (f, mark Semicolon ∷ ws)) (joined-assoc found (one_finds o of inner i rest) (others_finds o of inner is (mark Semicolon ∷ ws)))

-- a statement that found these ends
abbrev ended : Room → Finds → List Symbol → Finished × List Symbol
ended room f ws = ((f, less room f), ws)

finish-again : (room : Room) (found : Finds) (ws : List Symbol) → fits room found ≡ true → finish_at room found (mark Semicolon ∷ ws) ≡ Ok (ended room found ws)
unfolding finish_at
finish-again room found ws h = bind-ok _ _ (mark-again Semicolon ws) ∙ cond-true _ _ h

insts-again : (room : Room) (o : Outside) (of : Of) (inner : List Spot) (found : Finds) (i : Inst) (is : List Inst) (ws : List Symbol) → fits room (joined found (insts_finds o of inner i is ws)) ≡ true
    → insts_at room o of inner found (insts_words i is ws) ≡ Ok (ended room (joined found (insts_finds o of inner i is ws)) ws)
unfolding insts_at
insts-again room o of inner found i is ws h =
    let rest = others_words is (mark Semicolon ∷ ws) in
    let same : joined (joined found (one_finds o of inner i rest)) (others_finds o of inner is (mark Semicolon ∷ ws)) ≡ joined found (insts_finds o of inner i is ws) = joined-assoc found (one_finds o of inner i rest) (others_finds o of inner is (mark Semicolon ∷ ws)) in
    bind-ok _ _ (more-again o of inner found i rest (others-behind is ws))
    ∙ bind-ok _ _ (others-again o of inner (joined found (one_finds o of inner i rest)) is ws)
    ∙ ap (λ f. finish_at room f (mark Semicolon ∷ ws)) same
    ∙ finish-again room (joined found (insts_finds o of inner i is ws)) ws h

late-again : (o : Out) (i : Inst) (ws : List Symbol) → late_at (at_front o) (outside_words (at_late o) (inst_words i ws)) ≡ Ok (out_of o, inst_words i ws)
unfolding late_at
late-again nowhere i ws = refl
late-again (front o) i ws = refl
late-again (late o) i ws = refl

late-insts-again : (room : Room) (o : Out) (of : Of) (inner : List Spot) (found : Finds) (i : Inst) (is : List Inst) (ws : List Symbol) → fits room (joined found (insts_finds (out_of o) of inner i is ws)) ≡ true
    → late_insts_at room (at_front o) of inner found (outside_words (at_late o) (insts_words i is ws)) ≡ Ok (ended room (joined found (insts_finds (out_of o) of inner i is ws)) ws)
unfolding late_insts_at
late-insts-again room o of inner found i is ws h = bind-ok _ _ (late-again o i (others_words is (mark Semicolon ∷ ws))) ∙ insts-again room (out_of o) of inner found i is ws h

-- ---- Statements.

-- how a body is read again
abbrev pub BodyAgain : ℕ → Room → Statements → Type 0
BodyAgain levels room body = (ws : List Symbol) → body_at levels room (mark OpenBrace ∷ words body (mark CloseBrace ∷ ws)) ≡ Ok (block (finds body (mark CloseBrace ∷ ws)), ws)

-- how a statement is read again
abbrev pub StatementAgain : ℕ → Room → Statement → List Symbol → Type 0
StatementAgain levels room st ws = fits room (statement_finds st ws) ≡ true → statement_at (body_at levels) room (statement_words st ws) ≡ Ok (ended room (statement_finds st ws) ws)

define-again : (levels : ℕ) (room : Room) (k : Kind) (n : List ℕ) (body : Statements) (ws : List Symbol) → BodyAgain levels room body → StatementAgain levels room (define k n body) ws
unfolding statement_at component_at defined_at begins
define-again levels room k n body ws h e = bind-ok _ _ (h (mark Semicolon ∷ ws)) ∙ finish-again room (statement_finds (define k n body) ws) ws e

defined-late : (room : Room) (o : Out) (of : Of) (found : Finds) (i : Inst) (ws : List Symbol)
    → defined_at room (at_front o) of found (outside_words (at_late o) (inst_words i ws)) ≡ late_insts_at room (at_front o) of [] found (outside_words (at_late o) (inst_words i ws))
unfolding defined_at begins
defined-late room nowhere of found i ws = refl
defined-late room (front o) of found i ws = refl
defined-late room (late o) of found i ws = refl

component-again : (levels : ℕ) (room : Room) (o : Out) (left : ℕ) (k : Kind) (n : List ℕ) (body : Statements) (i : Inst) (is : List Inst) (ws : List Symbol) → BodyAgain levels room body
    → left ≡ length (statement_words (define_with o k n body i is) ws) → fits room (statement_finds (define_with o k n body i is) ws) ≡ true
    → component_at (body_at levels) room (at_front o) left k (name n ∷ mark OpenBrace ∷ words body (mark CloseBrace ∷ outside_words (at_late o) (insts_words i is ws))) ≡ Ok (ended room (statement_finds (define_with o k n body i is) ws) ws)
unfolding component_at
component-again levels room o left k n body i is ws h l e =
    let behind = outside_words (at_late o) (insts_words i is ws) in
    let inside = finds body (mark CloseBrace ∷ behind) in
    ap (λ m. component_at (body_at levels) room (at_front o) m k (name n ∷ mark OpenBrace ∷ words body (mark CloseBrace ∷ behind))) l
    ∙ bind-ok _ _ (h behind)
    ∙ defined-late room o (Named n) (single (Define n (component k (items_of (items body)))) (length (statement_words (define_with o k n body i is) ws)) inside.spots) i (others_words is (mark Semicolon ∷ ws))
    ∙ late-insts-again room o (Named n) [] (single (Define n (component k (items_of (items body)))) (length (statement_words (define_with o k n body i is) ws)) inside.spots) i is ws e

define_with-again : (levels : ℕ) (room : Room) (o : Out) (k : Kind) (n : List ℕ) (body : Statements) (i : Inst) (is : List Inst) (ws : List Symbol) → BodyAgain levels room body → StatementAgain levels room (define_with o k n body i is) ws
unfolding statement_at fronted_at
define_with-again levels room nowhere k n body i is ws h e = component-again levels room nowhere _ k n body i is ws h refl e
define_with-again levels room (front o) k n body i is ws h e = component-again levels room (front o) _ k n body i is ws h refl e
define_with-again levels room (late o) k n body i is ws h e = component-again levels room (late o) _ k n body i is ws h refl e

nameless-again : (levels : ℕ) (room : Room) (o : Out) (left : ℕ) (k : Kind) (body : Statements) (i : Inst) (is : List Inst) (ws : List Symbol) → BodyAgain levels room body → fits room (statement_finds (anonymous o k body i is) ws) ≡ true
    → component_at (body_at levels) room (at_front o) left k (mark OpenBrace ∷ words body (mark CloseBrace ∷ outside_words (at_late o) (insts_words i is ws))) ≡ Ok (ended room (statement_finds (anonymous o k body i is) ws) ws)
unfolding component_at
nameless-again levels room o left k body i is ws h e =
    let behind = outside_words (at_late o) (insts_words i is ws) in
    bind-ok _ _ (h behind)
    ∙ late-insts-again room o (Anonymous (component k (items_of (items body)))) (spots body (mark CloseBrace ∷ behind)) nothing i is ws e

anonymous-again : (levels : ℕ) (room : Room) (o : Out) (k : Kind) (body : Statements) (i : Inst) (is : List Inst) (ws : List Symbol) → BodyAgain levels room body → StatementAgain levels room (anonymous o k body i is) ws
unfolding statement_at fronted_at
anonymous-again levels room nowhere k body i is ws h e = nameless-again levels room nowhere _ k body i is ws h e
anonymous-again levels room (front o) k body i is ws h e = nameless-again levels room (front o) _ k body i is ws h e
anonymous-again levels room (late o) k body i is ws h e = nameless-again levels room (late o) _ k body i is ws h e

named-again : (levels : ℕ) (room : Room) (o : Option Outside) (n : List ℕ) (i : Inst) (is : List Inst) (ws : List Symbol) → StatementAgain levels room (named o n i is) ws
unfolding statement_at fronted_at named_at begins
named-again levels room None n i is ws e = insts-again room Unsaid (Named n) [] nothing i is ws e
named-again levels room (Some o) n i is ws e = insts-again room o (Named n) [] nothing i is ws e

assigned-again : (room : Room) (p : Prop) (v : Option Value) (ws : List Symbol) → fits room (statement_finds (own p v) ws) ≡ true
    → own_at room (length (statement_words (own p v) ws)) (prop_text p) (equals_words v (mark Semicolon ∷ ws)) ≡ Ok (ended room (statement_finds (own p v) ws) ws)
unfolding own_at
assigned-again room p v ws e = bind-ok _ _ (value-again v ws) ∙ finish-again room (statement_finds (own p v) ws) ws e

own-again : (levels : ℕ) (room : Room) (p : Prop) (v : Option Value) (ws : List Symbol) → StatementAgain levels room (own p v) ws
unfolding statement_at named_at begins
own-again levels room (free n) None ws e = assigned-again room (free n) None ws e
own-again levels room (free n) (Some v) ws e = assigned-again room (free n) (Some v) ws e
own-again levels room (reserved p) v ws e = assigned-again room (reserved p) v ws e

default-again : (levels : ℕ) (room : Room) (p : Prop) (v : Option Value) (ws : List Symbol) → StatementAgain levels room (default p v) ws
unfolding statement_at default_at
default-again levels room p v ws e =
    bind-ok _ _ (prop-again p (equals_words v (mark Semicolon ∷ ws)))
    ∙ bind-ok _ _ (value-again v ws)
    ∙ finish-again room (statement_finds (default p v) ws) ws e

target-again : (room : Room) (n : List ℕ) (ns : List (List ℕ)) (p : Prop) (v : Option Value) (ws : List Symbol) → fits room (statement_finds (dynamic n ns p v) ws) ≡ true
    → dynamic_at room (length (statement_words (dynamic n ns p v) ws)) n (dots_words ns (mark Arrow ∷ assigned_words p v ws)) ≡ Ok (ended room (statement_finds (dynamic n ns p v) ws) ws)
unfolding dynamic_at begins
target-again room n ns p v ws e =
    bind-ok _ _ (dots-again ns (n ∷ []) (mark Arrow ∷ assigned_words p v ws) refl)
    ∙ bind-ok _ _ (mark-again Arrow (assigned_words p v ws))
    ∙ bind-ok _ _ (prop-again p (equals_words v (mark Semicolon ∷ ws)))
    ∙ bind-ok _ _ (value-again v ws)
    ∙ finish-again room (statement_finds (dynamic n ns p v) ws) ws e

dynamic-again : (levels : ℕ) (room : Room) (n : List ℕ) (ns : List (List ℕ)) (p : Prop) (v : Option Value) (ws : List Symbol) → StatementAgain levels room (dynamic n ns p v) ws
unfolding statement_at named_at begins
dynamic-again levels room n [] p v ws e = target-again room n [] p v ws e
dynamic-again levels room n (m ∷ ns) p v ws e = target-again room n (m ∷ ns) p v ws e

starts : (s : Statement) (ws : List Symbol) → goes_on (statement_words s ws) ≡ true
unfolding goes_on
starts (define k n body) ws = refl
starts (define_with nowhere k n body i is) ws = refl
starts (define_with (front o) k n body i is) ws = refl
starts (define_with (late o) k n body i is) ws = refl
starts (anonymous nowhere k body i is) ws = refl
starts (anonymous (front o) k body i is) ws = refl
starts (anonymous (late o) k body i is) ws = refl
starts (named None n i is) ws = refl
starts (named (Some o) n i is) ws = refl
starts (own (free n) v) ws = refl
starts (own (reserved p) v) ws = refl
starts (default p v) ws = refl
starts (dynamic n ns p v) ws = refl

-- ---- Bodies.

pub one-shortens : (levels : ℕ) → Shortens goes_on (following_one_at (body_at levels))
unfolding goes_on
one-shortens levels = record {
  ends = refl;
  shorter = λ s ws x e. let p = (outcome-ok x e (one-follows levels (body_at levels) (body-reads levels) s ws)).1 in omega (arith, ap length p.form.words_are, statement-shorter p.form.statement x.1);
}

one-again : (levels : ℕ) (s : Finished) (ws vs : List Symbol) (x : Finished) → statement_at (body_at levels) s.1 ws ≡ Ok (x, vs) → following_one_at (body_at levels) s ws ≡ Ok ((joined s.0 x.0, x.1), vs)
unfolding following_one_at
one-again levels s ws vs x e = bind-ok _ _ e

statements-from : (levels : ℕ) (room : Room) (t : Statements) (ws : List Symbol) → following_at (body_at levels) (nothing, room) (words t ws) ≡ Ok ((finds t ws, less room (finds t ws)), ws) → statements_at (body_at levels) room (words t ws) ≡ Ok (finds t ws, ws)
unfolding statements_at
statements-from levels room t ws h = bind-ok _ _ h

body-from : (levels : ℕ) (room : Room) (t : Statements) (ws : List Symbol) → following_at (body_at levels) (nothing, room) (words t (mark CloseBrace ∷ ws)) ≡ Ok ((finds t (mark CloseBrace ∷ ws), less room (finds t (mark CloseBrace ∷ ws))), mark CloseBrace ∷ ws)
    → body_at (suc levels) room (mark OpenBrace ∷ words t (mark CloseBrace ∷ ws)) ≡ Ok (block (finds t (mark CloseBrace ∷ ws)), ws)
unfolding body_at
body-from levels room t ws h =
    bind-ok _ _ (mark-again OpenBrace (words t (mark CloseBrace ∷ ws)))
    ∙ bind-ok _ _ (statements-from levels room t (mark CloseBrace ∷ ws) h)
    ∙ bind-ok _ _ (mark-again CloseBrace ws)

is-closed : (ws : List Symbol) → goes_on (mark CloseBrace ∷ ws) ≡ false
unfolding goes_on
is-closed ws = refl

-- items that are not too deep, and for which there is room
pub record Small (levels : ℕ) (room : Room) (xs : List Item) : Type 0 where
  pub shallow : depth (items_of xs) ≤ levels
  pub few : count (items_of xs) ≤ room.items
  pub light : weight_of xs ≤ room.weight

small-body : (levels : ℕ) (room : Room) (x : Item) (k : Kind) (body xs : List Item) → depth (items_of (x ∷ xs)) ≡ max (depth (items_of body) + 1) (depth (items_of xs)) → count (items_of (x ∷ xs)) ≡ count (items_of body) + 1 + count (items_of xs)
    → weight (items_of body) ≤ item_weight x → Small (suc levels) room (x ∷ xs) → Small levels room body
small-body levels room x k body xs d n w h = record {
  shallow = omega (arith, h.shallow);
  few = omega (arith, h.few);
  light = omega (arith, h.light, sum_by-cons item_weight x xs, weight-items_of body);
}

not-shallow : (room : Room) (x : Item) (body xs : List Item) → depth (items_of (x ∷ xs)) ≡ max (depth (items_of body) + 1) (depth (items_of xs)) → Small 0 room (x ∷ xs) → ⊥
not-shallow room x body xs d h = omega (arith, h.shallow)

small-fits : (levels : ℕ) (room : Room) (st : Statement) (ws : List Symbol) → Small levels room (statement_items st) → fits room (statement_finds st ws) ≡ true
small-fits levels room st ws h = fits-both room (statement_finds st ws) (omega (arith, statement-counted st ws, h.few)) h.light

small-first : (levels : ℕ) (room : Room) (xs ys : List Item) → Small levels room (xs ++ ys) → Small levels room xs
small-first levels room xs ys h = record {
  shallow = omega (arith, depth-append xs ys, h.shallow);
  few = omega (arith, count-append xs ys, h.few);
  light = omega (arith, sum_by-append item_weight xs ys, h.light);
}

small-others : (levels : ℕ) (room : Room) (f : Finds) (ys : List Item) → length f.spots ≡ count (items_of f.items) → Small levels room (f.items ++ ys) → Small levels (less room f) ys
small-others levels room f ys e h = record {
  shallow = omega (arith, depth-append f.items ys, h.shallow);
  few = omega (arith, count-append f.items ys, h.few, e);
  light = omega (arith, sum_by-append item_weight f.items ys, h.light);
}

room-same : (r q : Room) → r.items ≡ q.items → r.weight ≡ q.weight → r ≡ q
room-same r q e f = λ i. record { items = e i; weight = f i }

less-none : (room : Room) → room ≡ less room nothing
less-none room = room-same room (less room nothing) (omega arith) (omega arith)

less-both : (room : Room) (f g : Finds) → less (less room f) g ≡ less room (joined f g)
less-both room f g = room-same (less (less room f) g) (less room (joined f g)) (omega (arith, length-append f.spots g.spots)) (omega (arith, sum_by-append item_weight f.items g.items))

abbrev state : Finds → Room → Finished
state f room = (f, room)

state-same : (f g : Finds) (r q : Room) → f ≡ g → r ≡ q → state f r ≡ state g q
state-same f g r q e k = λ i. (e i, k i)

mutual
  pub statement-again : (st : Statement) (levels : ℕ) (room : Room) (ws : List Symbol) → Small levels room (statement_items st) → statement_at (body_at levels) room (statement_words st ws) ≡ Ok (ended room (statement_finds st ws) ws)
  statement-again (define k n body) zero room ws h = absurd (not-shallow room (Define n (component k (items_of (items body)))) (items body) [] (omega arith) h)
  statement-again (define k n body) (suc levels) room ws h =
      define-again (suc levels) room k n body ws
      (λ vs. body-from levels room body vs (following-again body levels (nothing, room) (mark CloseBrace ∷ vs) (small-body levels room (Define n (component k (items_of (items body)))) k (items body) [] (omega arith) (omega arith) (omega arith) h) (is-closed vs)))
      (small-fits (suc levels) room (define k n body) ws h)
  statement-again (define_with o k n body i is) zero room ws h = absurd (not-shallow room (Define n (component k (items_of (items body)))) (items body) (instances (out_of o) (Named n) i is) (omega arith) h)
  statement-again (define_with o k n body i is) (suc levels) room ws h =
      define_with-again (suc levels) room o k n body i is ws
      (λ vs. body-from levels room body vs (following-again body levels (nothing, room) (mark CloseBrace ∷ vs) (small-body levels room (Define n (component k (items_of (items body)))) k (items body) (instances (out_of o) (Named n) i is) (omega arith) (omega arith) (omega arith) h) (is-closed vs)))
      (small-fits (suc levels) room (define_with o k n body i is) ws h)
  statement-again (anonymous o k body i is) zero room ws h =
      absurd (not-shallow room (instance (out_of o) (Anonymous (component k (items_of (items body)))) i) (items body) (map (instance (out_of o) (Anonymous (component k (items_of (items body))))) is) (omega arith) h)
  statement-again (anonymous o k body i is) (suc levels) room ws h =
      anonymous-again (suc levels) room o k body i is ws
      (λ vs. body-from levels room body vs (following-again body levels (nothing, room) (mark CloseBrace ∷ vs)
      (small-body levels room (instance (out_of o) (Anonymous (component k (items_of (items body)))) i) k (items body) (map (instance (out_of o) (Anonymous (component k (items_of (items body))))) is) (omega arith) (omega arith) (omega arith) h) (is-closed vs)))
      (small-fits (suc levels) room (anonymous o k body i is) ws h)
  statement-again (named o n i is) levels room ws h = named-again levels room o n i is ws (small-fits levels room (named o n i is) ws h)
  statement-again (own p v) levels room ws h = own-again levels room p v ws (small-fits levels room (own p v) ws h)
  statement-again (default p v) levels room ws h = default-again levels room p v ws (small-fits levels room (default p v) ws h)
  statement-again (dynamic n ns p v) levels room ws h = dynamic-again levels room n ns p v ws (small-fits levels room (dynamic n ns p v) ws h)

  pub following-again : (t : Statements) (levels : ℕ) (s : Finished) (ws : List Symbol) → Small levels s.1 (items t) → goes_on ws ≡ false → following_at (body_at levels) s (words t ws) ≡ Ok ((joined s.0 (finds t ws), less s.1 (finds t ws)), ws)
  following-again none levels s ws h e = repeated-done (one-shortens levels) s ws e ∙ ap (λ q. Ok (q, ws)) (state-same s.0 (joined s.0 nothing) s.1 (less s.1 nothing) (joined-nothing s.0) (less-none s.1))
  following-again (one st ss) levels s ws h e =
      let f = statement_finds st (words ss ws) in
      let next = state (joined s.0 f) (less s.1 f) in
      repeated-next (one-shortens levels) s (words (one st ss) ws) (next, words ss ws) (starts st (words ss ws))
      (one-again levels s (words (one st ss) ws) (words ss ws) (f, less s.1 f) (statement-again st levels s.1 (words ss ws) (small-first levels s.1 (statement_items st) (items ss) h)))
      ∙ following-again ss levels next ws (small-others levels s.1 f (items ss) (statement-counted st (words ss ws)) h) e
      ∙ ap (λ q. Ok (q, ws)) (state-same _ _ _ _ (joined-assoc s.0 f (finds ss ws)) (less-both s.1 f (finds ss ws)))

-- ---- Texts, and one statement.

small-items : (levels : ℕ) (room : Room) (d : Items) (xs : List Item) → d ≡ items_of xs → Held levels room d → Small levels room xs
small-items levels room d xs e h =
    let deep : depth d ≡ depth (items_of xs) = ap depth e in
    let many : count d ≡ count (items_of xs) = ap count e in
    let heavy : weight d ≡ weight (items_of xs) = ap weight e in
    record { shallow = omega (arith, h.deep); few = omega (arith, h.many); light = omega (arith, h.heavy, weight-items_of xs) }

text-from : (levels : ℕ) (room : Room) (t : Statements) → Small levels room (items t) → text_at levels room (words t []) ≡ Ok (block (finds t []))
unfolding text_at end_at goes_on
text-from levels room t h = bind-ok _ _ (statements-from levels room t [] (following-again t levels (nothing, room) [] h refl))

pub text-again : (levels : ℕ) (room : Room) (ws : List Symbol) (d : Items) (at : List Spot) → Spells ws d at → Held levels room d → text_at levels room ws ≡ Ok (record { items = d; spots = at })
text-again levels room ws d at s h =
    ap (text_at levels room) s.1 ∙ text-from levels room s.0 (small-items levels room d (items s.0) s.2 h) ∙ sym (λ i. Ok (record { items = s.2 i; spots = s.3 i }))

items-from : (levels : ℕ) (room : Room) (st : Statement) → Small levels room (statement_items st) → items_at levels room (statement_words st []) ≡ Ok (statement_items st)
unfolding items_at end_at
items-from levels room st h = bind-ok _ _ (statement-again st levels room [] h)

pub items-again : (levels : ℕ) (room : Room) (ws : List Symbol) (xs : List Item) → SpellsItems ws xs → Held levels room (items_of xs) → items_at levels room ws ≡ Ok xs
items-again levels room ws xs s h =
    ap (items_at levels room) s.1 ∙ items-from levels room s.0 (small-items levels room (items_of xs) (statement_items s.0) (ap items_of s.2) h) ∙ ap (λ ys. Ok ys) (sym s.2)
