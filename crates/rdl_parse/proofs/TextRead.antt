-- What is read of statements, bodies and texts is spelled and within the limits, and where the faults stand.
use Rattle.std.proofs.Common.{◌≡◌, ℕ, zero, suc, ◌+◌, ◌-◌, ◌≤◌, Bool, true, false, List, [], ◌∷◌, ◌++◌, length, Option, Some, None, refl, ap, sym, ◌∙◌, subst, arith, append_assoc}
use Rattle.std.specs.Prelude.{◌||◌}
use Rattle.std.proofs.lemmas.List.{length-append}
use Rattle.std.proofs.lemmas.List.Sums.{sum_by-append}
use Rattle.rdl_text.specs.declared.token.Mark.TheVariants.{OpenBrace, CloseBrace, Semicolon, Comma, Dot, Equals, Arrow}
use Rattle.rdl_tree.specs.Items.{Items, count}
use Rattle.rdl_tree.specs.View.{items_of}
use Rattle.rdl_tree.specs.Depth.{depth}
use Rattle.rdl_tree.specs.Weight.{weight}
use Rattle.rdl_tree.specs.ItemWeight.{item_weight}
use Rattle.rdl_tree.proofs.Rounds.{weight-items_of}
use Rattle.rdl_tree.proofs.Sizes.{depth-append}
use Rattle.rdl_tree.specs.declared.shell.Kind.{Kind}
use Rattle.rdl_tree.specs.declared.shell.Outside.{Outside}
use Rattle.rdl_tree.specs.declared.shell.Outside.TheVariants.{Unsaid}
use Rattle.rdl_tree.specs.declared.description.Item.{Item}
use Rattle.rdl_tree.specs.declared.description.Item.TheVariants.{Define, Instance, Own, Default, Dynamic}
use Rattle.rdl_tree.specs.declared.description.Of.{Of}
use Rattle.rdl_tree.specs.declared.description.Of.TheVariants.{Named, Anonymous}
use Rattle.rdl_parse.specs.declared.found.Spot.{Spot}
use Rattle.rdl_parse.specs.declared.room.Room.{Room}
use Rattle.rdl_parse.specs.declared.fault.Fault.TheVariants.{TooDeep}
use Rattle.rdl_parse.specs.Finds.{Finds, nothing, single, joined, weight_of, fits, less}
use Rattle.rdl_parse.specs.Symbol as symbol
use Rattle.rdl_parse.specs.Symbol.{Symbol, kind, outside, name, number, mark, property_text}
use Rattle.rdl_parse.specs.Spelling.{Inst, Out, nowhere, front, late, Prop, free, reserved, Statement, define, define_with, anonymous, named, own, default, dynamic, Statements, none, one, inst_words, others_words, insts_words, outside_words, at_front, at_late, prop_symbol, equals_words, assigned_words, dots_words, statement_words, words, instance, said, out_of, prop_text, component, statement_items, items, statement_spots, spots, Spells, SpellsItems}
use Rattle.rdl_parse.specs.Reading.{◌>>=◌, begins, Finished, finish_at, more_at, next_at, insts_at, own_at, default_at, dynamic_at, named_at, Block, block, Inner, late_at, late_insts_at, defined_at, component_at, fronted_at, statement_at, goes_on, following_one_at, statements_at, body_at, end_at, text_at, items_at}
use Rattle.rdl_parse.specs.Stands.{Opened, last, inside, opened_words, before_last, with_last, HasRoom, IsTooLarge, Stands}
use Rattle.rdl_parse.proofs.Outcome.{Outcome, then, gives, stops, but, weaker, either}
use Rattle.rdl_parse.proofs.Turns.{Turning, repeated-holds}
use Rattle.rdl_parse.proofs.Passing.{Passes, passes-none, passes-word, passes-from, passes-then, passes-braces, inst-passes, others-pass, outside-passes, prop-passes, equals-pass, dots-pass, words-pass, statement-passes, head-passes, Mild, mild-along, past, mildly, along, InBody, deeper, mildly-in_body, from-body}
use Rattle.rdl_parse.proofs.WordRead.{refuses, mark-reads, prop-reads, value-reads, inst-reads, dots-read}
use Rattle.rdl_parse.proofs.Forms.{one_finds, others_finds, insts_finds, statement_finds, finds, joined-nothing, joined-assoc, depth-named, depth-anonymous, fits-many, fits-light, fits-both, statement-counted, counted, count-append}

-- ---- The INSTs of a statement.

record IsMore (o : Outside) (of : Of) (inner : List Spot) (xs : Finds) (ws : List Symbol) (ys : Finds) (rest : List Symbol) : Type 0 where
  inst : Inst
  finds_are : ys ≡ joined xs (one_finds o of inner inst rest)
  words_are : ws ≡ inst_words inst rest

more-reads : (o : Outside) (of : Of) (inner : List Spot) (xs : Finds) (ws : List Symbol) → Outcome (λ x. IsMore o of inner xs ws x.0 x.1) (Mild ws) (more_at o of inner xs ws)
unfolding more_at
more-reads o of inner xs ws =
    then (inst-reads o ws)
    (λ i p. gives _ (record {
      inst = p.inst;
      finds_are = ap (λ s. joined xs (single (Instance s of) (length ws) inner)) p.shell_is ∙ ap (λ n. joined xs (single (instance o of p.inst) n inner)) (ap length p.words_are);
      words_are = p.words_are;
    }))

pub record IsNext (o : Outside) (of : Of) (inner : List Spot) (xs : Finds) (ws : List Symbol) (ys : Finds) (rest : List Symbol) : Type 0 where
  pub inst : Inst
  pub finds_are : ys ≡ joined xs (one_finds o of inner inst rest)
  pub words_are : ws ≡ others_words (inst ∷ []) rest

pub next-reads : (o : Outside) (of : Of) (inner : List Spot) (xs : Finds) (ws : List Symbol) → Outcome (λ x. IsNext o of inner xs ws x.0 x.1) (Mild ws) (next_at o of inner xs ws)
unfolding next_at
next-reads o of inner xs ws =
    then (mark-reads Comma ws)
    (λ vs p. past (passes-from p (passes-word _ tt passes-none))
    (but (more-reads o of inner xs vs) (λ x q. record { inst = q.inst; finds_are = q.finds_are; words_are = p ∙ ap (λ us. mark Comma ∷ us) q.words_are })))

record AreOthers (o : Outside) (of : Of) (inner : List Spot) (xs : Finds) (ws : List Symbol) (ys : Finds) (rest : List Symbol) : Type 0 where
  insts : List Inst
  finds_are : ys ≡ joined xs (others_finds o of inner insts rest)
  words_are : ws ≡ others_words insts rest

next-turning : (o : Outside) (of : Of) (inner : List Spot) → Turning (AreOthers o of inner) (λ xs ws. Mild ws) (next_at o of inner)
next-turning o of inner = record {
  none = λ xs ws. record { insts = []; finds_are = joined-nothing xs; words_are = refl };
  one = λ xs ws. but (next-reads o of inner xs ws)
      (λ x p. (
        (λ z q. record {
          insts = p.inst ∷ q.insts;
          finds_are = q.finds_are ∙ ap (λ ys. joined ys (others_finds o of inner q.insts z.1)) (p.finds_are ∙ ap (λ vs. joined xs (one_finds o of inner p.inst vs)) q.words_are) ∙ joined-assoc xs (one_finds o of inner p.inst (others_words q.insts z.1)) (others_finds o of inner q.insts z.1);
          words_are = p.words_are ∙ ap (others_words (p.inst ∷ [])) q.words_are;
        }),
        mild-along ws x.1 (passes-from p.words_are (others-pass (p.inst ∷ []) x.1)),
      ));
}

-- ---- The end of a statement.

-- the words are a statement and these, and this is what it found
pub record IsForm (levels : ℕ) (ws : List Symbol) (found : Finds) (rest : List Symbol) : Type 0 where
  pub statement : Statement
  pub finds_are : found ≡ statement_finds statement rest
  pub words_are : ws ≡ statement_words statement rest
  pub shallow : depth (items_of (statement_items statement)) ≤ levels

-- what was found fits the room, and this is the room that it leaves
pub record Ends (room : Room) (x : Finished) : Type 0 where
  pub room_is : x.1 ≡ less room x.0
  pub small : fits room x.0 ≡ true

pub record IsStatement (levels : ℕ) (room : Room) (ws : List Symbol) (x : Finished) (rest : List Symbol) : Type 0 where
  pub form : IsForm levels ws x.0 rest
  pub ends : Ends room x

not-both : (b : Bool) → b ≡ true → b ≡ false → ⊥
not-both b h k = cc

no-room : (room : Room) (found : Finds) (st : Statement) (rest : List Symbol) → found ≡ statement_finds st rest → fits room found ≡ false → HasRoom room (statement_items st) → ⊥
no-room room found st rest e h r =
    not-both (fits room (statement_finds st rest))
    (fits-both room (statement_finds st rest) (omega (arith, statement-counted st rest, r.few)) (omega (arith, weight-items_of (statement_items st), r.light)))
    (ap (fits room) (sym e) ∙ h)

ends-large : (levels : ℕ) (room : Room) (ws : List Symbol) (found : Finds) (rest : List Symbol) (left : ℕ) → IsForm levels ws found rest → fits room found ≡ false → left ≡ length (mark Semicolon ∷ rest) → IsTooLarge room ws left
ends-large levels room ws found rest left p h l = record {
  opened = last none p.statement;
  after = rest;
  words_are = p.words_are;
  left_is = l;
  fitted = record { few = omega arith; light = omega arith };
  full = no-room room found p.statement rest p.finds_are h;
}

-- the `;` of a statement that found these
finish-reads : (levels : ℕ) (room : Room) (ws : List Symbol) (found : Finds) (vs : List Symbol) → Passes ws vs → ((rest : List Symbol) → vs ≡ mark Semicolon ∷ rest → IsForm levels ws found rest)
    → Outcome (λ x. IsStatement levels room ws x.0 x.1) (Stands levels room ws) (finish_at room found vs)
unfolding finish_at
finish-reads levels room ws found vs p k =
    then (mildly p (mark-reads Semicolon vs))
    (λ rest e. either {b = fits room found}
    (λ h. gives ((found, less room found), rest) (record { form = k rest e; ends = record { room_is = refl; small = h } }))
    (λ h. stops _ (ends-large levels room ws found rest (length rest + 1) (k rest e) h (omega arith))))

-- the INSTs of a statement that found these, and its `;`
insts-read : (levels : ℕ) (room : Room) (ws : List Symbol) (o : Outside) (of : Of) (inner : List Spot) (xs : Finds) (vs : List Symbol) → Passes ws vs
    → ((first : Inst) (others : List Inst) (rest : List Symbol) → vs ≡ insts_words first others rest → IsForm levels ws (joined xs (insts_finds o of inner first others rest)) rest)
    → Outcome (λ x. IsStatement levels room ws x.0 x.1) (Stands levels room ws) (insts_at room o of inner xs vs)
unfolding insts_at
insts-read levels room ws o of inner xs vs p k =
    then (mildly p (more-reads o of inner xs vs))
    (λ a q. let r = passes-then p (passes-from q.words_are (inst-passes q.inst a.1)) in
    then (mildly r (repeated-holds (begins Comma) (next-turning o of inner) a.0 a.1))
    (λ b t. finish-reads levels room ws b.0 b.1 (passes-then r (passes-from t.words_are (others-pass t.insts b.1)))
    (λ rest e.
    let found : b.0 ≡ joined xs (insts_finds o of inner q.inst t.insts rest) =
    t.finds_are ∙ ap (λ zs. joined zs (others_finds o of inner t.insts b.1)) (q.finds_are ∙ ap (λ us. joined xs (one_finds o of inner q.inst us)) t.words_are) ∙ joined-assoc xs (one_finds o of inner q.inst (others_words t.insts b.1)) (others_finds o of inner t.insts b.1)
    ∙ ap (λ us. joined xs (joined (one_finds o of inner q.inst (others_words t.insts us)) (others_finds o of inner t.insts us))) e in
    let words : vs ≡ insts_words q.inst t.insts rest = q.words_are ∙ ap (inst_words q.inst) (t.words_are ∙ ap (others_words t.insts) e) in
    let form = k q.inst t.insts rest words in
    record { statement = form.statement; finds_are = found ∙ form.finds_are; words_are = form.words_are; shallow = form.shallow })))

-- ---- Assignments.

own-reads : (levels : ℕ) (room : Room) (p : Prop) (ws : List Symbol) → Outcome (λ x. IsStatement levels room (prop_symbol p ∷ ws) x.0 x.1) (Stands levels room (prop_symbol p ∷ ws)) (own_at room (suc (length ws)) (prop_text p) ws)
unfolding own_at
own-reads levels room p ws =
    then (mildly (prop-passes p ws) (value-reads ws))
    (λ v q. finish-reads levels room (prop_symbol p ∷ ws) (single (Own (prop_text p) v.0) (suc (length ws)) []) v.1 (passes-then (prop-passes p ws) (passes-from q.words_are (equals-pass q.value v.1)))
    (λ rest e.
    let behind : ws ≡ equals_words q.value (mark Semicolon ∷ rest) = q.words_are ∙ ap (equals_words q.value) e in
    record {
      statement = own p q.value;
      finds_are = λ i. single (Own (prop_text p) (q.value_is i)) (suc (length (behind i))) [];
      words_are = ap (λ us. prop_symbol p ∷ us) behind;
      shallow = omega arith;
    }))

default-reads : (levels : ℕ) (room : Room) (ws : List Symbol) → Outcome (λ x. IsStatement levels room (symbol.default ∷ ws) x.0 x.1) (Stands levels room (symbol.default ∷ ws)) (default_at room (suc (length ws)) ws)
unfolding default_at
default-reads levels room ws =
    let first = passes-word symbol.default tt (passes-none {ws = ws}) in
    then (mildly first (prop-reads ws))
    (λ p e. let second = passes-then first (passes-from e.words_are (prop-passes e.prop p.1)) in
    then (mildly second (value-reads p.1))
    (λ v q. finish-reads levels room (symbol.default ∷ ws) (single (Default p.0 v.0) (suc (length ws)) []) v.1 (passes-then second (passes-from q.words_are (equals-pass q.value v.1)))
    (λ rest f.
    let behind : ws ≡ assigned_words e.prop q.value rest = e.words_are ∙ ap (λ us. prop_symbol e.prop ∷ us) (q.words_are ∙ ap (equals_words q.value) f) in
    record {
      statement = default e.prop q.value;
      finds_are = λ i. single (Default (e.text_is i) (q.value_is i)) (suc (length (behind i))) [];
      words_are = ap (λ us. symbol.default ∷ us) behind;
      shallow = omega arith;
    })))

dynamic-reads : (levels : ℕ) (room : Room) (n : List ℕ) (ws : List Symbol) → Outcome (λ x. IsStatement levels room (name n ∷ ws) x.0 x.1) (Stands levels room (name n ∷ ws)) (dynamic_at room (suc (length ws)) n ws)
unfolding dynamic_at
dynamic-reads levels room n ws =
    let first = passes-word (name n) tt (passes-none {ws = ws}) in
    then (mildly first (dots-read (n ∷ []) ws))
    (λ t d. let second = passes-then first (passes-from d.words_are (dots-pass d.others t.1)) in
    then (mildly second (mark-reads Arrow t.1))
    (λ a f. let third = passes-then second (passes-from f (passes-word (mark Arrow) tt (passes-none {ws = a}))) in
    then (mildly third (prop-reads a))
    (λ p e. let fourth = passes-then third (passes-from e.words_are (prop-passes e.prop p.1)) in
    then (mildly fourth (value-reads p.1))
    (λ v q. finish-reads levels room (name n ∷ ws) (single (Dynamic t.0 p.0 v.0) (suc (length ws)) []) v.1 (passes-then fourth (passes-from q.words_are (equals-pass q.value v.1)))
    (λ rest r.
    let behind : ws ≡ dots_words d.others (mark Arrow ∷ assigned_words e.prop q.value rest) =
    d.words_are ∙ ap (dots_words d.others) (f ∙ ap (λ us. mark Arrow ∷ us) (e.words_are ∙ ap (λ us. prop_symbol e.prop ∷ us) (q.words_are ∙ ap (equals_words q.value) r))) in
    record {
      statement = dynamic n d.others e.prop q.value;
      finds_are = λ i. single (Dynamic (d.names_are i) (e.text_is i) (q.value_is i)) (suc (length (behind i))) [];
      words_are = ap (λ us. name n ∷ us) behind;
      shallow = omega arith;
    })))))

named-form : (levels : ℕ) (o : Option Outside) (n : List ℕ) (vs : List Symbol) (first : Inst) (others : List Inst) (rest : List Symbol) → vs ≡ insts_words first others rest
    → IsForm levels (outside_words o (name n ∷ vs)) (joined nothing (insts_finds (said o) (Named n) [] first others rest)) rest
named-form levels o n vs first others rest e = record {
  statement = named o n first others;
  finds_are = refl;
  words_are = ap (λ us. outside_words o (name n ∷ us)) e;
  shallow = omega (arith, depth-named (said o) n (first ∷ others));
}

named-reads : (levels : ℕ) (room : Room) (n : List ℕ) (ws : List Symbol) → Outcome (λ x. IsStatement levels room (name n ∷ ws) x.0 x.1) (Stands levels room (name n ∷ ws)) (named_at room (suc (length ws)) n ws)
unfolding named_at
named-reads levels room n ws =
    either {b = begins Dot ws || begins Arrow ws}
    (λ _. dynamic-reads levels room n ws)
    (λ _. either {b = begins Equals ws || begins Semicolon ws}
    (λ _. own-reads levels room (free n) ws)
    (λ _. insts-read levels room (name n ∷ ws) Unsaid (Named n) [] nothing ws (passes-word (name n) tt passes-none) (named-form levels None n ws)))

-- ---- Components.

record IsLate (said_first : Option Outside) (ws : List Symbol) (o : Outside) (rest : List Symbol) : Type 0 where
  out : Out
  front_is : said_first ≡ at_front out
  out_is : o ≡ out_of out
  words_are : ws ≡ outside_words (at_late out) rest

late-reads : (f : Option Outside) (ws : List Symbol) → Outcome (λ x. IsLate f ws x.0 x.1) (Mild ws) (late_at f ws)
unfolding late_at
late-reads (Some o) ws = gives _ (record { out = front o; front_is = refl; out_is = refl; words_are = refl })
late-reads None (outside o ∷ ws) = gives _ (record { out = late o; front_is = refl; out_is = refl; words_are = refl })
late-reads None ws = gives _ (record { out = nowhere; front_is = refl; out_is = refl; words_are = refl })

late-insts-read : (levels : ℕ) (room : Room) (ws : List Symbol) (f : Option Outside) (of : Of) (inner : List Spot) (xs : Finds) (vs : List Symbol) → Passes ws vs
    → ((out : Out) (first : Inst) (others : List Inst) (rest : List Symbol) → f ≡ at_front out → vs ≡ outside_words (at_late out) (insts_words first others rest) → IsForm levels ws (joined xs (insts_finds (out_of out) of inner first others rest)) rest)
    → Outcome (λ x. IsStatement levels room ws x.0 x.1) (Stands levels room ws) (late_insts_at room f of inner xs vs)
unfolding late_insts_at
late-insts-read levels room ws f of inner xs vs p k =
    then (mildly p (late-reads f vs))
    (λ o q. insts-read levels room ws o.0 of inner xs o.1 (passes-then p (passes-from q.words_are (outside-passes (at_late q.out) o.1)))
    (λ first others rest e.
    let form = k q.out first others rest q.front_is (q.words_are ∙ ap (outside_words (at_late q.out)) e) in
    record { statement = form.statement; finds_are = ap (λ u. joined xs (insts_finds u of inner first others rest)) q.out_is ∙ form.finds_are; words_are = form.words_are; shallow = form.shallow }))

pub record IsBody (levels : ℕ) (ws : List Symbol) (d : Block) (rest : List Symbol) : Type 0 where
  pub body : Statements
  pub block_is : d ≡ block (finds body (mark CloseBrace ∷ rest))
  pub words_are : ws ≡ mark OpenBrace ∷ words body (mark CloseBrace ∷ rest)
  pub shallow : suc (depth (items_of (items body))) ≤ levels

body-passes : {levels : ℕ} {ws : List Symbol} {d : Block} {rest : List Symbol} → IsBody levels ws d rest → Passes ws rest
body-passes b = passes-from b.words_are (passes-braces (words-pass b.body _))

abbrev pub InnerReads : ℕ → Inner → Type 0
InnerReads levels inner = (room : Room) (ws : List Symbol) → Outcome (λ x. IsBody levels ws x.0 x.1) (InBody levels room ws) (inner room ws)

late-defined : (levels : ℕ) (room : Room) (f : Option Outside) (left : ℕ) (k : Kind) (n : List ℕ) (ws vs : List Symbol) (d : Block) → IsBody levels ws d vs → left ≡ length (outside_words f (kind k ∷ name n ∷ ws))
    → Outcome (λ x. IsStatement levels room (outside_words f (kind k ∷ name n ∷ ws)) x.0 x.1) (Stands levels room (outside_words f (kind k ∷ name n ∷ ws))) (late_insts_at room f (Named n) [] (single (Define n (component k d.items)) left d.spots) vs)
late-defined levels room f left k n ws vs d b l =
    late-insts-read levels room (outside_words f (kind k ∷ name n ∷ ws)) f (Named n) [] (single (Define n (component k d.items)) left d.spots) vs (passes-then (head-passes f k (Some n) ws) (body-passes b))
    (λ out first others rest e w.
    let behind : d ≡ block (finds b.body (mark CloseBrace ∷ outside_words (at_late out) (insts_words first others rest))) = b.block_is ∙ ap (λ us. block (finds b.body (mark CloseBrace ∷ us))) w in
    let whole : outside_words f (kind k ∷ name n ∷ ws) ≡ statement_words (define_with out k n b.body first others) rest =
    ap (λ g. outside_words g (kind k ∷ name n ∷ ws)) e ∙ ap (λ us. outside_words (at_front out) (kind k ∷ name n ∷ us)) (b.words_are ∙ ap (λ us. mark OpenBrace ∷ words b.body (mark CloseBrace ∷ us)) w) in
    let far : left ≡ length (statement_words (define_with out k n b.body first others) rest) = l ∙ ap length whole in
    record {
      statement = define_with out k n b.body first others;
      finds_are = λ i. joined (single (Define n (component k (behind i).items)) (far i) (behind i).spots) (insts_finds (out_of out) (Named n) [] first others rest);
      words_are = whole;
      shallow = omega (arith, b.shallow, depth-named (out_of out) n (first ∷ others));
    })

defined-reads : (levels : ℕ) (room : Room) (f : Option Outside) (left : ℕ) (k : Kind) (n : List ℕ) (ws vs : List Symbol) (d : Block) → IsBody levels ws d vs → left ≡ length (outside_words f (kind k ∷ name n ∷ ws))
    → Outcome (λ x. IsStatement levels room (outside_words f (kind k ∷ name n ∷ ws)) x.0 x.1) (Stands levels room (outside_words f (kind k ∷ name n ∷ ws))) (defined_at room f (Named n) (single (Define n (component k d.items)) left d.spots) vs)
unfolding defined_at
defined-reads levels room (Some o) left k n ws vs d b l = late-defined levels room (Some o) left k n ws vs d b l
defined-reads levels room None left k n ws vs d b l =
    either {b = begins Semicolon vs}
    (λ _. finish-reads levels room (kind k ∷ name n ∷ ws) (single (Define n (component k d.items)) left d.spots) vs (passes-then (head-passes None k (Some n) ws) (body-passes b))
    (λ rest e.
    let behind : d ≡ block (finds b.body (mark CloseBrace ∷ mark Semicolon ∷ rest)) = b.block_is ∙ ap (λ us. block (finds b.body (mark CloseBrace ∷ us))) e in
    let whole : kind k ∷ name n ∷ ws ≡ statement_words (define k n b.body) rest = ap (λ us. kind k ∷ name n ∷ us) (b.words_are ∙ ap (λ us. mark OpenBrace ∷ words b.body (mark CloseBrace ∷ us)) e) in
    let far : left ≡ length (statement_words (define k n b.body) rest) = l ∙ ap length whole in
    record {
      statement = define k n b.body;
      finds_are = λ i. single (Define n (component k (behind i).items)) (far i) (behind i).spots;
      words_are = whole;
      shallow = omega (arith, b.shallow);
    }))
    (λ _. late-defined levels room None left k n ws vs d b l)

nameless-reads : (levels : ℕ) (inner : Inner) → InnerReads levels inner → (room : Room) (f : Option Outside) (k : Kind) (ws : List Symbol)
    → Outcome (λ x. IsStatement levels room (outside_words f (kind k ∷ ws)) x.0 x.1) (Stands levels room (outside_words f (kind k ∷ ws))) (inner room ws >>= λ b. late_insts_at room f (Anonymous (component k b.0.items)) b.0.spots nothing b.1)
nameless-reads levels inner h room f k ws =
    then (weaker (h room ws) (λ x q. q) (from-body levels room f k None ws))
    (λ b q. late-insts-read levels room (outside_words f (kind k ∷ ws)) f (Anonymous (component k b.0.items)) b.0.spots nothing b.1 (passes-then (head-passes f k None ws) (body-passes q))
    (λ out first others rest e w.
    let behind : b.0 ≡ block (finds q.body (mark CloseBrace ∷ outside_words (at_late out) (insts_words first others rest))) = q.block_is ∙ ap (λ us. block (finds q.body (mark CloseBrace ∷ us))) w in
    record {
      statement = anonymous out k q.body first others;
      finds_are = λ i. insts_finds (out_of out) (Anonymous (component k (behind i).items)) (behind i).spots first others rest;
      words_are = ap (λ g. outside_words g (kind k ∷ ws)) e ∙ ap (λ us. outside_words (at_front out) (kind k ∷ us)) (q.words_are ∙ ap (λ us. mark OpenBrace ∷ words q.body (mark CloseBrace ∷ us)) w);
      shallow = depth-anonymous (out_of out) k (items_of (items q.body)) (first ∷ others) levels q.shallow;
    }))

component-reads : (levels : ℕ) (inner : Inner) → InnerReads levels inner → (room : Room) (f : Option Outside) (left : ℕ) (k : Kind) (ws : List Symbol) → left ≡ length (outside_words f (kind k ∷ ws))
    → Outcome (λ x. IsStatement levels room (outside_words f (kind k ∷ ws)) x.0 x.1) (Stands levels room (outside_words f (kind k ∷ ws))) (component_at inner room f left k ws)
unfolding component_at
component-reads levels inner h room f left k (name n ∷ ws) l =
    then (weaker (h room ws) (λ x q. q) (from-body levels room f k (Some n) ws)) (λ b q. defined-reads levels room f left k n ws b.1 b.0 q l)
component-reads levels inner h room f left k ws l = nameless-reads levels inner h room f k ws

fronted-reads : (levels : ℕ) (inner : Inner) → InnerReads levels inner → (room : Room) (o : Outside) (ws : List Symbol)
    → Outcome (λ x. IsStatement levels room (outside o ∷ ws) x.0 x.1) (Stands levels room (outside o ∷ ws)) (fronted_at inner room (suc (length ws)) o ws)
unfolding fronted_at
fronted-reads levels inner h room o (kind k ∷ ws) = component-reads levels inner h room (Some o) (suc (suc (length ws))) k ws refl
fronted-reads levels inner h room o (name n ∷ ws) =
    insts-read levels room (outside o ∷ name n ∷ ws) o (Named n) [] nothing ws (passes-word (outside o) tt (passes-word (name n) tt passes-none)) (named-form levels (Some o) n ws)
fronted-reads levels inner h room o ws = mildly (passes-word (outside o) tt passes-none) (refuses ws)

pub statement-reads : (levels : ℕ) (inner : Inner) → InnerReads levels inner → (room : Room) (ws : List Symbol) → Outcome (λ x. IsStatement levels room ws x.0 x.1) (Stands levels room ws) (statement_at inner room ws)
unfolding statement_at
statement-reads levels inner h room (kind k ∷ ws) = component-reads levels inner h room None (suc (length ws)) k ws refl
statement-reads levels inner h room (outside o ∷ ws) = fronted-reads levels inner h room o ws
statement-reads levels inner h room (symbol.default ∷ ws) = default-reads levels room ws
statement-reads levels inner h room (name n ∷ ws) = named-reads levels room n ws
statement-reads levels inner h room (symbol.property p ∷ ws) = own-reads levels room (reserved p) ws
statement-reads levels inner h room ws = mildly passes-none (refuses ws)

-- ---- Bodies and texts.

pub record AreStatements (levels : ℕ) (s : Finished) (ws : List Symbol) (z : Finished) (rest : List Symbol) : Type 0 where
  pub text : Statements
  pub finds_are : z.0 ≡ joined s.0 (finds text rest)
  pub words_are : ws ≡ words text rest
  pub shallow : depth (items_of (items text)) ≤ levels
  pub many : length (spots text rest) ≤ s.1.items
  pub light : weight_of (items text) ≤ s.1.weight

no-statements : (levels : ℕ) (s : Finished) (ws : List Symbol) → AreStatements levels s ws s ws
no-statements levels s ws = record { text = none; finds_are = joined-nothing s.0; words_are = refl; shallow = omega arith; many = omega arith; light = omega arith }

-- how much a finished statement took
record Took (room left_room : Room) (st : Statement) : Type 0 where
  items_are : left_room.items + count (items_of (statement_items st)) ≡ room.items
  weight_is : left_room.weight + weight_of (statement_items st) ≡ room.weight

took : (levels : ℕ) (room : Room) (ws : List Symbol) (x : Finished) (rest : List Symbol) (p : IsStatement levels room ws x rest) → Took room x.1 p.form.statement
took levels room ws x rest p =
    let spots_are : length x.0.spots ≡ length (statement_spots p.form.statement rest) = ap (λ f. length f.spots) p.form.finds_are in
    let heavy : weight_of x.0.items ≡ weight_of (statement_items p.form.statement) = ap (λ f. weight_of f.items) p.form.finds_are in
    let items_left : x.1.items ≡ room.items - length x.0.spots = ap (λ r. r.items) p.ends.room_is in
    let weight_left : x.1.weight ≡ room.weight - weight_of x.0.items = ap (λ r. r.weight) p.ends.room_is in
    let many : length x.0.spots ≤ room.items = fits-many room x.0 p.ends.small in
    let light : weight_of x.0.items ≤ room.weight = fits-light room x.0 p.ends.small in
    record { items_are = omega (arith, statement-counted p.form.statement rest); weight_is = omega arith }

more-statements : (levels : ℕ) (s : Finished) (ws : List Symbol) (x : Finished) (vs : List Symbol) (z : Finished) (us : List Symbol) → IsStatement levels s.1 ws x vs → AreStatements levels (joined s.0 x.0, x.1) vs z us → AreStatements levels s ws z us
more-statements levels s ws x vs z us p q =
    let st = p.form.statement in
    let found : x.0 ≡ statement_finds st (words q.text us) = p.form.finds_are ∙ ap (statement_finds st) q.words_are in
    let t = took levels s.1 ws x vs p in
    record {
      text = one st q.text;
      finds_are = q.finds_are ∙ ap (λ f. joined (joined s.0 f) (finds q.text us)) found ∙ joined-assoc s.0 (statement_finds st (words q.text us)) (finds q.text us);
      words_are = p.form.words_are ∙ ap (statement_words st) q.words_are;
      shallow = omega (arith, depth-append (statement_items st) (items q.text), p.form.shallow, q.shallow);
      many = omega (arith, length-append (statement_spots st (words q.text us)) (spots q.text us), statement-counted st (words q.text us), t.items_are, q.many);
      light = omega (arith, sum_by-append item_weight (statement_items st) (items q.text), t.weight_is, q.light);
    }

-- ---- A fault of size behind a statement.

abbrev behind_one : Statement → Opened → Opened
behind_one s (last before final) = last (one s before) final
behind_one s (inside before o k n body) = inside (one s before) o k n body

behind-words : (s : Statement) (t : Opened) (ws : List Symbol) → statement_words s (opened_words t ws) ≡ opened_words (behind_one s t) ws
behind-words s (last before final) ws = refl
behind-words s (inside before o k n body) ws = refl

behind-before : (s : Statement) (t : Opened) → before_last (behind_one s t) ≡ statement_items s ++ before_last t
behind-before s (last before final) = refl
behind-before s (inside before o k n body) = append_assoc (statement_items s) (items before) (before_last body)

behind-with : (s : Statement) (t : Opened) → with_last (behind_one s t) ≡ statement_items s ++ with_last t
behind-with s (last before final) = append_assoc (statement_items s) (items before) (statement_items final)
behind-with s (inside before o k n body) = append_assoc (statement_items s) (items before) (with_last body)

weight-append : (xs ys : List Item) → weight (items_of (xs ++ ys)) ≡ weight (items_of xs) + weight (items_of ys)
weight-append xs ys = omega (arith, weight-items_of (xs ++ ys), weight-items_of xs, weight-items_of ys, sum_by-append item_weight xs ys)

room-more : (room left_room : Room) (st : Statement) (xs : List Item) → Took room left_room st → HasRoom left_room xs → HasRoom room (statement_items st ++ xs)
room-more room left_room st xs t h = record {
  few = omega (arith, count-append (statement_items st) xs, t.items_are, h.few);
  light = omega (arith, weight-append (statement_items st) xs, weight-items_of (statement_items st), t.weight_is, h.light);
}

room-less : (room left_room : Room) (st : Statement) (xs : List Item) → Took room left_room st → HasRoom room (statement_items st ++ xs) → HasRoom left_room xs
room-less room left_room st xs t h = record {
  few = omega (arith, count-append (statement_items st) xs, t.items_are, h.few);
  light = omega (arith, weight-append (statement_items st) xs, weight-items_of (statement_items st), t.weight_is, h.light);
}

large-behind : (room left_room : Room) (st : Statement) (ws vs : List Symbol) → ws ≡ statement_words st vs → Took room left_room st → (left : ℕ) → IsTooLarge left_room vs left → IsTooLarge room ws left
large-behind room left_room st ws vs e t left h = record {
  opened = behind_one st h.opened;
  after = h.after;
  words_are = e ∙ ap (statement_words st) h.words_are ∙ behind-words st h.opened h.after;
  left_is = h.left_is;
  fitted = subst (HasRoom room) (sym (behind-before st h.opened)) (room-more room left_room st (before_last h.opened) t h.fitted);
  full = λ r. h.full (room-less room left_room st (with_last h.opened) t (subst (HasRoom room) (behind-with st h.opened) r));
}

pub one-follows : (levels : ℕ) (inner : Inner) → InnerReads levels inner → (s : Finished) (ws : List Symbol)
    → Outcome (λ x. (y : Finished) × IsStatement levels s.1 ws y x.1 × (x.0 ≡ (joined s.0 y.0, y.1))) (Stands levels s.1 ws) (following_one_at inner s ws)
unfolding following_one_at
one-follows levels inner h s ws = then (statement-reads levels inner h s.1 ws) (λ x p. gives _ (x.0, p, refl))

statement-turning : (levels : ℕ) (inner : Inner) → InnerReads levels inner → Turning (AreStatements levels) (λ s ws. Stands levels s.1 ws) (following_one_at inner)
statement-turning levels inner h = record {
  none = no-statements levels;
  one = λ s ws. but (one-follows levels inner h s ws)
      (λ x p. (
        (λ z q. more-statements levels s ws p.0 x.1 z.0 z.1 p.1 (subst (λ y. AreStatements levels y x.1 z.0 z.1) p.2 q)),
        (λ f q.
            let st = p.1.form.statement in
            along levels s.1 p.0.1 ws x.1 (passes-from p.1.form.words_are (statement-passes st x.1)) (large-behind s.1 p.0.1 st ws x.1 p.1.form.words_are (took levels s.1 ws p.0 x.1 p.1)) f
            (subst (λ y. Stands levels y.1 x.1 f) p.2 q)),
      ));
}

statements-read : (levels : ℕ) (inner : Inner) → InnerReads levels inner → (room : Room) (ws : List Symbol)
    → Outcome (λ x. (z : Finished) × AreStatements levels (nothing, room) ws z x.1 × (x.0 ≡ z.0)) (Stands levels room ws) (statements_at inner room ws)
unfolding statements_at
statements-read levels inner h room ws = then (repeated-holds goes_on (statement-turning levels inner h) (nothing, room) ws) (λ z p. gives _ (z.0, p, refl))

too-deep : (room : Room) (ws rest : List Symbol) → ws ≡ mark OpenBrace ∷ rest → InBody 0 room ws (TooDeep (length rest + 1))
too-deep room ws rest p = record { before = []; after = rest; parts = p; left_is = omega arith; opened = refl }

pub body-reads : (levels : ℕ) → InnerReads levels (body_at levels)
unfolding body_at
body-reads zero room ws = then (mildly-in_body passes-none (mark-reads OpenBrace ws)) (λ rest p. stops _ (too-deep room ws rest p))
body-reads (suc levels) room ws =
    then (mildly-in_body passes-none (mark-reads OpenBrace ws))
    (λ rest p. weaker
    (then (statements-read levels (body_at levels) (body-reads levels) room rest)
    (λ s q. then (mildly (passes-from q.1.words_are (words-pass q.1.text s.1)) (mark-reads CloseBrace s.1))
    (λ after e. gives (block s.0, after) (record {
      body = q.1.text;
      block_is = ap block (q.2 ∙ q.1.finds_are ∙ ap (finds q.1.text) e);
      words_are = p ∙ ap (λ us. mark OpenBrace ∷ us) (q.1.words_are ∙ ap (words q.1.text) e);
      shallow = omega (arith, q.1.shallow);
    }))))
    (λ x q. q)
    (deeper levels room ws rest p))

end-reads : (ws : List Symbol) → Outcome (λ x. ws ≡ []) (Mild ws) (end_at ws)
unfolding end_at
end-reads [] = gives _ refl
end-reads (w ∷ ws) = refuses (w ∷ ws)

-- at most so many levels, and room enough
pub record Held (levels : ℕ) (room : Room) (d : Items) : Type 0 where
  pub deep : depth d ≤ levels
  pub many : count d ≤ room.items
  pub heavy : weight d ≤ room.weight

pub record IsText (levels : ℕ) (room : Room) (ws : List Symbol) (d : Block) : Type 0 where
  pub spelled : Spells ws d.items d.spots
  pub held : Held levels room d.items

text-is : (levels : ℕ) (room : Room) (ws : List Symbol) (d : Finds) (t : Statements) → ws ≡ words t [] → d ≡ finds t [] → depth (items_of (items t)) ≤ levels → length (spots t []) ≤ room.items → weight_of (items t) ≤ room.weight → IsText levels room ws (block d)
text-is levels room ws d t e f deep many light = record {
  spelled = (t, e, ap (λ g. items_of g.items) f, ap (λ g. g.spots) f);
  held = record {
    deep = subst (λ g. depth (items_of g.items) ≤ levels) (sym f) deep;
    many = subst (λ g. count (items_of g.items) ≤ room.items) (sym f) (omega (arith, counted t []));
    heavy = subst (λ g. weight (items_of g.items) ≤ room.weight) (sym f) (omega (arith, weight-items_of (items t)));
  };
}

pub text-reads : (levels : ℕ) (room : Room) (ws : List Symbol) → Outcome (IsText levels room ws) (Stands levels room ws) (text_at levels room ws)
unfolding text_at
text-reads levels room ws =
    then (statements-read levels (body_at levels) (body-reads levels) room ws)
    (λ s p. then (mildly (passes-from p.1.words_are (words-pass p.1.text s.1)) (end-reads s.1))
    (λ done e. gives (block s.0) (text-is levels room ws s.0 p.1.text (p.1.words_are ∙ ap (words p.1.text) e) (p.2 ∙ p.1.finds_are ∙ ap (finds p.1.text) e) p.1.shallow
    (subst (λ us. length (spots p.1.text us) ≤ room.items) e p.1.many) p.1.light)))

pub record AreItems (levels : ℕ) (room : Room) (ws : List Symbol) (xs : List Item) : Type 0 where
  pub spelled : SpellsItems ws xs
  pub held : Held levels room (items_of xs)

items-are : (levels : ℕ) (room : Room) (ws : List Symbol) (x : Finished) (s : Statement) → ws ≡ statement_words s [] → x.0 ≡ statement_finds s [] → depth (items_of (statement_items s)) ≤ levels → Ends room x → AreItems levels room ws x.0.items
items-are levels room ws x s e f deep ends =
    let same : x.0.items ≡ statement_items s = ap (λ g. g.items) f in
    let far : length x.0.spots ≡ length (statement_spots s []) = ap (λ g. length g.spots) f in
    let heavy : weight_of x.0.items ≡ weight_of (statement_items s) = ap (λ g. weight_of g.items) f in
    let fit = fits-many room x.0 ends.small in
    let light = fits-light room x.0 ends.small in
    record {
      spelled = (s, e, same);
      held = record {
        deep = subst (λ ys. depth (items_of ys) ≤ levels) (sym same) deep;
        many = subst (λ ys. count (items_of ys) ≤ room.items) (sym same) (omega (arith, statement-counted s [], far, fit));
        heavy = subst (λ ys. weight (items_of ys) ≤ room.weight) (sym same) (omega (arith, weight-items_of (statement_items s), heavy, light));
      };
    }

pub items-read : (levels : ℕ) (room : Room) (ws : List Symbol) → Outcome (AreItems levels room ws) (Stands levels room ws) (items_at levels room ws)
unfolding items_at
items-read levels room ws =
    then (statement-reads levels (body_at levels) (body-reads levels) room ws)
    (λ s p. then (mildly (passes-from p.form.words_are (statement-passes p.form.statement s.1)) (end-reads s.1))
    (λ done e. gives s.0.0.items (items-are levels room ws s.0 p.form.statement (p.form.words_are ∙ ap (statement_words p.form.statement) e) (p.form.finds_are ∙ ap (statement_finds p.form.statement) e) p.form.shallow p.ends)))
