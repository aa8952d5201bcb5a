-- In the text that is put together item by item, what no edit touched or moved stands in the order of the source.
use Rattle.std.proofs.Common.{◌≡◌, ℕ, zero, suc, ◌+◌, ◌≤◌, Bool, true, false, cond, ◌&&◌, List, [], ◌∷◌, ◌++◌, take, drop, Option, Some, None, refl, ap, sym, ◌∙◌, arith, subst, append_assoc}
use Rattle.std.specs.List.{list_all}
use Rattle.std.specs.Prelude.{not}
use Rattle.std.specs.Str.{IsUtf8}
use Rattle.std.proofs.lemmas.Bool.{false≢true, and_parts}
use Rattle.std.proofs.lemmas.List.{append-nil}
use Rattle.rdl_tree.specs.Items.{Items}
use Rattle.rdl_tree.specs.View.{list_of}
use Rattle.rdl_tree.specs.declared.description.Item.{Item}
use Rattle.rdl_origin.specs.Once.{StandOnce}
use Rattle.rdl_origin.specs.Order.{number_unmoved, unmoved, IsBelow, AreBelow, AreInOrder}
use Rattle.rdl_origin.specs.Traces.{Traces}
use Rattle.rdl_origin.specs.Values.{item_with, AreValues}
use Rattle.rdl_origin.specs.View as origins
use Rattle.rdl_origin.specs.declared.origin.Origin.{Origin}
use Rattle.rdl_origin.proofs.Rounds as traces_rounds
use Rattle.rdl_origin.proofs.Values.{Ends, AreSo}
use Rattle.rdl_source.specs.Alone.{InBody, StandAlone}
use Rattle.rdl_source.specs.Beside.{ends_line, line}
use Rattle.rdl_source.specs.Laid.{Laid, ended, bare, braced}
use Rattle.rdl_source.specs.LaidText.{part}
use Rattle.rdl_source.specs.View as views
use Rattle.rdl_source.specs.View.{bare_of, last_of, statement_of}
use Rattle.rdl_source.specs.declared.span.Span.{Span}
use Rattle.rdl_source.specs.declared.statement.Inner.{Inner}
use Rattle.rdl_source.specs.declared.statement.Statement.{Statement}
use Rattle.rdl_write.specs.MapText.{deeper}
use Rattle.rdl_weave.specs.Coarse.{kept_at, inside_now, Piece, old, cut, text_of, loose, kept_or, walk, body_pieces, coarse, anew}
use Rattle.rdl_weave.specs.InTurn.{is_still, still_one, still, StandsBefore, InTurn, InTurnInside, KeepsOrder}
use Rattle.rdl_weave.specs.Keeping.{core}
use Rattle.rdl_weave.specs.Untouched.{is_now, is_untouched}
use Rattle.rdl_weave.proofs.Found.{Inside, once_drop, once_take, so_take, so_drop, so_lists, alone_list}
use Rattle.rdl_weave.proofs.Pieces.{text_both}
use Rattle.rdl_weave.proofs.Reading.{is_cut}
use Rattle.rdl_weave.proofs.Same.{At, at_inside, Skips, some_same}
use Rattle.rdl_weave.proofs.Visited.{Good, split, Meets, meets_all, good, Suffix, suffix_all, suffix_next, mark, Left, Right, changed_is_met, all_inside, body_there, inside_once, next_small}

-- ---- Spans that go out one behind another.

abbrev Follow : List Span → List Piece → Type 0
Follow [] ps = Unit {0}
Follow (s ∷ ss) ps = (front : List Piece) × (behind : List Piece) × (ps ≡ front ++ (old s ∷ behind)) × Follow ss behind

follow_right : (ss : List Span) (ps qs : List Piece) → Follow ss qs → Follow ss (ps ++ qs)
follow_right [] ps qs h = tt
follow_right (s ∷ ss) ps qs h = (ps ++ h.0, h.1, ap (λ rs. ps ++ rs) h.2 ∙ sym (append_assoc ps h.0 (old s ∷ h.1)), h.3)

follow_left : (ss : List Span) (ps qs : List Piece) → Follow ss ps → Follow ss (ps ++ qs)
follow_left [] ps qs h = tt
follow_left (s ∷ ss) ps qs h = (h.0, h.1 ++ qs, ap (λ rs. rs ++ qs) h.2 ∙ append_assoc h.0 (old s ∷ h.1) qs, follow_left ss h.1 qs h.3)

follow_cut : (source : List ℕ) (s : Span) (ss : List Span) (ps : List Piece) → IsUtf8 (part source s) → Follow ss ps → Follow (s ∷ ss) (cut source s ++ ps)
follow_cut source s ss ps u h = ([], ps, ap (λ rs. rs ++ ps) (is_cut source s u), h)

turn_behind : (source : List ℕ) (ss : List Span) (front text : List ℕ) → InTurn source ss text → InTurn source ss (front ++ text)
turn_behind source [] front text h = tt
turn_behind source (s ∷ ss) front text h = (
  h.0,
  record {
    core = h.1.core;
    trims = h.1.trims;
    there = record { before = front ++ h.1.there.before; parts = ap (λ t. front ++ t) h.1.there.parts ∙ sym (append_assoc front h.1.there.before (h.1.core ++ h.0)) };
  },
  h.2,
)

whole_span : (source text rest before : List ℕ) (s : Span) → text ≡ before ++ (part source s ++ rest) → StandsBefore source s text rest
whole_span source text rest before s e = record {
  core = part source s;
  trims = record { front = []; back = []; blank_front = tt; blank_back = tt; parts = sym (append-nil (part source s)) };
  there = record { before = before; parts = e };
}

-- so they stand in the text
in_turn : (source : List ℕ) (ss : List Span) (ps : List Piece) → Follow ss ps → InTurn source ss (text_of source ps)
in_turn source [] ps h = tt
in_turn source (s ∷ ss) ps h =
    let text : text_of source ps ≡ text_of source h.0 ++ (line (part source s) ++ text_of source h.1) = ap (text_of source) h.2 ∙ text_both source h.0 (old s ∷ h.1) in
    by (ends_line (part source s)) refl text (in_turn source ss h.1 h.3)
  where
    by : (b : Bool) → ends_line (part source s) ≡ b → text_of source ps ≡ text_of source h.0 ++ (cond b (part source s) (part source s ++ (10 ∷ [])) ++ text_of source h.1)
        → InTurn source ss (text_of source h.1) → (rest : List ℕ) × StandsBefore source s (text_of source ps) rest × InTurn source ss rest
    by true e f more = (text_of source h.1, whole_span source (text_of source ps) (text_of source h.1) (text_of source h.0) s f, more)
    by false e f more = (
      (10 ∷ []) ++ text_of source h.1,
      whole_span source (text_of source ps) ((10 ∷ []) ++ text_of source h.1) (text_of source h.0) s
          (f ∙ ap (λ t. text_of source h.0 ++ t) (append_assoc (part source s) (10 ∷ []) (text_of source h.1))),
      turn_behind source ss (10 ∷ []) (text_of source h.1) more,
    )

-- ---- Numbers from one on.

abbrev AllFrom : ℕ → List ℕ → Type 0
AllFrom low [] = Unit {0}
AllFrom low (n ∷ ns) = (low ≤ n) × AllFrom low ns

from_zero : (ns : List ℕ) → AllFrom 0 ns
from_zero [] = tt
from_zero (n ∷ ns) = (omega arith, from_zero ns)

from_below : (m : ℕ) (ns : List ℕ) → IsBelow m ns → AllFrom (m + 1) ns
from_below m [] h = tt
from_below m (n ∷ ns) h = (omega (arith, h.0), from_below m ns h.1)

from_rest : (low : ℕ) (ns ms : List ℕ) → AllFrom low (ns ++ ms) → AllFrom low ms
from_rest low [] ms h = h
from_rest low (n ∷ ns) ms h = from_rest low ns ms h.1

from_drop : (low k : ℕ) (os : List Origin) → AllFrom low (unmoved (origins.traces_of os)) → AllFrom low (unmoved (origins.traces_of (drop k os)))
from_drop low zero os h = h
from_drop low (suc k) [] h = h
from_drop low (suc k) (o ∷ os) h = from_drop low k os (from_rest low (number_unmoved o.now o.is_moved) (unmoved (origins.traces_of os)) h)

order_drop : (k : ℕ) (os : List Origin) → AreInOrder (origins.traces_of os) → AreInOrder (origins.traces_of (drop k os))
order_drop zero os h = h
order_drop (suc k) [] h = h
order_drop (suc k) (o ∷ os) h = order_drop k os h.2

-- the first of so many, if it has a number and wasn't moved, is before all others behind them
record First (low m k : ℕ) (os : List Origin) : Type 0 where
  low_is : low ≤ m
  behind : AllFrom (m + 1) (unmoved (origins.traces_of (drop k os)))

first_of : (low m k : ℕ) (os : List Origin) (o : Origin) (more : List Origin) → AllFrom low (unmoved (origins.traces_of os)) → AreInOrder (origins.traces_of os) → take k os ≡ o ∷ more → o.now ≡ Some m → o.is_moved ≡ false
    → First low m k os
first_of low m zero os o more h r e f g = cc
first_of low m (suc k) [] o more h r e f g = cc
first_of low m (suc k) (p ∷ os) o more h r e f g =
    let same : p ≡ o = heads p o (take k os) more e in
    at p.now p.is_moved (ap (λ (q : Origin). q.now) same ∙ f) (ap (λ (q : Origin). q.is_moved) same ∙ g) h r.0
  where
    heads : (a b : Origin) (xs ys : List Origin) → a ∷ xs ≡ b ∷ ys → a ≡ b
    heads a b xs ys e = cc

    at : (now : Option ℕ) (is_moved : Bool) → now ≡ Some m → is_moved ≡ false → AllFrom low (number_unmoved now is_moved ++ unmoved (origins.traces_of os)) → AreBelow (number_unmoved now is_moved) (unmoved (origins.traces_of os))
        → First low m (suc k) (p ∷ os)
    at None b f g h r = cc
    at (Some n) true f g h r = cc
    at (Some n) false f g h r =
        let is : n ≡ m = number n m f in
        let low_is : low ≤ m = omega (arith, is, h.0) in
        record { low_is = low_is; behind = from_drop (m + 1) k os (from_below m (unmoved (origins.traces_of os)) (subst (λ j. IsBelow j (unmoved (origins.traces_of os))) is r.0)) }
      where
        number : (a b : ℕ) → ◌≡◌ {A = Option ℕ} (Some a) (Some b) → a ≡ b
        number a b e = cc

-- ---- One body.

-- the walk goes on with all items that have a number from one on
record GoesOn (sizes : List ℕ) (from : ℕ) (last : Items) (ss0 : List Statement) (os0 : List Origin) (low skip n : ℕ) (d : Items) : Type 0 where
  ends : Ends from last n d
  at : At sizes n d
  there : (k : ℕ) (y : Item) → low ≤ k → item_with from k last ≡ Some y → item_with n k d ≡ Some y
  skips : (k : ℕ) → low ≤ k → Good sizes from last ss0 os0 k → Skips skip n k d

first_unmoved : (own : List Origin) (o : Origin) (more : List Origin) → own ≡ o ∷ more → list_all (λ o. not o.is_moved) own ≡ true → o.is_moved ≡ false
first_unmoved own o more e h = by o.is_moved (sym (ap (list_all (λ o. not o.is_moved)) e) ∙ h)
  where
    by : (b : Bool) → (not b && list_all (λ o. not o.is_moved) more) ≡ true → b ≡ false
    by true f = absurd (false≢true f)
    by false f = refl

-- Of one statement, and spans that follow wherever the walk goes on behind it: the statement goes out before these, if no edit touched or
-- moved it.
turn_one : (source sizes indent : List ℕ) (from : ℕ) (last : Items) (ss0 : List Statement) (os0 : List Origin) (s : Statement) (ss : List Statement) (os : List Origin) (xs : List Item) (spans : List Span) (low skip n : ℕ) (d : Items)
    → ((m : ℕ) → (Inside sizes m ss0 os0 → ⊥) → Good sizes from last ss0 os0 m) → IsUtf8 (part source (core (bare_of s))) → Suffix sizes ss0 os0 (s ∷ ss) os → StandOnce (origins.traces_of os) → AreSo from last (take s.items os) xs
    → AreInOrder (origins.traces_of os) → AllFrom low (unmoved (origins.traces_of os)) → GoesOn sizes from last ss0 os0 low skip n d
    → ((low' skip' n' : ℕ) (d' : Items) → AllFrom low' (unmoved (origins.traces_of (drop s.items os))) → GoesOn sizes from last ss0 os0 low' skip' n' d' → Follow spans (walk source sizes indent ss0 os0 skip' n' d'))
    → Follow (still_one sizes (bare_of s) (take s.items os) ++ spans) (walk source sizes indent ss0 os0 skip n d)
turn_one source sizes indent from last ss0 os0 s ss os xs spans low skip n d is_good u f once v order h g go = by (is_still sizes s.items (take s.items os)) refl
  where
    met : is_still sizes s.items (take s.items os) ≡ true → Follow (core (bare_of s) ∷ spans) (walk source sizes indent ss0 os0 skip n d)
    met e =
        let both = and_parts (is_untouched sizes s.items (take s.items os)) (list_all (λ o. not o.is_moved) (take s.items os)) e in
        let r = mark sizes from last ss0 os0 s ss os xs f once v both.0 in
        let m = r.first.number in
        let first = first_of low m s.items os r.first.origin r.first.more h order r.first.own_is r.first.now (first_unmoved (take s.items os) r.first.origin r.first.more r.first.own_is both.1) in
        let fine = is_good m r.alone in
        let p = split source sizes indent from last ss0 os0 m r.item skip n d g.ends g.at fine (g.there m r.item first.low_is r.there) (g.skips m first.low_is fine) in
        let going = walk source sizes indent ss0 os0 p.left p.number p.rest in
        let low_is = first.low_is in
        let on : GoesOn sizes from last ss0 os0 (m + 1) p.left p.number p.rest = record {
          ends = p.ends;
          at = p.at;
          there = λ k y more e. p.later k y (omega (arith, more)) (g.there k y (omega (arith, more, low_is)) e);
          skips = λ k more t. p.skips k (omega (arith, more)) t;
        } in
        let behind = follow_cut source (core (bare_of s)) spans going u (go (m + 1) p.left p.number p.rest first.behind on) in
        let this : Follow (core (bare_of s) ∷ spans) ((cut source s.float ++ cut source (core (bare_of s))) ++ going) =
        subst (Follow (core (bare_of s) ∷ spans)) (sym (append_assoc (cut source s.float) (cut source (core (bare_of s))) going))
        (follow_right (core (bare_of s) ∷ spans) (cut source s.float) (cut source (core (bare_of s)) ++ going) behind) in
        subst (Follow (core (bare_of s) ∷ spans)) (sym p.parts)
        (follow_right (core (bare_of s) ∷ spans) p.before (kept_or source (kept_at sizes m ss0 os0) (anew source sizes indent ss0 os0 m r.item) ++ going)
        (subst (λ k. Follow (core (bare_of s) ∷ spans) (kept_or source k (anew source sizes indent ss0 os0 m r.item) ++ going)) (sym r.found) this))

    by : (q : Bool) → is_still sizes s.items (take s.items os) ≡ q → Follow (cond q (core (bare_of s) ∷ []) [] ++ spans) (walk source sizes indent ss0 os0 skip n d)
    by true e = met e
    by false e = go low skip n d (from_drop low s.items os h) g

turn_list : (source sizes indent : List ℕ) (from : ℕ) (last : Items) (ss0 : List Statement) (os0 : List Origin) (l : Laid) (os : List Origin) (xs : List Item) (low skip n : ℕ) (d : Items)
    → ((m : ℕ) → (Inside sizes m ss0 os0 → ⊥) → Good sizes from last ss0 os0 m) → StandAlone source l xs → AreSo from last os xs → StandOnce (origins.traces_of os) → AreInOrder (origins.traces_of os)
    → Suffix sizes ss0 os0 (views.list_of l) os → AllFrom low (unmoved (origins.traces_of os)) → GoesOn sizes from last ss0 os0 low skip n d → Follow (still sizes l os) (walk source sizes indent ss0 os0 skip n d)
turn_list source sizes indent from last ss0 os0 (ended end) os xs low skip n d is_good a v once order f h g = tt
turn_list source sizes indent from last ss0 os0 (bare b rest) os xs low skip n d is_good a v once order f h g =
    let s = statement_of b None in
    turn_one source sizes indent from last ss0 os0 s (views.list_of rest) os (take b.items xs) (still sizes rest (drop b.items os)) low skip n d is_good a.0.is_text f once (so_take from last b.items os xs v) order h g
    (λ low' skip' n' d' h' g'. turn_list source sizes indent from last ss0 os0 rest (drop b.items os) (drop b.items xs) low' skip' n' d' is_good a.1 (so_drop from last b.items os xs v) (once_drop b.items os once)
    (order_drop b.items os order) (suffix_next sizes ss0 os0 s (views.list_of rest) os once f) h' g')
turn_list source sizes indent from last ss0 os0 (braced b br body rest) os xs low skip n d is_good a v once order f h g =
    let i : Inner = record { «open» = br.begin; close = br.close; body = body } in
    let s = statement_of b (Some i) in
    turn_one source sizes indent from last ss0 os0 s (views.list_of rest) os (take b.items xs) (still sizes rest (drop b.items os)) low skip n d is_good a.0.is_text f once (so_take from last b.items os xs v) order h g
    (λ low' skip' n' d' h' g'. turn_list source sizes indent from last ss0 os0 rest (drop b.items os) (drop b.items xs) low' skip' n' d' is_good a.2 (so_drop from last b.items os xs v) (once_drop b.items os once)
    (order_drop b.items os order) (suffix_next sizes ss0 os0 s (views.list_of rest) os once f) h' g')

-- ---- And inside it.

-- what goes out one behind another in these pieces stands so in the text
abbrev Says : (source text : List ℕ) → List Piece → Type 0
Says source text ps = (ss : List Span) → Follow ss ps → InTurn source ss text

says_left : (source text : List ℕ) → Left (Says source text)
says_left source text = λ ps qs h ss f. h ss (follow_left ss ps qs f)

says_right : (source text : List ℕ) → Right (Says source text)
says_right source text = λ ps qs h ss f. h ss (follow_right ss ps qs f)

-- the pieces of the walk, of all of a body
going_says : (source sizes indent text : List ℕ) (l : Laid) (t : Traces) (from : ℕ) (last : Items) → Says source text (body_pieces source sizes indent l t from last)
    → Says source text (walk source sizes indent (views.list_of l) (origins.list_of t) 0 from last)
going_says source sizes indent text l t from last h =
    let going = walk source sizes indent (views.list_of l) (origins.list_of t) 0 from last in
    says_left source text going (cut source (last_of l)) (says_right source text (loose source sizes (views.list_of l) (origins.list_of t)) (going ++ cut source (last_of l)) h)

turn_body : (source sizes indent text : List ℕ) (from : ℕ) (last : Items) (l : Laid) (t : Traces) (xs : List Item) → At sizes from last → StandAlone source l xs → AreSo from last (origins.list_of t) xs
    → StandOnce (origins.traces_of (origins.list_of t)) → AreInOrder (origins.traces_of (origins.list_of t)) → Says source text (body_pieces source sizes indent l t from last) → InTurn source (still sizes l (origins.list_of t)) text
turn_body source sizes indent text from last l t xs z a v once order h =
    let ss = views.list_of l in
    let os = origins.list_of t in
    let is_good : (m : ℕ) → (Inside sizes m ss os → ⊥) → Good sizes from last ss os m = λ m none. good source sizes from last ss os xs m (alone_list source l xs a) v none in
    let begin : GoesOn sizes from last ss os 0 0 from last = record { ends = λ j low. refl; at = z; there = λ k y low e. e; skips = λ k low e. tt } in
    going_says source sizes indent text l t from last h (still sizes l os)
    (turn_list source sizes indent from last ss os l os xs 0 0 from last is_good a v once order (suffix_all sizes ss os) (from_zero (unmoved (origins.traces_of os))) begin)

inside_order : (k m : ℕ) (o : Origin) (os : List Origin) → AreInOrder (origins.traces_of os) → inside_now m (take k os) ≡ Some o.inside → AreInOrder o.inside
inside_order zero m o os r e = cc
inside_order (suc k) m o [] r e = cc
inside_order (suc k) m o (p ∷ os) r e = by (is_now m p.now) e (inside_order k m o os r.2)
  where
    by : (q : Bool) → cond q (Some p.inside) (inside_now m (take k os)) ≡ Some o.inside → (inside_now m (take k os) ≡ Some o.inside → AreInOrder o.inside) → AreInOrder o.inside
    by true f g = subst AreInOrder (some_same p.inside o.inside f) r.1
    by false f g = g f

inside_list : (source sizes indent text : List ℕ) (from : ℕ) (last : Items) (ss0 : List Statement) (os0 : List Origin) (l : Laid) (os : List Origin) (xs : List Item) → Meets source sizes indent (Says source text) from last ss0 os0
    → At sizes from last → StandAlone source l xs → AreSo from last os xs → StandOnce (origins.traces_of os) → AreInOrder (origins.traces_of os) → Suffix sizes ss0 os0 (views.list_of l) os → InTurnInside source sizes text l os
inside_list source sizes indent text from last ss0 os0 (ended end) os xs meets z a v once order f = tt
inside_list source sizes indent text from last ss0 os0 (bare b rest) os xs meets z a v once order f =
    inside_list source sizes indent text from last ss0 os0 rest (drop b.items os) (drop b.items xs) meets z a.1 (so_drop from last b.items os xs v) (once_drop b.items os once) (order_drop b.items os order)
    (suffix_next sizes ss0 os0 (statement_of b None) (views.list_of rest) os once f)
inside_list source sizes indent text from last ss0 os0 (braced b br body rest) os xs meets z a v once order f =
    let i : Inner = record { «open» = br.begin; close = br.close; body = body } in (
      λ u. all_inside (λ o. InTurn source (still sizes body (origins.list_of o.inside)) text × InTurnInside source sizes text body (origins.list_of o.inside)) (λ y. StandAlone source body (list_of y))
          from last (take b.items os) (take b.items os) (take b.items xs) (so_take from last b.items os xs v) a.1 (once_take b.items os once) (λ m k. (refl, k))
          (λ o x m w c e n j k.
          let there = body_there from last o x m w e n in
          let small = at_inside sizes from m last there.head there.body z there.there in
          let alone : StandAlone source body (list_of there.items) = subst (InBody (λ y. StandAlone source body (list_of y))) there.own c in
          let so = so_lists (m + 1) there.body o.inside there.items there.values in
          let once' = subst StandOnce (sym (traces_rounds.traces_of-list_of o.inside)) (inside_once m o (take b.items os) (once_take b.items os once) j) in
          let order' = subst AreInOrder (sym (traces_rounds.traces_of-list_of o.inside)) (inside_order b.items m o os order j) in
          let says : Says source text (body_pieces source sizes (deeper indent) body o.inside (m + 1) there.body) =
          subst (λ n. Says source text (body_pieces source sizes (deeper indent) body o.inside n there.body)) (next_small m small)
          (changed_is_met source sizes indent (Says source text) (says_left source text) (says_right source text) from last ss0 os0 b i (views.list_of rest) os o m there.head there.body meets f once u k j there.there) in
          let meets' = meets_all source sizes (deeper indent) (Says source text) (says_left source text) (says_right source text) (m + 1) there.body body (origins.list_of o.inside) (list_of there.items) small alone so
          (going_says source sizes (deeper indent) text body o.inside (m + 1) there.body says) in (
            turn_body source sizes (deeper indent) text (m + 1) there.body body o.inside (list_of there.items) small alone so once' order' says,
            inside_list source sizes (deeper indent) text (m + 1) there.body (views.list_of body) (origins.list_of o.inside) body (origins.list_of o.inside) (list_of there.items) meets' small alone so once' order'
                (suffix_all sizes (views.list_of body) (origins.list_of o.inside)),
          )),
      inside_list source sizes indent text from last ss0 os0 rest (drop b.items os) (drop b.items xs) meets z a.2 (so_drop from last b.items os xs v) (once_drop b.items os once) (order_drop b.items os order)
          (suffix_next sizes ss0 os0 (statement_of b (Some i)) (views.list_of rest) os once f),
    )

pub keeps_order : (source sizes : List ℕ) (l : Laid) (t : Traces) (xs last : Items) → At sizes 0 last → StandAlone source l (list_of xs) → AreValues 0 last t xs → StandOnce t → AreInOrder t
    → KeepsOrder source sizes (text_of source (coarse source sizes l t last)) l (origins.list_of t)
keeps_order source sizes l t xs last z a v once order =
    let text = text_of source (coarse source sizes l t last) in
    let so = so_lists 0 last t xs v in
    let once' = subst StandOnce (sym (traces_rounds.traces_of-list_of t)) once in
    let order' = subst AreInOrder (sym (traces_rounds.traces_of-list_of t)) order in
    let says : Says source text (coarse source sizes l t last) = λ ss f. in_turn source ss (coarse source sizes l t last) f in
    let meets = meets_all source sizes [] (Says source text) (says_left source text) (says_right source text) 0 last l (origins.list_of t) (list_of xs) z a so (going_says source sizes [] text l t 0 last says) in (
      turn_body source sizes [] text 0 last l t (list_of xs) z a so once' order' says,
      inside_list source sizes [] text 0 last (views.list_of l) (origins.list_of t) l (origins.list_of t) (list_of xs) meets z a so once' order' (suffix_all sizes (views.list_of l) (origins.list_of t)),
    )
