-- What each form found, as reading keeps it: its items and their spots.
use Rattle.std.proofs.Common.{◌≡◌, ℕ, suc, ◌+◌, ◌≤◌, Bool, true, false, List, [], ◌∷◌, ◌++◌, length, map, refl, sym, arith, append_assoc}
use Rattle.std.specs.Prelude.{◌&&◌, nat_le}
use Rattle.std.proofs.lemmas.Bool.{leb-true, le-leb}
use Rattle.std.proofs.lemmas.List.{append-nil, length-append}
use Rattle.std.proofs.lemmas.List.Sums.{sum_by-append}
use Rattle.rdl_tree.specs.Items.{Items, count}
use Rattle.rdl_tree.specs.View.{items_of}
use Rattle.rdl_tree.specs.Depth.{depth}
use Rattle.rdl_tree.proofs.Sizes.{item_count, count-items_of}
use Rattle.rdl_tree.specs.declared.shell.Kind.{Kind}
use Rattle.rdl_tree.specs.declared.shell.Outside.{Outside}
use Rattle.rdl_tree.specs.declared.description.Item.{Item}
use Rattle.rdl_tree.specs.declared.description.Of.{Of}
use Rattle.rdl_tree.specs.declared.description.Of.TheVariants.{Named, Anonymous}
use Rattle.rdl_text.specs.declared.token.Mark.TheVariants.{Semicolon, CloseBrace}
use Rattle.rdl_parse.specs.declared.found.Spot.{Spot}
use Rattle.rdl_parse.specs.declared.room.Room.{Room}
use Rattle.rdl_parse.specs.Finds.{Finds, nothing, single, joined, weight_of, fits}
use Rattle.rdl_parse.specs.Symbol.{Symbol, mark}
use Rattle.rdl_parse.specs.Spelling.{Inst, Statement, define, define_with, anonymous, named, own, default, dynamic, Statements, none, one, inst_words, insts_words, outside_words, at_late, words, instance, instances, component, statement_items, items, out_of, said, others_spots, insts_spots, statement_spots, spots}

abbrev pub one_finds : Outside → Of → List Spot → Inst → List Symbol → Finds
one_finds o of inner i after = single (instance o of i) (length (inst_words i after)) inner

abbrev pub others_finds : Outside → Of → List Spot → List Inst → List Symbol → Finds
others_finds o of inner is after = record { items = map (instance o of) is; spots = others_spots inner is after }

abbrev pub insts_finds : Outside → Of → List Spot → Inst → List Inst → List Symbol → Finds
insts_finds o of inner i is after = record { items = instances o of i is; spots = insts_spots inner i is after }

abbrev pub statement_finds : Statement → List Symbol → Finds
statement_finds st after = record { items = statement_items st; spots = statement_spots st after }

abbrev pub finds : Statements → List Symbol → Finds
finds t after = record { items = items t; spots = spots t after }

pub joined-nothing : (a : Finds) → a ≡ joined a nothing
joined-nothing a = sym (λ i. record { items = append-nil a.items i; spots = append-nil a.spots i })

pub joined-assoc : (a b c : Finds) → joined (joined a b) c ≡ joined a (joined b c)
joined-assoc a b c = λ i. record { items = append_assoc a.items b.items c.items i; spots = append_assoc a.spots b.spots c.spots i }

-- ---- How deep.

pub depth-named : (o : Outside) (n : List ℕ) (is : List Inst) → depth (items_of (map (instance o (Named n)) is)) ≡ 0
depth-named o n [] = refl
depth-named o n (i ∷ is) = depth-named o n is

pub depth-anonymous : (o : Outside) (k : Kind) (b : Items) (is : List Inst) (levels : ℕ) → suc (depth b) ≤ levels → depth (items_of (map (instance o (Anonymous (component k b))) is)) ≤ levels
depth-anonymous o k b [] levels h = omega arith
depth-anonymous o k b (i ∷ is) levels h = omega (arith, depth-anonymous o k b is levels h)

-- ---- How much room.

fits-parts : (a b : Bool) → (a && b) ≡ true → (a ≡ true) × (b ≡ true)
fits-parts true true e = (refl, refl)
fits-parts true false e = absurd cc
fits-parts false b e = absurd cc

pub fits-many : (room : Room) (f : Finds) → fits room f ≡ true → length f.spots ≤ room.items
fits-many room f e = leb-true _ _ (fits-parts (nat_le (length f.spots) room.items) (nat_le (weight_of f.items) room.weight) e).0

pub fits-light : (room : Room) (f : Finds) → fits room f ≡ true → weight_of f.items ≤ room.weight
fits-light room f e = leb-true _ _ (fits-parts (nat_le (length f.spots) room.items) (nat_le (weight_of f.items) room.weight) e).1

both : (a b : Bool) → a ≡ true → b ≡ true → (a && b) ≡ true
both true true e f = refl
both true false e f = f
both false b e f = e

pub fits-both : (room : Room) (f : Finds) → length f.spots ≤ room.items → weight_of f.items ≤ room.weight → fits room f ≡ true
fits-both room f h k = both (nat_le (length f.spots) room.items) (nat_le (weight_of f.items) room.weight) (le-leb _ _ h) (le-leb _ _ k)

-- ---- Each item has a spot.

pub count-append : (xs ys : List Item) → count (items_of (xs ++ ys)) ≡ count (items_of xs) + count (items_of ys)
count-append xs ys = omega (arith, count-items_of (xs ++ ys), count-items_of xs, count-items_of ys, sum_by-append item_count xs ys)

others-counted : (o : Outside) (of : Of) (inner : List Spot) (is : List Inst) (ws : List Symbol) → ((i : Inst) → item_count (instance o of i) ≡ suc (length inner)) → length (others_spots inner is ws) ≡ count (items_of (map (instance o of) is))
others-counted o of inner [] ws h = refl
others-counted o of inner (i ∷ is) ws h =
    let e = length-append inner (others_spots inner is ws) in
    let f = others-counted o of inner is ws h in
    omega (arith, e, f, h i, count-append (instance o of i ∷ []) (map (instance o of) is))

insts-counted : (o : Outside) (of : Of) (inner : List Spot) (i : Inst) (is : List Inst) (ws : List Symbol) → ((i : Inst) → item_count (instance o of i) ≡ suc (length inner)) → length (insts_spots inner i is ws) ≡ count (items_of (instances o of i is))
insts-counted o of inner i is ws h = others-counted o of inner (i ∷ is) (mark Semicolon ∷ ws) h

mutual
  pub statement-counted : (st : Statement) (ws : List Symbol) → length (statement_spots st ws) ≡ count (items_of (statement_items st))
  statement-counted (define k n body) ws = omega (arith, counted body (mark CloseBrace ∷ mark Semicolon ∷ ws))
  statement-counted (define_with o k n body i is) ws =
      let vs = mark CloseBrace ∷ outside_words (at_late o) (insts_words i is ws) in
      omega (arith, counted body vs, length-append (spots body vs) (insts_spots [] i is ws), insts-counted (out_of o) (Named n) [] i is ws (λ j. refl))
  statement-counted (anonymous o k body i is) ws =
      let vs = mark CloseBrace ∷ outside_words (at_late o) (insts_words i is ws) in
      insts-counted (out_of o) (Anonymous (component k (items_of (items body)))) (spots body vs) i is ws (λ j. omega (arith, counted body vs))
  statement-counted (named o n i is) ws = insts-counted (said o) (Named n) [] i is ws (λ j. refl)
  statement-counted (own p v) ws = refl
  statement-counted (default p v) ws = refl
  statement-counted (dynamic n ns p v) ws = refl

  pub counted : (t : Statements) (ws : List Symbol) → length (spots t ws) ≡ count (items_of (items t))
  counted none ws = refl
  counted (one s ss) ws = omega (arith, length-append (statement_spots s (words ss ws)) (spots ss ws), statement-counted s (words ss ws), counted ss ws, count-append (statement_items s) (items ss))
