-- How alerts that are raised one after another add up.
use Rattle.std.proofs.Common.{◌≡◌, ℕ, zero, suc, ◌+◌, ◌==◌, false, get_or, map, add-one, List, [], ◌∷◌, ◌++◌, length, take, drop, replicate, Some, None, refl, sym, ap, ◌∙◌, arith, bit_or}
use Rattle.std.specs.Prelude.{slice_get}
use Rattle.std.proofs.lemmas.Nat.Bits.{bit_at-zero, bit_at_or, same_from_bits}
use Rattle.rdl_tree.specs.declared.description.Item.{Item}
use Rattle.rdl_marks.specs.View.{Trace, new_item, run, marked, piece_traces, pieces_traces, gone_trace, gone_item, told, marks_of}
use Rattle.rdl_marks.specs.declared.marks.Mark.{Mark}
use Rattle.rdl_marks.specs.declared.marks.Piece.{Piece}
use Rattle.rdl_marks.specs.declared.marks.Gone.{Gone}
use Rattle.rdl_marks.proofs.Rounds.{list_of-traces_of}
use Rattle.rdl_tree.specs.Items.{Items}
use Rattle.rdl_tree.specs.View as tree
use Rattle.rdl_tree.proofs.Rounds as tree_rounds
use Rattle.rdl_seen.specs.declared.alert.Alert.{Alert}
use Rattle.rdl_seen.specs.Alert.{no_alert, with_alert}
use Rattle.rdl_renew.specs.Raised.{told_of, item_raises, gone_raises, all_raise, new_raise, raised}

or_or : (a b c : ℕ) → bit_or a (bit_or b c) ≡ bit_or (bit_or a b) c
or_or a b c =
    same_from_bits (bit_or a (bit_or b c)) (bit_or (bit_or a b) c)
    (λ i. let p = bit_at_or a (bit_or b c) i in let q = bit_at_or b c i in let r = bit_at_or (bit_or a b) c i in let s = bit_at_or a b i in omega (arith, p, q, r, s))

none_or : (a : ℕ) → bit_or 0 a ≡ a
none_or a = same_from_bits (bit_or 0 a) a (λ i. let p = bit_at_or 0 a i in let q = bit_at-zero i in omega (arith, p, q))

or_none : (a : ℕ) → bit_or a 0 ≡ a
or_none a = same_from_bits (bit_or a 0) a (λ i. let p = bit_at_or a 0 i in let q = bit_at-zero i in omega (arith, p, q))

pub with_both : (x y z : Alert) → with_alert x (with_alert y z) ≡ with_alert (with_alert x y) z
with_both x y z = λ i. record {
  properties = record { bits = or_or x.properties.bits y.properties.bits z.properties.bits i };
  types = record { bits = or_or x.types.bits y.types.bits z.types.bits i };
  inside = record { bits = or_or x.inside.bits y.inside.bits z.inside.bits i };
}

pub none_with : (x : Alert) → with_alert no_alert x ≡ x
none_with x = λ i. record {
  properties = record { bits = none_or x.properties.bits i };
  types = record { bits = none_or x.types.bits i };
  inside = record { bits = none_or x.inside.bits i };
}

pub with_none : (x : Alert) → with_alert x no_alert ≡ x
with_none x = λ i. record {
  properties = record { bits = or_none x.properties.bits i };
  types = record { bits = or_none x.types.bits i };
  inside = record { bits = or_none x.inside.bits i };
}

-- items that are as they were raise nothing
pub run_is_silent : (n k : ℕ) (xs : List Item) → all_raise item_raises (run k n) xs ≡ no_alert
run_is_silent zero k xs = refl
run_is_silent (suc n) k [] = refl
run_is_silent (suc n) k (x ∷ xs) = none_with (all_raise item_raises (run (k + 1) n) xs) ∙ run_is_silent n (k + 1) xs

pub new_ones : (n : ℕ) (xs : List Item) → all_raise item_raises (replicate n new_item) xs ≡ new_raise (take n xs)
new_ones zero [] = refl
new_ones zero (x ∷ xs) = refl
new_ones (suc n) [] = refl
new_ones (suc n) (x ∷ xs) = ap (with_alert (told_of x)) (new_ones n xs)

pub raise_more : (f : Trace → Item → Alert) (es ds : List Trace) (xs : List Item) → all_raise f (es ++ ds) xs ≡ with_alert (all_raise f es xs) (all_raise f ds (drop (length es) xs))
raise_more f [] ds xs = sym (none_with (all_raise f ds xs))
raise_more f (e ∷ es) [] [] = refl
raise_more f (e ∷ es) (d ∷ ds) [] = refl
raise_more f (e ∷ es) ds (x ∷ xs) =
    ap (with_alert (f e x)) (raise_more f es ds xs) ∙ with_both (f e x) (all_raise f es xs) (all_raise f ds (drop (length es) xs))

-- ---- Pieces.

pub marked_one : (xs : List Item) (n : ℕ) (m : Mark) (y : Item) (a : Alert) → (length xs == 0) ≡ false → y ≡ get_or xs 0 y → a ≡ item_raises (marked n m) y → a ≡ all_raise item_raises (marked n m ∷ []) xs
marked_one [] n m y a some e is = absurd cc
marked_one (x ∷ xs) n m y a some e is = is ∙ (ap (item_raises (marked n m)) e ∙ sym (with_none (item_raises (marked n m) x)))

pub drop_here : {X : Type 0} (xs : List X) (i : ℕ) (x : X) → slice_get xs i ≡ Some x → drop i xs ≡ x ∷ drop (suc i) xs
drop_here [] i x e = absurd cc
drop_here (y ∷ ys) zero x e = cc
drop_here (y ∷ ys) (suc i) x e = drop_here ys i x e

pub past_all : {X : Type 0} (xs : List X) (i : ℕ) → slice_get xs i ≡ None → drop i xs ≡ []
past_all [] zero e = refl
past_all [] (suc i) e = refl
past_all (y ∷ ys) zero e = absurd cc
past_all (y ∷ ys) (suc i) e = past_all ys i e

-- one more piece
pub one_piece : (ps : List Piece) (i : ℕ) (p : Piece) (rest : List Item) (a all : Alert) → slice_get ps i ≡ Some p
    → with_alert a (all_raise item_raises (pieces_traces (drop i ps)) rest) ≡ all
    → with_alert (with_alert a (all_raise item_raises (piece_traces p) rest)) (all_raise item_raises (pieces_traces (drop (i + 1) ps)) (drop (length (piece_traces p)) rest)) ≡ all
one_piece ps i p rest a all e h =
    let here : drop i ps ≡ p ∷ drop (i + 1) ps = drop_here ps i p e ∙ ap (λ k. p ∷ drop k ps) (sym (add-one i)) in
    sym (with_both a (all_raise item_raises (piece_traces p) rest) (all_raise item_raises (pieces_traces (drop (i + 1) ps)) (drop (length (piece_traces p)) rest)))
    ∙ (ap (with_alert a) (sym (raise_more item_raises (piece_traces p) (pieces_traces (drop (i + 1) ps)) rest))
    ∙ (ap (λ (q : List Piece). with_alert a (all_raise item_raises (pieces_traces q) rest)) (sym here) ∙ h))

pub pieces_done : (ps : List Piece) (i : ℕ) (rest : List Item) (a all : Alert) → slice_get ps i ≡ None → with_alert a (all_raise item_raises (pieces_traces (drop i ps)) rest) ≡ all → a ≡ all
pieces_done ps i rest a all e h = sym (with_none a) ∙ (ap (λ (q : List Piece). with_alert a (all_raise item_raises (pieces_traces q) rest)) (sym (past_all ps i e)) ∙ h)

pub raised_of : (ps : List Piece) (behind : ℕ) (gone : List Gone) (now : Items) →
    raised (marks_of (told ps behind gone)) now ≡ with_alert (all_raise item_raises (pieces_traces ps) (tree.list_of now)) (all_raise gone_raises (map gone_trace gone) (map gone_item gone))
raised_of ps behind gone now =
    λ i. with_alert (all_raise item_raises (list_of-traces_of (pieces_traces ps) i) (tree.list_of now))
    (all_raise gone_raises (list_of-traces_of (map gone_trace gone) i) (tree_rounds.list_of-items_of (map gone_item gone) i))
