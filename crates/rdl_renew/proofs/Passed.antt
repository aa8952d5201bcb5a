-- Which item is the next one, where some of those that pieces tell of are passed.
use Rattle.std.proofs.Common.{◌≡◌, ℕ, zero, suc, ◌+◌, ◌-◌, ◌<◌, ◌≤◌, ◌^◌, min, Bool, if◌then◌else◌, List, [], ◌∷◌, ◌++◌, length, take, drop, Option, Some, None, refl, sym, ap, subst, ◌∙◌, arith, length-append, take_all}
use Rattle.std.specs.Prelude.{nat_lt, slice_get}
use Rattle.std.proofs.lemmas.Bool.{lt-ltb, le-ltb}
use Rattle.std.proofs.lemmas.Option.{slice_get_within, slice_get_past}
use Rattle.rdl_marks.specs.Marks.{no_marks}
use Rattle.rdl_marks.specs.View.{Trace, same_item, run, piece_traces, pieces_traces, told, marks_of}
use Rattle.rdl_marks.specs.Was.{trace_of}
use Rattle.rdl_marks.specs.declared.marks.Gone.{Gone}
use Rattle.rdl_marks.specs.declared.marks.Piece.{Piece}
use Rattle.rdl_marks.specs.declared.marks.Piece.TheVariants.{Kept}
use Rattle.rdl_marks.proofs.Cuts.{length-run, at_piece, pieces_traces-append}
use Rattle.rdl_marks.proofs.Rounds.{list_of-traces_of}
use Rattle.rdl_renew.specs.declared.along.Along.{Along}
use Rattle.rdl_renew.specs.Along.{AreSame, HasPassed, HasNumber, AreUntouched}
use Rattle.rdl_renew.proofs.SideBySide.{take_next}

-- ---- Lists.

get_after : {X : Type 0} (xs ys : List X) (n : ℕ) → slice_get (xs ++ ys) (length xs + n) ≡ slice_get ys n
get_after [] ys n = ap (slice_get ys) (let e : 0 + n ≡ n = omega arith in e)
get_after (x ∷ xs) ys n = ap (slice_get (x ∷ xs ++ ys)) (let e : length (x ∷ xs) + n ≡ suc (length xs + n) = omega arith in e) ∙ get_after xs ys n

get_before : {X : Type 0} (xs ys : List X) (n : ℕ) (x : X) → slice_get xs n ≡ Some x → slice_get (xs ++ ys) n ≡ Some x
get_before [] ys n x e = absurd cc
get_before (y ∷ xs) ys zero x e = e
get_before (y ∷ xs) ys (suc n) x e = get_before xs ys n x e

none_there : {X : Type 0} (xs : List X) (n : ℕ) → slice_get xs n ≡ None → length xs ≤ n
none_there [] n e = omega arith
none_there (x ∷ xs) zero e = absurd cc
none_there (x ∷ xs) (suc n) e = let l = none_there xs n e in omega (arith, l)

run_item : (from count n : ℕ) → n < count → slice_get (run from count) n ≡ Some (same_item (from + n))
run_item from zero n l = absurd (omega (arith, l))
run_item from (suc count) zero l = ap (λ k. Some (same_item k)) (let e : from ≡ from + 0 = omega arith in e)
run_item from (suc count) (suc n) l = run_item (from + 1) count n (omega (arith, l)) ∙ ap (λ k. Some (same_item k)) (let e : from + 1 + n ≡ from + suc n = omega arith in e)

pub kept_item : (p : Piece) (from to n count : ℕ) → p ≡ Kept from to → count ≡ to - from → n < count → slice_get (piece_traces p) n ≡ Some (same_item (from + n))
kept_item p from to n count e f l = ap (λ (q : Piece). slice_get (piece_traces q) n) e ∙ run_item from (to - from) n (omega (arith, l, f))

pub kept_none : (p : Piece) (from to n count : ℕ) → p ≡ Kept from to → count ≡ to - from → count ≤ n → slice_get (piece_traces p) n ≡ None
kept_none p from to n count e f l =
    ap (λ (q : Piece). slice_get (piece_traces q) n) e ∙ slice_get_past (run from (to - from)) n (let k = length-run from (to - from) in omega (arith, l, f, k))

pub none_past : (ps : List Piece) (k : ℕ) → slice_get ps k ≡ None → length ps ≤ k
none_past [] k e = omega arith
none_past (p ∷ ps) zero e = absurd cc
none_past (p ∷ ps) (suc k) e = omega (arith, none_past ps k e)

-- ---- What is told of an item by pieces.

abbrev trace_in : ℕ → ℕ → List Trace → Option Trace
trace_in behind i es = if nat_lt i (length es) then slice_get es i else Some (same_item (behind + (i - length es)))

told_within : (ps : List Piece) (behind : ℕ) (gone : List Gone) (i : ℕ) (e : Trace) → slice_get (pieces_traces ps) i ≡ Some e → trace_of (marks_of (told ps behind gone)) i ≡ Some e
told_within ps behind gone i e h =
    let es = pieces_traces ps in
    ap (trace_in behind i) (list_of-traces_of es)
    ∙ (ap (λ (b : Bool). if b then slice_get es i else Some (same_item (behind + (i - length es)))) (lt-ltb i (length es) (slice_get_within es i e h)) ∙ h)

told_behind : (ps : List Piece) (behind : ℕ) (gone : List Gone) (i : ℕ) → length (pieces_traces ps) ≤ i
    → trace_of (marks_of (told ps behind gone)) i ≡ Some (same_item (behind + (i - length (pieces_traces ps))))
told_behind ps behind gone i l =
    let es = pieces_traces ps in
    ap (trace_in behind i) (list_of-traces_of es)
    ∙ ap (λ (b : Bool). if b then slice_get es i else Some (same_item (behind + (i - length es)))) (le-ltb i (length es) l)

-- ---- What is told of the next one.

-- the next item of a piece
pub next_within : (ps : List Piece) (behind : ℕ) (gone : List Gone) (a : Along) (i : ℕ) (p : Piece) (e : Trace) → HasPassed ps behind a i → slice_get ps a.pieces ≡ Some p
    → slice_get (piece_traces p) a.items ≡ Some e → trace_of (marks_of (told ps behind gone)) i ≡ Some e
next_within ps behind gone a i p e passed here got =
    let before = pieces_traces (take a.pieces ps) in
    let rest = piece_traces p ++ pieces_traces (drop (suc a.pieces) ps) in
    told_within ps behind gone i e
    (ap (slice_get (pieces_traces ps)) (sym passed.count)
    ∙ (ap (λ es. slice_get es (length before + a.items)) (at_piece ps a.pieces p here)
    ∙ (get_after before rest a.items ∙ get_before (piece_traces p) (pieces_traces (drop (suc a.pieces) ps)) a.items e got)))

-- and the next one behind all pieces
pub next_behind : (ps : List Piece) (behind : ℕ) (gone : List Gone) (a : Along) (i : ℕ) → HasPassed ps behind a i → length ps ≤ a.pieces → trace_of (marks_of (told ps behind gone)) i ≡ Some (same_item (behind + a.items))
next_behind ps behind gone a i passed l =
    let all : length (pieces_traces ps) + a.items ≡ i = ap (λ qs. length (pieces_traces qs) + a.items) (sym (take_all a.pieces ps l)) ∙ passed.count in
    told_behind ps behind gone i (omega (arith, all))
    ∙ ap (λ n. Some (same_item n)) (let e : behind + (i - length (pieces_traces ps)) ≡ behind + a.items = omega (arith, all) in e)

-- ---- On.

-- what is said of the next piece holds as long as no piece is passed
still_same : (ps : List Piece) (behind : ℕ) (a b : Along) → b.pieces ≡ a.pieces → b.same ≡ a.same → AreSame (slice_get ps a.pieces) behind a.same → AreSame (slice_get ps b.pieces) behind b.same
still_same ps behind a b f h is =
    subst (λ n. AreSame (slice_get ps n) behind b.same) (sym f) (subst (AreSame (slice_get ps a.pieces) behind) (sym h) is)

-- with one more item the code's numbers don't end
pub items_fit : (ps : List Piece) (behind : ℕ) (a : Along) (i : ℕ) → HasPassed ps behind a i → i + 1 < 2 ^ 64 → min (a.items + 1) (2 ^ 64 - 1) ≡ a.items + 1
items_fit ps behind a i passed few = let c = passed.count in omega (arith, few, c)

-- one item of a piece is passed
pub item_passed : (ps : List Piece) (behind : ℕ) (a b : Along) (i : ℕ) (p : Piece) (e : Trace) → HasPassed ps behind a i → slice_get ps a.pieces ≡ Some p → slice_get (piece_traces p) a.items ≡ Some e
    → b.pieces ≡ a.pieces → b.items ≡ a.items + 1 → b.same ≡ a.same → HasPassed ps behind b (i + 1)
item_passed ps behind a b i p e passed here got f g h =
    record {
      count = let c = passed.count in let d = ap (λ n. length (pieces_traces (take n ps))) f in omega (arith, c, d, g);
      within = λ q there.
          let same : p ≡ q = some (sym here ∙ (ap (slice_get ps) (sym f) ∙ there)) in
          let l = slice_get_within (piece_traces p) a.items e got in
          let long = ap (λ z. length (piece_traces z)) same in
          omega (arith, g, l, long);
      same = still_same ps behind a b f h passed.same;
    }
  where
    some : {x y : Piece} → ◌≡◌ {A = Option Piece} (Some x) (Some y) → x ≡ y
    some h = cc

-- one behind all pieces is
pub one_passed : (ps : List Piece) (behind : ℕ) (a b : Along) (i : ℕ) → HasPassed ps behind a i → length ps ≤ a.pieces → b.pieces ≡ a.pieces → b.items ≡ a.items + 1 → b.same ≡ a.same → HasPassed ps behind b (i + 1)
one_passed ps behind a b i passed l f g h =
    record {
      count = let c = passed.count in let d = ap (λ n. length (pieces_traces (take n ps))) f in omega (arith, c, d, g);
      within = λ q there. let k = slice_get_within ps b.pieces q there in absurd (omega (arith, k, l, f));
      same = still_same ps behind a b f h passed.same;
    }

-- a piece is passed of which no item is left
pub piece_passed : (ps : List Piece) (behind : ℕ) (a b : Along) (i : ℕ) (p : Piece) → HasPassed ps behind a i → slice_get ps a.pieces ≡ Some p → slice_get (piece_traces p) a.items ≡ None
    → b.pieces ≡ a.pieces + 1 → b.items ≡ 0 → AreSame (slice_get ps b.pieces) behind b.same → HasPassed ps behind b i
piece_passed ps behind a b i p passed here none f g same =
    let next : b.pieces ≡ suc a.pieces = omega (arith, f) in
    let more = ap (λ n. pieces_traces (take n ps)) next ∙ (ap pieces_traces (take_next ps a.pieces p here) ∙ pieces_traces-append (take a.pieces ps) (p ∷ [])) in
    let long = ap length more ∙ length-append (pieces_traces (take a.pieces ps)) (pieces_traces (p ∷ [])) in
    let one : length (pieces_traces (p ∷ [])) ≡ length (piece_traces p) = length-append (piece_traces p) [] ∙ (let e : length (piece_traces p) + 0 ≡ length (piece_traces p) = omega arith in e) in
    let all = none_there (piece_traces p) a.items none in
    record {
      count = let c = passed.count in let w = passed.within p here in omega (arith, c, w, long, one, all, g);
      within = λ q there. omega (arith, g);
      same = same;
    }

-- ---- Of items that are as they were.

-- the next one, if the piece, or what stands behind all, is said to have it
pub same_told : (ps : List Piece) (behind : ℕ) (gone : List Gone) (a : Along) (i : ℕ) → HasPassed ps behind a i → a.items < a.same.count → trace_of (marks_of (told ps behind gone)) i ≡ Some (same_item (a.same.from + a.items))
same_told ps behind gone a i passed l = by (slice_get ps a.pieces) refl
  where
    by : (o : Option Piece) → slice_get ps a.pieces ≡ o → trace_of (marks_of (told ps behind gone)) i ≡ Some (same_item (a.same.from + a.items))
    by (Some p) here = next_within ps behind gone a i p (same_item (a.same.from + a.items)) passed here (passed.same.within p a.items here l)
    by None none = next_behind ps behind gone a i passed (none_past ps a.pieces none) ∙ ap (λ n. Some (same_item (n + a.items))) (sym (passed.same.past none))

-- so many of them are passed
pub same_passed : (ps : List Piece) (behind : ℕ) (a b : Along) (i k : ℕ) → HasPassed ps behind a i → k ≤ a.same.count - a.items → b.pieces ≡ a.pieces → b.items ≡ a.items + k → b.same ≡ a.same → HasPassed ps behind b (i + k)
same_passed ps behind a b i k passed l f g h = record {
  count = let c = passed.count in let d = ap (λ n. length (pieces_traces (take n ps))) f in omega (arith, c, d, g);
  within = λ p there. by p (ap (slice_get ps) (sym f) ∙ there) k l g;
  same = still_same ps behind a b f h passed.same;
}
  where
    by : (p : Piece) → slice_get ps a.pieces ≡ Some p → (n : ℕ) → n ≤ a.same.count - a.items → b.items ≡ a.items + n → b.items ≤ length (piece_traces p)
    by p here zero m e = let w = passed.within p here in omega (arith, w, e)
    by p here (suc n) m e =
        let got = slice_get_within (piece_traces p) (a.items + n) (same_item (a.same.from + (a.items + n))) (passed.same.within p (a.items + n) here (omega (arith, m))) in
        omega (arith, got, e)

-- and so they are told of
pub all_told : (ps : List Piece) (behind : ℕ) (gone : List Gone) (a : Along) (i from : ℕ) → HasPassed ps behind a i → HasNumber (marks_of (told ps behind gone)) i → from ≡ min (a.same.from + a.items) (2 ^ 64 - 1)
    → (k : ℕ) → k < a.same.count - a.items → trace_of (marks_of (told ps behind gone)) (i + k) ≡ Some (same_item (from + k))
all_told ps behind gone a i from passed numbered is k l =
    let first = same_told ps behind gone a i passed (omega (arith, l)) in
    let fits = numbered (a.same.from + a.items) first in
    let b : Along = record { pieces = a.pieces; items = a.items + k; same = a.same } in
    let there = same_passed ps behind a b i k passed (omega (arith, l)) refl refl refl in
    same_told ps behind gone b (i + k) there (omega (arith, l))
    ∙ ap (λ n. Some (same_item n)) (let e : a.same.from + (a.items + k) ≡ from + k = omega (arith, is, fits) in e)

-- ---- Where nothing is told of.

none_at_all : {X : Type 0} (xs : List X) → slice_get xs 0 ≡ None → xs ≡ []
none_at_all [] e = refl
none_at_all (x ∷ xs) e = absurd cc

pub nothing_told : (ps : List Piece) (behind : ℕ) (gone : List Gone) → slice_get ps 0 ≡ None → behind ≡ 0 → gone ≡ [] → marks_of (told ps behind gone) ≡ no_marks
nothing_told ps behind gone e b g = λ j. marks_of (told (none_at_all ps e j) (b j) (g j))

-- ---- How many of the first items are as they were.

-- where nothing is told of by pieces, and all stand behind them from the first one on, all are
pub all_untouched : (ps : List Piece) (gone : List Gone) (behind front : ℕ) → slice_get ps 0 ≡ None → behind ≡ 0 → AreUntouched (marks_of (told ps behind gone)) front
all_untouched ps gone behind front e b = λ j l.
    told_behind ps behind gone j (let none = ap (λ qs. length (pieces_traces qs)) (none_at_all ps e) in omega (arith, none))
    ∙ ap (λ n. Some (same_item n))
    (let none : length (pieces_traces ps) ≡ 0 = ap (λ qs. length (pieces_traces qs)) (none_at_all ps e) in let n : behind + (j - length (pieces_traces ps)) ≡ j = omega (arith, none, b) in n)

first_piece : (ps : List Piece) (p : Piece) (j : ℕ) (e : Trace) → slice_get ps 0 ≡ Some p → slice_get (piece_traces p) j ≡ Some e → slice_get (pieces_traces ps) j ≡ Some e
first_piece [] p j e there got = absurd cc
first_piece (q ∷ ps) p j e there got =
    let same : p ≡ q = cc in
    get_before (piece_traces q) (pieces_traces ps) j e (ap (λ (z : Piece). slice_get (piece_traces z) j) (sym same) ∙ got)

-- where the first piece begins with the first item, its are
pub first_untouched : (ps : List Piece) (behind : ℕ) (gone : List Gone) (to : ℕ) → slice_get ps 0 ≡ Some (Kept 0 to) → AreUntouched (marks_of (told ps behind gone)) to
first_untouched ps behind gone to there = λ j l.
    told_within ps behind gone j (same_item j)
    (first_piece ps (Kept 0 to) j (same_item j) there (run_item 0 (to - 0) j (omega (arith, l)) ∙ ap (λ n. Some (same_item n)) (let n : 0 + j ≡ j = omega arith in n)))
